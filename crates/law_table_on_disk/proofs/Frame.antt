-- A disk with other chains and pointers: all that doesn't read them is as it was.
use Rattle.std.proofs.Common.{◌≡◌, ℕ, List, refl, sym, ◌∙◌}
use Rattle.dn_model.specs.Table.{Row}
use Rattle.dn_model.specs.Disk.{Disk, IsMapped, maps}
use Rattle.dn_model.specs.Counts.{mappings, IsLogPage, IsFree}
use Rattle.dn_model.specs.Files.{named, bytes, files, IsSameFiles}
use Rattle.law_table.specs.Changes.{with_table}
use Rattle.law_table_on_disk.specs.Keeping.{KeepsFiles}

module _ (d : Disk) (chain : ℕ → List Row) (pointer : ℕ → ℕ) where
  abbrev new : Disk
  new = with_table d chain pointer

  pub maps_same : (ino idx : ℕ) → maps new ino idx ≡ maps d ino idx
  unfolding maps
  maps_same ino idx = refl

  pub mappings_same : (page : ℕ) → mappings new page ≡ mappings d page
  unfolding mappings maps
  mappings_same page = refl

  pub named_same : (name : List ℕ) → named new name ≡ named d name
  unfolding named
  named_same name = refl

  pub bytes_same : (ino : ℕ) → bytes new ino ≡ bytes d ino
  unfolding bytes maps
  bytes_same ino = refl

  pub files_same : IsSameFiles (files d) (files new)
  unfolding named bytes maps
  files_same name = refl

  pub mapped_kept : (page : ℕ) → IsMapped d page → IsMapped new page
  mapped_kept page m =
      let to = m.maps_to in
      record {
        ino = m.ino;
        idx = m.idx;
        maps_to = record {
          in_table = to.in_table;
          in_file = to.in_file;
          by = to.by;
          is = maps_same m.ino
              m.idx ∙ to.is;
          block = to.block;
        };
      }

  pub mapped_only : (page : ℕ) → IsMapped new page → IsMapped d page
  mapped_only page m =
      let to = m.maps_to in
      record {
        ino = m.ino;
        idx = m.idx;
        maps_to = record {
          in_table = to.in_table;
          in_file = to.in_file;
          by = to.by;
          is = sym (maps_same m.ino m.idx)
              ∙ to.is;
          block = to.block;
        };
      }

  pub log_page_kept : (page : ℕ) → IsLogPage d page → IsLogPage new page
  log_page_kept page p = record { ino = p.ino; in_table = p.in_table; used = p.used; listed = p.listed }

  pub log_page_only : (page : ℕ) → IsLogPage new page → IsLogPage d page
  log_page_only page p = record { ino = p.ino; in_table = p.in_table; used = p.used; listed = p.listed }

  pub free_kept : (page : ℕ) → IsFree d page → IsFree new page
  free_kept page free = record {
    data_page = free.data_page;
    in_no_log = λ p. free.in_no_log (log_page_only page p);
    unmapped = mappings_same
        page ∙ free.unmapped;
  }

  pub free_only : (page : ℕ) → IsFree new page → IsFree d page
  free_only page free = record {
    data_page = free.data_page;
    in_no_log = λ p. free.in_no_log (log_page_kept page p);
    unmapped = sym (mappings_same page) ∙ free.unmapped;
  }

  pub keeps_files : KeepsFiles d new
  keeps_files = record {
    maps_same = maps_same;
    mappings_same = mappings_same;
    mapped = record { kept = mapped_kept; only = mapped_only };
    log_pages = record { kept = log_page_kept; only = log_page_only };
    free = record { kept = free_kept; only = free_only };
    names = named_same;
    bytes_same = bytes_same;
    files_same = files_same;
  }
