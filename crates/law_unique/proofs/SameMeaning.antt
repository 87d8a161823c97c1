-- What two disks that are the same where they are read have in common.
use Rattle.std.proofs.Common.{
  ◌≡◌,
  ◌≢◌,
  inl,
  inr,
  ⊎_elim,
  ℕ,
  zero,
  suc,
  ◌/◌,
  ◌%◌,
  ◌^◌,
  ◌<◌,
  ◌≤◌,
  Bool,
  true,
  false,
  List,
  [],
  ◌∷◌,
  length,
  get_or,
  map,
  refl,
  sym,
  ◌∙◌,
  ap,
  subst,
  arith,
}
use Rattle.std.specs.Prelude.{if◌then◌else◌, ◌==◌, Option, Some, None, IsSome, IsNone, All, Contains}
use Rattle.std.specs.Option.{option_map}
use Rattle.std.specs.List.{range_with_len}
use Rattle.std.proofs.lemmas.Bool.{eq-eqb}
use Rattle.pm_layout.specs.declared.Geometry.{Geometry}
use Rattle.pm_layout.specs.Geometry.{InData}
use Rattle.dn_model.specs.Log.{Log}
use Rattle.dn_model.specs.Maps.{Mapping, size_of}
use Rattle.dn_model.specs.Table.{Row, row_of}
use Rattle.dn_model.specs.Disk.{Disk, Use, Free, Live, Dying, IsUsed, maps, rows}
use Rattle.dn_model.specs.Counts.{hit, total, mappings, IsLogPage, IsFree, Exact}
use Rattle.dn_model.specs.Files.{byte_of, mapped_byte, bytes, named, named_after, files, IsSameFiles}
use Rattle.dn_model.specs.Own.{Print, page_bytes, LivePlace, IsAlone, HasRow, IsOwn, Settled}
use Rattle.dn_model.specs.Faults.{HasFree}
use Rattle.dn_model.specs.Valid.{IsValid, IsLinked}
use Rattle.law_unique.specs.SameDisk.{IsRead, HasSameLogs, IsSameDisk}
use Rattle.law_unique.specs.Images.{SameDisksMeanTheSame}
use Rattle.law_unique.proofs.Sums.{total-same}
use Rattle.law_unique.proofs.Ranges.{map_range-same, root_in_table, root_used, named-in_table, named-live, maps-in_file}
use Rattle.law_unique.proofs.SameParts.{back, maps-same, rows-same}

row_there : (rs : List Row) (k : ℕ) (d : Row) → k < length rs → IsSome (row_of rs (get_or rs k d).page)
row_there [] k d lt = absurd (omega arith)
row_there (row ∷ rs) zero d lt = subst (λ (b : Bool). IsSome (if b then Some row else row_of rs row.page)) (sym (eq-eqb row.page row.page refl)) refl
row_there (row ∷ rs) (suc k) d lt = by_test (row.page == (get_or rs k d).page) (row_there rs k d (omega arith))
  where
    by_test : (b : Bool) → IsSome (row_of rs (get_or rs k d).page) → IsSome (if b then Some row else row_of rs (get_or rs k d).page)
    by_test true later = refl
    by_test false later = later

-- With the same logs alone.
module _ (d e : Disk) (same : HasSameLogs d e) where
  pub mappings-same : (page : ℕ) → mappings d page ≡ mappings e page
  unfolding mappings
  mappings-same page =
      total-same (λ ino. total 4096 (λ idx. hit page (maps d ino idx))) (λ ino. total 4096 (λ idx. hit page (maps e ino idx))) d.geometry.inodes
      (λ ino lt.
      total-same (λ idx. hit page (maps d ino idx)) (λ idx. hit page (maps e ino idx)) 4096 (λ idx _. ap (hit page) (maps-same d e same ino idx lt)))
      ∙ ap (λ (g : Geometry). total g.inodes (λ ino. total 4096 (λ idx. hit page (maps e ino idx)))) same.geometry

  pub names-same : 0 < d.geometry.inodes → IsUsed (d.inode 0).use_of → (name : List ℕ) → named d name ≡ named e name
  unfolding named
  names-same lt used name = ap (λ (log : Log). named_after name None log.items) (same.logs 0 lt used)

  pub log_page-same : (page : ℕ) → IsLogPage d page → IsLogPage e page
  log_page-same page at = record {
    ino = at.ino;
    in_table = subst (λ (g : Geometry). at.ino < g.inodes) same.geometry at.in_table;
    used = subst IsUsed (same.uses at.ino at.in_table) at.used;
    listed = subst (λ (log : Log). Contains log.pages page) (same.logs at.ino at.in_table at.used) at.listed;
  }

  pub live_place-same : (ino idx : ℕ) (m : Mapping) → LivePlace d ino idx m → LivePlace e ino idx m
  live_place-same ino idx m at = record {
    in_table = subst (λ (g : Geometry). ino < g.inodes) same.geometry at.in_table;
    live = sym (same.uses ino at.in_table) ∙ at.live;
    maps = sym (maps-same d e same ino idx at.in_table) ∙ at.maps;
  }

pub free-same : (d e : Disk) → HasSameLogs d e → (page : ℕ) → IsFree d page → IsFree e page
free-same d e same page free = record {
  data_page = subst (λ (g : Geometry). InData g page) same.geometry free.data_page;
  in_no_log = λ at. free.in_no_log (log_page-same e d (back d e same) page at);
  unmapped = sym (mappings-same d e same page) ∙ free.unmapped;
}

pub free_count-same : (d e : Disk) → HasSameLogs d e → (n : ℕ) → HasFree d n → HasFree e n
free_count-same d e same n free = (
  free.0,
  (λ page. ((λ at. free-same d e same page ((free.1 page).0 at)), (λ at. (free.1 page).1 (free-same e d (back d e same) page at)))),
  free.2,
  free.3,
)

pub exact-same : (d e : Disk) → HasSameLogs d e → rows d ≡ rows e → Exact d → Exact e
exact-same d e same same_rows exact = record {
  counts = subst (All (λ row. (row.uc ≡ 0) × (row.rfc ≡ mappings e row.page) × (row.rfc ≢ 0))) same_rows (λ k row lt.
      let one = exact.counts k row lt in (one.0, one.1 ∙ mappings-same d e same (get_or (rows d) k row).page, one.2));
  unshared = λ page none. subst (λ (n : ℕ). n ≤ 1) (mappings-same d e same page)
      (exact.unshared page (subst (λ (rs : List Row). IsNone (row_of rs page)) (sym same_rows) none));
}

-- With the same names.
pub linked-same : (d e : Disk) → ((name : List ℕ) → named d name ≡ named e name) → (i : ℕ) (u : Use) → IsLinked d i u → IsLinked e i u
linked-same d e same i Free linked = λ name at. linked name (same name ∙ at)
linked-same d e same i Live linked = record {
  name = linked.name;
  leads = sym (same linked.name) ∙ linked.leads;
  alone = λ other at. linked.alone
      other (same other ∙ at);
}
linked-same d e same i (Dying cut) linked = λ name at. linked name (same name ∙ at)

-- With the same bytes of pages that are read.
abbrev HasSameBytes : Disk → Disk → Type 0
HasSameBytes d e = (page k : ℕ) → k < 4096 → IsRead d page → byte_of d page k ≡ byte_of e page k

page_bytes-same : (d e : Disk) → HasSameBytes d e → (page : ℕ) → IsRead d page → page_bytes d page ≡ page_bytes e page
unfolding page_bytes
page_bytes-same d e same page read = map_range-same (byte_of d page) (byte_of e page) 4096 (λ k lt. same page k lt read)

live_used : (d : Disk) (ino : ℕ) → (d.inode ino).use_of ≡ Live → IsUsed (d.inode ino).use_of
live_used d ino live = subst IsUsed (sym live) tt

module _ (d e : Disk) (valid : IsValid d) (same : HasSameLogs d e) (same_rows : rows d ≡ rows e) (same_bytes : HasSameBytes d e) where
  mapped_read : (ino idx : ℕ) (m : Mapping) → ino < d.geometry.inodes → maps d ino idx ≡ Some m → IsRead d m.block
  mapped_read ino idx m lt at =
      inl (record {
        ino = ino;
        idx = idx;
        maps_to = record {
          in_table = lt;
          in_file = maps-in_file d valid ino idx m lt at;
          by = m;
          is = at;
          block = refl;
        };
      })

  place_read : (ino idx : ℕ) (m : Mapping) → LivePlace d ino idx m → IsRead d m.block
  place_read ino idx m at = mapped_read ino idx m at.in_table at.maps

  mapped_byte-same : (ino idx k : ℕ) → ino < d.geometry.inodes → k < 4096 → mapped_byte d k (maps d ino idx) ≡ mapped_byte e k (maps e ino idx)
  mapped_byte-same ino idx k lt small = by_map (maps d ino idx) refl ∙ ap (mapped_byte e k) (maps-same d e same ino idx lt)
    where
      by_map : (m : Option Mapping) → maps d ino idx ≡ m → mapped_byte d k m ≡ mapped_byte e k m
      by_map None at = refl
      by_map (Some m) at = same_bytes m.block k small (mapped_read ino idx m lt at)

  pub bytes-same : (ino : ℕ) → ino < d.geometry.inodes → (d.inode ino).use_of ≡ Live → bytes d ino ≡ bytes e ino
  unfolding bytes
  bytes-same ino lt live =
      map_range-same (λ j. mapped_byte d (j % 4096) (maps d ino (j / 4096))) (λ j. mapped_byte e (j % 4096) (maps e ino (j / 4096)))
      (size_of (d.inode ino).log)
      (λ j _. mapped_byte-same ino (j / 4096) (j % 4096) lt (omega arith))
      ∙ ap (λ (log : Log). map (λ j. mapped_byte e (j % 4096) (maps e ino (j / 4096))) (range_with_len 0 (size_of log)))
      (same.logs ino lt (live_used d ino live))

  pub files-same : IsSameFiles (files d) (files e)
  files-same name = by_name (named d name) refl ∙ ap (option_map (bytes e)) (names-same d e same (root_in_table d valid) (root_used d valid) name)
    where
      by_name : (n : Option ℕ) → named d name ≡ n → option_map (bytes d) n ≡ option_map (bytes e) n
      by_name None at = refl
      by_name (Some ino) at = ap Some (bytes-same ino (named-in_table d valid name ino at).1 (named-live d valid name ino at))

  pub own_to : (print : Print) → IsOwn print d → IsOwn print e
  own_to print own = record {
    zeros = λ ino idx k m at past small.
        let here = live_place-same e d (back d e same) ino idx m at in
        let size : size_of (d.inode ino).log ≡ size_of (e.inode ino).log = ap size_of (same.logs ino here.in_table (live_used d ino here.live)) in
        sym (same_bytes m.block k small (place_read ino idx m here)) ∙ own.zeros ino idx k m here (omega (arith, past, size)) small;
    prints = subst (All (λ row. row.print ≡ print (page_bytes e row.page))) same_rows (λ k row lt.
        own.prints k row lt ∙ ap print (page_bytes-same d e same_bytes (get_or (rows d) k row).page (inr (row_there (rows d) k row lt))));
    complete = λ ino idx m at complete. ⊎_elim
        (λ (alone : IsAlone m). inl alone)
        (λ (row : HasRow d m.block). inr (subst (λ (rs : List Row). IsSome (row_of rs m.block)) same_rows row))
        (own.complete ino idx m (live_place-same e d (back d e same) ino idx m at) complete);
  }

  pub own_from : (print : Print) → IsOwn print e → IsOwn print d
  own_from print own = record {
    zeros = λ ino idx k m at past small.
        let there = live_place-same d e same ino idx m at in
        let size : size_of (d.inode ino).log ≡ size_of (e.inode ino).log = ap size_of (same.logs ino at.in_table (live_used d ino at.live)) in
        same_bytes m.block k small (place_read ino idx m at) ∙ own.zeros ino idx k m there (omega (arith, past, size)) small;
    prints = λ k row lt.
        (subst (All (λ row. row.print ≡ print (page_bytes e row.page))) (sym same_rows) own.prints) k row lt
        ∙ ap print (sym (page_bytes-same d e same_bytes (get_or (rows d) k row).page (inr (row_there (rows d) k row lt))));
    complete = λ ino idx m at complete. ⊎_elim
        (λ (alone : IsAlone m). inl alone)
        (λ (row : HasRow e m.block). inr (subst (λ (rs : List Row). IsSome (row_of rs m.block)) (sym same_rows) row))
        (own.complete ino idx m (live_place-same d e same ino idx m at) complete);
  }

  row-to : (page : ℕ) → HasRow d page → HasRow e page
  row-to page = subst (λ (rs : List Row). IsSome (row_of rs page)) same_rows

  row-from : (page : ℕ) → HasRow e page → HasRow d page
  row-from page = subst (λ (rs : List Row). IsSome (row_of rs page)) (sym same_rows)

  place-from : (ino idx : ℕ) (m : Mapping) → LivePlace e ino idx m → LivePlace d ino idx m
  place-from = live_place-same e d (back d e same)

  place-to : (ino idx : ℕ) (m : Mapping) → LivePlace d ino idx m → LivePlace e ino idx m
  place-to = live_place-same d e same

  place_bytes : (ino idx : ℕ) (m : Mapping) → LivePlace d ino idx m → page_bytes d m.block ≡ page_bytes e m.block
  place_bytes ino idx m at = page_bytes-same d e same_bytes m.block (place_read ino idx m at)

  pub settled_to : Settled d → Settled e
  settled_to s = record {
    complete = λ ino idx m at. s.complete ino idx m (place-from ino idx m at);
    done = λ ino idx m at. ⊎_elim (λ (alone : IsAlone m). inl alone) (λ (row : HasRow d m.block). inr (row-to m.block row))
        (s.done ino idx m (place-from ino idx m at));
    shared = λ i j idx jdx m n at at' e'.
        let here = place-from i idx m at in let there = place-from j jdx n at' in
        s.shared i j idx jdx m n here there (place_bytes i idx m here ∙ e' ∙ sym (place_bytes j jdx n there));
  }

  pub settled_from : Settled e → Settled d
  settled_from s = record {
    complete = λ ino idx m at. s.complete ino idx m (place-to ino idx m at);
    done = λ ino idx m at. ⊎_elim (λ (alone : IsAlone m). inl alone) (λ (row : HasRow e m.block). inr (row-from m.block row))
        (s.done ino idx m (place-to ino idx m at));
    shared = λ i j idx jdx m n at at' e'.
        s.shared i j idx jdx m n (place-to i idx m at) (place-to j jdx n at') (sym (place_bytes i idx m at) ∙ e' ∙ place_bytes j jdx n at');
  }

pub same_bytes_from_words : (d e : Disk) → IsSameDisk d e → HasSameBytes d e
same_bytes_from_words d e same page k lt read = ap (λ (w : ℕ). w / 256 ^ (k % 8) % 256) (same.words page (k / 8) (omega arith) read)

pub means_the_same : SameDisksMeanTheSame
means_the_same d e valid same =
    let same_rows : rows d ≡ rows e = rows-same d e same.inodes.geometry same.chains in
    let same_bytes : HasSameBytes d e = same_bytes_from_words d e same in
    record {
      maps = maps-same d e same.inodes;
      mappings = mappings-same d e same.inodes;
      rows = same_rows;
      names = names-same d e same.inodes (root_in_table d valid) (root_used d valid);
      files = files-same d e valid same.inodes same_rows same_bytes;
      free = λ page. (free-same d e same.inodes page, free-same e d (back d e same.inodes) page);
      free_count = λ n. (free_count-same d e same.inodes n, free_count-same e d (back d e same.inodes) n);
      exact = (exact-same d e same.inodes same_rows, exact-same e d (back d e same.inodes) (sym same_rows));
      settled = (settled_to d e valid same.inodes same_rows same_bytes, settled_from d e valid same.inodes same_rows same_bytes);
      own = λ print. (own_to d e valid same.inodes same_rows same_bytes print, own_from d e valid same.inodes same_rows same_bytes print);
    }
