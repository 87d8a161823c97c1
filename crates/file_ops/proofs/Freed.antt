-- Which pages are unused after a change of a file's data.
use Rattle.std.proofs.Common.{◌≡◌, ◌≢◌, ◌⊎◌, inl, inr, ⊎_elim, ℕ, ◌+◌, ◌<◌, ◌≤◌, List, refl, sym, ◌∙◌, ap, subst, arith}
use Rattle.std.specs.Prelude.{Option, Some, None, IsNone, Contains}
use Rattle.std.proofs.lemmas.Bool.{cases_eq}
use Rattle.std.proofs.lemmas.List.Elements.{Contains-append_left}
use Rattle.pm_layout.specs.declared.Geometry.{Geometry}
use Rattle.pm_layout.specs.Geometry.{InData}
use Rattle.dn_model.specs.Maps.{Mapping}
use Rattle.dn_model.specs.Table.{Row, row_of}
use Rattle.dn_model.specs.Disk.{Disk, Inode, IsUsed, IsMapped, maps, rows}
use Rattle.dn_model.specs.Counts.{hit, mappings, IsLogPage}
use Rattle.law_write.specs.Events.{IsUnused}
use Rattle.law_write.specs.Writing.{Writes, WritesWell}
use Rattle.law_write.proofs.Counting.{total-some, term-le}
use Rattle.law_write.proofs.MappedPlaces.{maps-in_file}
use Rattle.law_write.proofs.Unread.{read_in_data}
use Rattle.law_write.proofs.WriteCounts.{hit_here, hit_other}
use Rattle.law_write.proofs.WriteFree.{free-kept, fresh-not_free, free-no_block, block-not_free}
use Rattle.law_write.proofs.WriteValid.{use_kept, rows_kept, not_mapped, log_page_cases}
use Rattle.law_cut.specs.DropLaws.{Drops, dropped_from}
use Rattle.law_cut.proofs.Dropped.{drop_mappings}
use Rattle.file_ops.specs.Ends.{IsFreed}

hit_some : (page : ℕ) (m : Option Mapping) → 1 ≤ hit page m → (x : Mapping) × (m ≡ Some x) × (x.block ≡ page)
hit_some page None some = absurd (omega arith)
hit_some page (Some x) some = elim (cases_eq x.block page) [
  | inl e ↦ (x, refl, e)
  | inr ne ↦ absurd (omega (arith, hit_other page x ne))
]

module _ (ino : ℕ) (old new : Disk) (w : Writes ino old new) (ok : WritesWell ino old new w) (from n : ℕ) (drops : Drops ino old new w from n) where
  pub rows_same : rows new ≡ rows old
  rows_same = rows_kept ino old new w

  row_same : (page : ℕ) → row_of (rows new) page ≡ row_of (rows old) page
  row_same page = ap (λ (rs : List Row). row_of rs page) rows_same

  -- a page of a log stays one
  log_page-kept : (page : ℕ) → IsLogPage old page → IsLogPage new page
  log_page-kept page p = elim (cases_eq p.ino ino) [
    | inl e ↦ record {
      ino = p.ino;
      in_table = in_new p.in_table;
      used = subst IsUsed (sym (use_kept ino old new w p.ino)) p.used;
      listed = subst (λ (i : ℕ). Contains (new.inode i).log.pages page) (sym e) (subst (λ (ps : List ℕ). Contains ps page) (sym w.grown.pages)
          (Contains-append_left (old.inode ino).log.pages w.grown.fresh page (subst (λ (i : ℕ). Contains (old.inode i).log.pages page) e p.listed)));
    }
    | inr ne ↦ record {
      ino = p.ino;
      in_table = in_new p.in_table;
      used = subst IsUsed (sym (use_kept ino old new w p.ino)) p.used;
      listed = subst (λ (n : Inode). Contains n.log.pages page) (sym (w.relogs.others p.ino ne)) p.listed;
    }
  ]
    where
      in_new : p.ino < old.geometry.inodes → p.ino < new.geometry.inodes
      in_new lt = subst (λ (k : ℕ). p.ino < k) (sym (ap (λ (g : Geometry). g.inodes) w.relogs.geometry)) lt

  -- an unused page that the event doesn't take stays unused
  pub unused_kept : (page : ℕ) → IsUnused old page → ((i : ℕ) → i < w.n → w.blocks i ≢ page) → (Contains w.grown.fresh page → ⊥) → IsUnused new page
  unused_kept page unused no_block not_fresh = record {
    free = free-kept ino old new w page unused.free no_block not_fresh;
    no_row = subst (λ (r : Option Row). IsNone r) (sym (row_same page)) unused.no_row;
  }

  mapped_at : (page : ℕ) → IsFreed old ino from n page → IsMapped old page
  mapped_at page freed = record {
    ino = ino;
    idx = from + freed.i;
    maps_to = record {
      in_table = w.in_table;
      in_file = maps-in_file old ok.valid ino (from + freed.i) freed.by w.in_table freed.was;
      by = freed.by;
      is = freed.was;
      block = freed.block;
    };
  }

  pub freed_mapped : (page : ℕ) → IsFreed old ino from n page → IsUnused old page → ⊥
  freed_mapped page freed unused = not_mapped old page unused (mapped_at page freed)

  -- a page that the event leaves, and that has no row, is unused
  pub freed_unused : (page : ℕ) → IsFreed old ino from n page → IsUnused new page
  freed_unused page freed = record {
    free = record {
      data_page = subst (λ (g : Geometry). InData g page) (sym w.relogs.geometry) (read_in_data old ok.valid page (inl (mapped_at page freed)));
      in_no_log = λ p. ⊎_elim (λ (was : IsLogPage old page). ok.valid.single.log_unmapped page was (mapped_at page freed))
          (λ (fresh : Contains w.grown.fresh page). freed_mapped page freed (ok.fresh page fresh)) (log_page_cases ino old new w page p);
      unmapped = gone _ _ _ _ fell one counted (ok.valid.single.unshared page freed.no_row);
    };
    no_row = subst (λ (r : Option Row). IsNone r) (sym (row_same page)) freed.no_row;
  }
    where
      fell : mappings new page + dropped_from old ino from n page ≡ mappings old page
      fell = drop_mappings ino old new w from n drops page (λ i lt e. freed_mapped page freed (subst (IsUnused old) e (ok.blocks i lt)))

      one : hit page (maps old ino (from + freed.i)) ≡ 1
      one = ap (hit page) freed.was ∙ hit_here page freed.by freed.block

      counted : hit page (maps old ino (from + freed.i)) ≤ dropped_from old ino from n page
      counted = term-le (λ i. hit page (maps old ino (from + i))) n freed.i freed.below

      gone : (now fall before h : ℕ) → now + fall ≡ before → h ≡ 1 → h ≤ fall → before ≤ 1 → now ≡ 0
      gone now fall before h e one le few = omega arith

  -- and no other page comes free
  pub unused_only : (page : ℕ) → IsUnused new page → IsUnused old page ⊎ IsFreed old ino from n page
  unused_only page unused = elim (cases_eq (mappings old page) 0) [
    | inl none ↦ inl (record {
      free = record {
        data_page = subst (λ (g : Geometry). InData g page) w.relogs.geometry unused.free.data_page;
        in_no_log = λ p. unused.free.in_no_log (log_page-kept page p);
        unmapped = none;
      };
      no_row = no_row;
    })
    | inr some ↦
        let found = total-some (λ i. hit page (maps old ino (from + i))) n (here _ _ _ fell unused.free.unmapped some) in
        let x = hit_some page (maps old ino (from + found.0)) found.2 in
        inr (record { i = found.0; below = found.1; by = x.0; was = x.1; block = x.2; no_row = no_row })
  ]
    where
      no_row : IsNone (row_of (rows old) page)
      no_row = subst (λ (r : Option Row). IsNone r) (row_same page) unused.no_row

      fell : mappings new page + dropped_from old ino from n page ≡ mappings old page
      fell = drop_mappings ino old new w from n drops page (λ i lt. free-no_block ino old new w ok page i unused.free lt)

      here : (now fall before : ℕ) → now + fall ≡ before → now ≡ 0 → before ≢ 0 → 1 ≤ fall
      here now fall before e none some = omega arith

  -- those that it takes are used
  pub block_used : (i : ℕ) → i < w.n → IsUnused new (w.blocks i) → ⊥
  block_used i lt unused = block-not_free ino old new w ok i lt unused.free

  pub fresh_used : (page : ℕ) → Contains w.grown.fresh page → IsUnused new page → ⊥
  fresh_used page fresh unused = fresh-not_free ino old new w page fresh unused.free
