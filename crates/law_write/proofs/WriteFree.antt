-- Which pages are free after Write items came.
use Rattle.std.proofs.Common.{◌≡◌, ◌≢◌, ◌⊎◌, inl, inr, ⊎_elim, ℕ, ◌+◌, ◌<◌, ◌≤◌, List, refl, sym, ◌∙◌, ap, subst, arith}
use Rattle.std.specs.Prelude.{Option, Some, None, IsNone, Contains}
use Rattle.std.proofs.lemmas.Bool.{cases_eq}
use Rattle.std.proofs.lemmas.List.Elements.{Contains-append_left, Contains-append_right}
use Rattle.pm_layout.specs.declared.Geometry.{Geometry}
use Rattle.pm_layout.specs.Geometry.{InData}
use Rattle.log_entry.specs.Spelling.{pages_of}
use Rattle.dn_model.specs.Maps.{Mapping, size_of}
use Rattle.dn_model.specs.Table.{row_of}
use Rattle.dn_model.specs.Disk.{Disk, Inode, IsUsed, IsMapped, MapsTo, maps, rows}
use Rattle.dn_model.specs.Counts.{hit, mappings, IsLogPage, IsFree}
use Rattle.dn_model.specs.Valid.{IsValid}
use Rattle.law_write.specs.Events.{IsUnused}
use Rattle.law_write.specs.Writing.{Writes, WritesWell, IsOverwritten}
use Rattle.law_write.proofs.Counting.{total-lt, total-some, terms-le}
use Rattle.law_write.proofs.MappedPlaces.{mapping-below, uncut, maps-in_file}
use Rattle.law_write.proofs.Unread.{read_in_data}
use Rattle.law_write.proofs.WriteCounts.{
  hit_here,
  hit_other,
  places,
  place-le,
  places-le,
  own_or_other,
  maps_old,
  mappings-written,
  mappings-written_other,
  hit-written,
}
use Rattle.law_write.proofs.WriteValid.{use_kept, was_used, log_page_cases, not_mapped, written_valid}

-- a mapping that hits the page is there, with this block
hit_some : (page : ℕ) (m : Option Mapping) → 1 ≤ hit page m → (x : Mapping) × (m ≡ Some x) × (x.block ≡ page)
hit_some page None some = absurd (omega arith)
hit_some page (Some x) some = elim (cases_eq x.block page) [
  | inl e ↦ (x, refl, e)
  | inr ne ↦ absurd (omega (arith, hit_other page x ne))
]

-- two places of a file on a page without a row are one place
pub places_apart : (d : Disk) → IsValid d → (ino i j : ℕ) (x y : Mapping) → ino < d.geometry.inodes → maps d ino i ≡ Some x → maps d ino j ≡ Some y
    → i ≢ j
    → IsNone (row_of (rows d) x.block) → x.block ≢ y.block
places_apart d valid ino i j x y in_table at_i at_j ne none same =
    let one : hit x.block (maps d ino i) ≡ 1 = ap (hit x.block) at_i ∙ hit_here x.block x refl in
    let two : hit x.block (maps d ino j) ≡ 1 = ap (hit x.block) at_j ∙ hit_here x.block y (sym same) in
    let both = terms-le (λ idx. hit x.block (maps d ino idx)) 4096 i j (maps-in_file d valid ino i x in_table at_i)
    (maps-in_file d valid ino j y in_table at_j) ne in
    too_many _ _ _ _ one two both (places-le d x.block ino in_table) (valid.single.unshared x.block none)
  where
    too_many : (a b c e : ℕ) → a ≡ 1 → b ≡ 1 → a + b ≤ c → c ≤ e → e ≤ 1 → ⊥
    too_many a b c e one two both le few = omega arith

module _ (ino : ℕ) (old new : Disk) (w : Writes ino old new) where
  is_used : IsUsed (new.inode ino).use_of
  is_used = subst IsUsed (sym (use_kept ino old new w ino)) (was_used ino old new w)

  in_new_table : (i : ℕ) → i < old.geometry.inodes → i < new.geometry.inodes
  in_new_table i lt = omega (arith, lt, ap (λ (g : Geometry). g.inodes) w.relogs.geometry)

  -- a page of a log stays one
  log_page-kept : (page : ℕ) → IsLogPage old page → IsLogPage new page
  log_page-kept page p = elim (cases_eq p.ino ino) [
    | inl e ↦ record {
      ino = ino;
      in_table = in_new_table ino w.in_table;
      used = is_used;
      listed = subst (λ (ps : List ℕ). Contains ps page) (sym w.grown.pages)
          (Contains-append_left (old.inode ino).log.pages w.grown.fresh page (subst (λ (i : ℕ). Contains (old.inode i).log.pages page) e p.listed));
    }
    | inr ne ↦ record {
      ino = p.ino;
      in_table = in_new_table p.ino p.in_table;
      used = subst IsUsed (sym (use_kept ino old new w p.ino)) p.used;
      listed = subst (λ (n : Inode). Contains n.log.pages page) (sym (w.relogs.others p.ino ne)) p.listed;
    }
  ]

  -- a fresh page is a log page
  pub fresh-log_page : (page : ℕ) → Contains w.grown.fresh page → IsLogPage new page
  fresh-log_page page fresh = record {
    ino = ino;
    in_table = in_new_table ino w.in_table;
    used = is_used;
    listed = subst (λ (ps : List ℕ). Contains ps page) (sym w.grown.pages) (Contains-append_right (old.inode ino).log.pages w.grown.fresh page fresh);
  }

  -- a free page that the event doesn't take stays free
  pub free-kept : (page : ℕ) → IsFree old page → ((i : ℕ) → i < w.n → w.blocks i ≢ page) → (Contains w.grown.fresh page → ⊥) → IsFree new page
  free-kept page free no_block not_fresh = record {
    data_page = subst (λ (g : Geometry). InData g page) (sym w.relogs.geometry) free.data_page;
    in_no_log = λ p. ⊎_elim (λ (was : IsLogPage old page). free.in_no_log was) not_fresh (log_page_cases ino old new w page p);
    unmapped = omega (arith, mappings-written_other ino old new w page no_block, free.unmapped);
  }

  pub fresh-not_free : (page : ℕ) → Contains w.grown.fresh page → IsFree new page → ⊥
  fresh-not_free page fresh free = free.in_no_log (fresh-log_page page fresh)

module _ (ino : ℕ) (old new : Disk) (w : Writes ino old new) (ok : WritesWell ino old new w) where
  -- a page of the event is mapped
  pub block-not_free : (i : ℕ) → i < w.n → IsFree new (w.blocks i) → ⊥
  block-not_free i lt free =
      let here = w.own i lt in
      let in_table : ino < new.geometry.inodes = in_new_table ino old new w ino w.in_table in
      let one : hit (w.blocks i) (maps new ino (w.first + i)) ≡ 1 = ap (hit (w.blocks i)) here.is ∙ hit_here (w.blocks i) here.by here.page in
      omega (
        arith,
        one,
        place-le new (w.blocks i) ino (w.first + i) in_table (maps-in_file new (written_valid ino old new w ok) ino (w.first + i)
            here.by in_table here.is),
        free.unmapped,
      )

  -- a place of the old file that the event leaves alone is where it was, if the size doesn't fall
  other_stays : size_of (old.inode ino).log ≤ w.size → (idx : ℕ) (x : Mapping) → maps old ino idx ≡ Some x → (idx < w.first) ⊎ (w.first + w.n ≤ idx)
      → maps new ino idx ≡ Some x
  other_stays grows idx x was out = w.other idx out ∙ uncut w.size idx (maps old ino idx)
      (inside idx _ _ (mapping-below (old.inode ino).log idx x (sym (maps_old ino old new w idx) ∙ was)) grows) ∙ was
    where
      inside : (i less more : ℕ) → i < pages_of less → less ≤ more → i < pages_of more
      inside i less more lt le = omega arith

  -- a page that is free afterwards was free, or the event overwrote its place
  pub free_cases : size_of (old.inode ino).log ≤ w.size → (page : ℕ) → IsFree new page → IsFree old page ⊎ IsOverwritten ino old new w page
  free_cases grows page free = elim (cases_eq (mappings old page) 0) [
    | inl none ↦ inl (record {
      data_page = subst (λ (g : Geometry). InData g page) w.relogs.geometry free.data_page;
      in_no_log = λ p. free.in_no_log (log_page-kept ino old new w page p);
      unmapped = none;
    })
    | inr some ↦
        let found = total-some (λ idx. hit page (maps old ino idx)) 4096 (here _ _ _ _ (mappings-written ino old new w page) free.unmapped
        (places-le new page ino in_table) some) in
        let x = hit_some page (maps old ino found.0) found.2 in
        inr (⊎_elim
        (λ (own : (i : ℕ) × (i < w.n) × (found.0 ≡ w.first + i)). record {
          i = own.0;
          below = own.1;
          by = x.0;
          was = ap (maps old ino) (sym own.2) ∙
              x.1;
          block = x.2;
        })
        (λ (out : (found.0 < w.first) ⊎ (w.first + w.n ≤ found.0)). absurd (still found.0 found.1 x.0 x.2 (other_stays grows found.0 x.0 x.1 out)))
        (own_or_other w.first w.n found.0))
  ]
    where
      in_table : ino < new.geometry.inodes
      in_table = in_new_table ino old new w ino w.in_table

      here : (mapped_new places_old mapped_old places_new : ℕ) → mapped_new + places_old ≡ mapped_old + places_new → mapped_new ≡ 0
          → places_new ≤ mapped_new → mapped_old ≢ 0 → 1 ≤ places_old
      here mapped_new places_old mapped_old places_new e none le some = omega arith

      still : (idx : ℕ) → idx < 4096 → (x : Mapping) → x.block ≡ page → maps new ino idx ≡ Some x → ⊥
      still idx lt x block is =
          let one : hit page (maps new ino idx) ≡ 1 = ap (hit page) is ∙ hit_here page x block in
          omega (arith, one, place-le new page ino idx in_table lt, free.unmapped)

  -- it is none of the pages that the event took
  pub free-no_block : (page i : ℕ) → IsFree new page → i < w.n → w.blocks i ≢ page
  free-no_block page i free lt same = block-not_free i lt (subst (IsFree new) (sym same) free)

  -- an overwritten page without a row is free
  pub overwritten-free : (page : ℕ) → IsOverwritten ino old new w page → IsNone (row_of (rows old) page) → IsFree new page
  overwritten-free page over none = record {
    data_page = subst (λ (g : Geometry). InData g page) (sym w.relogs.geometry) (read_in_data old ok.valid page (inl mapped));
    in_no_log = λ p. ⊎_elim (λ (was : IsLogPage old page). ok.valid.single.log_unmapped page was mapped)
        (λ (fresh : Contains w.grown.fresh page). not_mapped old page (ok.fresh page fresh) mapped) (log_page_cases ino old new w page p);
    unmapped = gone _ _ _ _ (mappings-written ino old new w page) fewer (ok.valid.single.unshared page none);
  }
    where
      at_place : MapsTo old ino (w.first + over.i) page
      at_place = record {
        in_table = w.in_table;
        in_file = maps-in_file old ok.valid ino (w.first + over.i) over.by w.in_table over.was;
        by = over.by;
        is = over.was;
        block = over.block;
      }

      mapped : IsMapped old page
      mapped = record { ino = ino; idx = w.first + over.i; maps_to = at_place }

      no_block : (i : ℕ) → i < w.n → w.blocks i ≢ page
      no_block i lt same = not_mapped old page (subst (IsUnused old) same (ok.blocks i lt)) mapped

      fewer : places new page ino < places old page ino
      fewer =
          let before : hit page (maps old ino (w.first + over.i)) ≡ 1 = ap (hit page) over.was ∙ hit_here page over.by over.block in
          let here = w.own over.i over.below in
          let after : hit page (maps new ino (w.first + over.i)) ≡ 0 = ap (hit page) here.is ∙ hit_other page here.by
          (λ e. no_block over.i over.below (sym here.page ∙ e)) in
          total-lt (λ idx. hit page (maps old ino idx)) (λ idx. hit page (maps new ino idx)) 4096 (w.first + over.i) at_place.in_file
          (λ idx lt. hit-written ino old new w page idx (λ i below e. no_block i below)) (omega (arith, before, after))

      gone : (mapped_new places_old mapped_old places_new : ℕ) → mapped_new + places_old ≡ mapped_old + places_new → places_new < places_old
          → mapped_old ≤ 1 → mapped_new ≡ 0
      gone mapped_new places_old mapped_old places_new e lt few = omega arith
