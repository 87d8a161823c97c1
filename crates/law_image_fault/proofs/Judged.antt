-- The rules behind the links, one after another.
use Rattle.std.proofs.Common.{◌≡◌, ◌≢◌, ◌⊎◌, inl, inr, ℕ, ◌+◌, ◌<◌, ◌≤◌, List, get_or, refl, arith}
use Rattle.std.specs.Prelude.{Contains}
use Rattle.std.proofs.lemmas.Bool.{cases_eq}
use Rattle.std.proofs.lemmas.List.Elements.{Contains-get_or}
use Rattle.pm_device.specs.Reading.{Reads}
use Rattle.pm_layout.specs.Geometry.{directs, slots}
use Rattle.dn_model.specs.Rolled.{rolled}
use Rattle.dn_model.specs.Table.{Row}
use Rattle.dn_model.specs.Disk.{Disk, PointersSay, rows}
use Rattle.dn_model.specs.Counts.{mappings, IsNear, Near}
use Rattle.dn_model.specs.Valid.{IsRow}
use Rattle.dn_model.specs.Image.{HasNoFault}
use Rattle.dn_model.specs.Faults.{HasLinks, HasTable, HasPointers, IsDouble, FaultOf, bad_table, bad_pointer, double_mapped, bad_count, crowded}
use Rattle.dn_model.specs.declared.fault.ImageFault.{ImageFault}
use Rattle.dn_model.specs.declared.fault.ImageFault.TheVariants.{BadTable, BadPointer, DoubleMapped, BadCount, Crowded}
use Rattle.law_table.proofs.Rows.{chain_listed, at_listed}
use Rattle.law_table_read.specs.Tables.{HasChains}
use Rattle.law_table_read.proofs.Decisions.{
  Decided,
  decide_lt,
  decide_le,
  decide_both,
  decide_either,
  decide_as,
  decide_not,
  least_or_none,
  all_or_first,
  decide_listed,
}
use Rattle.law_table_read.proofs.Tables.{tables_read_or_faulty}
use Rattle.law_image_fault.specs.Rules.{FreePages, are_few, are_two, LinkedImagesAreJudged}
use Rattle.law_image_fault.proofs.Pages.{decide_double, double_in_data, single_from}
use Rattle.law_image_fault.proofs.Frees.{free_pages_are_counted}
use Rattle.law_image_fault.proofs.ReadDisk.{read_disk, has_table, pointers_read, stands}

-- a row of a table may stand where it stands
listed_row : (c : List ℕ) (d : Disk) → HasTable c d → (row : Row) → Contains (rows d) row → (p : ℕ) × (k : ℕ) × IsRow d.geometry p k row
unfolding rows
listed_row c d x row listed =
    let found = chain_listed d.chain 0 (directs d.geometry) row listed in
    (found.0, found.2.0, x.table found.0 found.2.0 row (omega (arith, found.1)) (at_listed (d.chain found.0) row found.2))

-- Pointers.
module _ (c : List ℕ) (d : Disk) (x : HasTable c d) (reads : Reads (PointersSay d) (rolled c)) where
  abbrev IsMisled : ℕ → Row → Type 0
  IsMisled p row = (row.page ≡ p) × (d.pointer p ≢ row.slot + 1)

  abbrev IsBadPointer : ℕ → Type 0
  IsBadPointer p = (slots d.geometry < d.pointer p) ⊎ ((row : Row) × Contains (rows d) row × (row.page ≡ p) × (d.pointer p ≢ row.slot + 1))

  abbrev HasMisled : ℕ → Type 0
  HasMisled p = (row : Row) × Contains (rows d) row × IsMisled p row

  decide_pointer : (p : ℕ) → Decided (IsBadPointer p)
  decide_pointer p =
      decide_either (slots d.geometry < d.pointer p) ((row : Row) × Contains (rows d) row × (row.page ≡ p) × (d.pointer p ≢ row.slot + 1))
      (decide_lt (slots d.geometry) (d.pointer p))
      (decide_as (HasMisled p) ((row : Row) × Contains (rows d) row × (row.page ≡ p) × (d.pointer p ≢ row.slot + 1)) (λ m. (m.0, m.1, m.2.0, m.2.1))
      (λ m. (m.0, m.1, (m.2, m.3)))
      (decide_listed (IsMisled p) (λ row. decide_both (row.page ≡ p) (d.pointer p ≢ row.slot + 1) (cases_eq row.page p)
      (decide_not (d.pointer p ≡ row.slot + 1) (cases_eq (d.pointer p) (row.slot + 1)))) (rows d)))

  module _ (none : (p : ℕ) → p < d.geometry.pages → IsBadPointer p → ⊥) where
    row_led : (row : Row) → Contains (rows d) row → d.pointer row.page ≡ row.slot + 1
    row_led row listed = elim (cases_eq (d.pointer row.page) (row.slot + 1)) [
      | inl e ↦ e
      | inr ne ↦ let is = listed_row c d x row listed in absurd (none row.page is.2.data_page.high (inr (row, listed, refl, ne)))
    ]

    pointer_small : (p : ℕ) → p < d.geometry.pages → d.pointer p ≤ slots d.geometry
    pointer_small p lt = elim (decide_le (d.pointer p) (slots d.geometry)) [
      | inl le ↦ le
      | inr not ↦ absurd (none p lt (inl (omega (arith, not))))
    ]

    has_pointers : HasPointers c d
    has_pointers = record {
      table = x;
      reads = reads;
      pointers = pointer_small;
      leads = λ k row lt. row_led (get_or (rows d) k row)
          (Contains-get_or (rows d) k row lt);
    }

  pub pointers_or_fault : ((p : ℕ) × FaultOf c (BadPointer p)) ⊎ HasPointers c d
  pointers_or_fault = elim (least_or_none IsBadPointer d.geometry.pages (λ p lt. decide_pointer p)) [
    | inl found ↦ inl (found.0, bad_pointer d found.0 x reads found.1)
    | inr none ↦ inr (has_pointers none)
  ]

-- Pages that are used twice, and counts.
module _ (c : List ℕ) (d : Disk) (x : HasPointers c d) where
  abbrev IsNoneDouble : Type 0
  IsNoneDouble = (p : ℕ) → IsDouble d p → ⊥

  pub single_or_fault : ((p : ℕ) × FaultOf c (DoubleMapped p)) ⊎ IsNoneDouble
  single_or_fault = elim (least_or_none (IsDouble d) d.geometry.pages (λ p lt. decide_double d p)) [
    | inl found ↦ inl (found.0, double_mapped d found.0 x found.1)
    | inr none ↦ inr (λ p double. none p (double_in_data d x.table.links.logs.logs p double).high double)
  ]

  decide_near : (row : Row) → Decided (IsNear d row)
  decide_near row =
      decide_both (mappings d row.page ≤ row.rfc + row.uc) (row.rfc ≤ mappings d row.page + row.uc)
      (decide_le (mappings d row.page) (row.rfc + row.uc)) (decide_le row.rfc (mappings d row.page + row.uc))

  pub near_or_fault : IsNoneDouble → ((slot : ℕ) × FaultOf c (BadCount slot)) ⊎ Near d
  near_or_fault none = elim (all_or_first (IsNear d) decide_near (rows d)) [
    | inl all ↦ inr all
    | inr found ↦ inl (found.1.slot, bad_count d found.0 found.2 found.1 x none found.3 found.4 found.5)
  ]

-- All of them.
module _ (c : List ℕ) (d : Disk) (links : HasLinks c d) where
  abbrev Judged : Type 0
  Judged = ((fault : ImageFault) × FaultOf c fault) ⊎ HasNoFault c

  module _ (chains : HasChains d.geometry (rolled c)) where
    abbrev e : Disk
    e = read_disk (rolled c) d chains.chain

    module _ (x : HasPointers c e) where
      by_free : ((p : ℕ) → IsDouble e p → ⊥) → Near e → FreePages e → Judged
      by_free none near (are_few n has few) = inl (Crowded n, crowded e n x none near has few)
      by_free none near (are_two p q ne free_p free_q) = inr
          (record { disk = e; stands_for = stands c d chains.chain x (single_from e none) near p q ne free_p free_q })

      by_near : ((p : ℕ) → IsDouble e p → ⊥) → ((slot : ℕ) × FaultOf c (BadCount slot)) ⊎ Near e → Judged
      by_near none (inl fault) = inl (BadCount fault.0, fault.1)
      by_near none (inr near) = by_free none near (free_pages_are_counted e)

      by_single : ((p : ℕ) × FaultOf c (DoubleMapped p)) ⊎ ((p : ℕ) → IsDouble e p → ⊥) → Judged
      by_single (inl fault) = inl (DoubleMapped fault.0, fault.1)
      by_single (inr none) = by_near none (near_or_fault c e x none)

    by_pointers : ((p : ℕ) × FaultOf c (BadPointer p)) ⊎ HasPointers c e → Judged
    by_pointers (inl fault) = inl (BadPointer fault.0, fault.1)
    by_pointers (inr x) = by_single x (single_or_fault c e x)

    by_chains : Judged
    by_chains = by_pointers (pointers_or_fault c e (has_table c d links chains) (pointers_read (rolled c) d chains.chain))

  judged : Judged
  judged = elim (tables_read_or_faulty d.geometry (rolled c)) [
    | inl fault ↦ inl (BadTable fault.0, bad_table d fault.0 links fault.1)
    | inr chains ↦ by_chains chains
  ]

pub linked_images_are_judged : LinkedImagesAreJudged
linked_images_are_judged = judged
