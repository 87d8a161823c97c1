-- Counts of mappings and of free pages.
use Rattle.std.proofs.Common.{◌≡◌, ◌≢◌, inl, inr, ℕ, ◌≤◌, Bool, List, length, refl, ◌∙◌, ap, arith}
use Rattle.std.specs.Prelude.{if◌then◌else◌, Option, Some, None, AllPairs, Contains}
use Rattle.std.proofs.lemmas.Bool.{cases_eq, eq-eqb, ne_eqb}
use Rattle.std.proofs.lemmas.Bool.Decides.{Decides-eqb}
use Rattle.std.proofs.lemmas.Cmp.{nat_eq_equiv}
use Rattle.std.proofs.lemmas.Map.Made.{length-le_from_is_member, IsDistinct-from_AllPairs, is_member-Decides}
use Rattle.dn_model.specs.Maps.{Mapping}
use Rattle.dn_model.specs.Disk.{Disk, maps, IsMapped}
use Rattle.dn_model.specs.Counts.{hit, total, mappings, IsFree}
use Rattle.law_unique.specs.Counting.{CountsMappings, FreeIsUnused, HasOneFreeCount}
use Rattle.law_unique.proofs.Sums.{term-le, total-some}

hit_there : (page : ℕ) (m : Mapping) → m.block ≡ page → hit page (Some m) ≡ 1
hit_there page m e = ap (λ (b : Bool). if b then 1 else 0) (eq-eqb m.block page e)

hit_from : (page : ℕ) (o : Option Mapping) → 1 ≤ hit page o → (m : Mapping) × (o ≡ Some m) × (m.block ≡ page)
hit_from page None some = absurd (omega (arith, some))
hit_from page (Some m) some = elim (cases_eq m.block page) [
  | inl e ↦ (m, refl, e)
  | inr ne ↦ let none : hit page (Some m) ≡ 0 = ap (λ (b : Bool). if b then 1 else 0) (ne_eqb m.block page ne) in absurd (omega (arith, some, none))
]

module _ (d : Disk) (page : ℕ) where
  mapped_counts : IsMapped d page → 1 ≤ mappings d page
  unfolding mappings
  mapped_counts m =
      let to = m.maps_to in
      let one : hit page (maps d m.ino m.idx) ≡ 1 = ap (hit page) to.is ∙ hit_there page to.by to.block in
      chain _ _ _ one (term-le (λ j. hit page (maps d m.ino j)) 4096 m.idx to.in_file) (term-le (λ i. total 4096 (λ idx. hit page (maps d i idx)))
      d.geometry.inodes m.ino to.in_table)
    where
      chain : (a b c : ℕ) → a ≡ 1 → a ≤ b → b ≤ c → 1 ≤ c
      chain a b c e ab bc = omega arith

  counted_mapped : 1 ≤ mappings d page → IsMapped d page
  unfolding mappings
  counted_mapped some =
      let by_inode = total-some (λ i. total 4096 (λ idx. hit page (maps d i idx))) d.geometry.inodes some in
      let by_place = total-some (λ idx. hit page (maps d by_inode.0 idx)) 4096 by_inode.2 in
      let found = hit_from page (maps d by_inode.0 by_place.0) by_place.2 in
      record {
        ino = by_inode.0;
        idx = by_place.0;
        maps_to = record {
          in_table = by_inode.1;
          in_file = by_place.1;
          by = found.0;
          is = found.1;
          block = found.2;
        };
      }

  unmapped : (IsMapped d page → ⊥) → mappings d page ≡ 0
  unmapped none = elim (cases_eq (mappings d page) 0) [
    | inl e ↦ e
    | inr ne ↦ absurd (none (counted_mapped (omega (arith, ne))))
  ]

pub counts_mappings : CountsMappings
counts_mappings d page = (counted_mapped d page, mapped_counts d page)

pub free_unused : FreeIsUnused
free_unused d page = (
  (λ (free : IsFree d page). (free.data_page, free.in_no_log, (λ m. omega (arith, mapped_counts d page m, free.unmapped)))),
  (λ parts. record { data_page = parts.0; in_no_log = parts.1; unmapped = unmapped d page parts.2 }),
)

-- a list without repeats has at most as many elements as a list that has them all
distinct-le : (xs ys : List ℕ) → AllPairs (λ p q. p ≢ q) xs → ((x : ℕ) → Contains xs x → Contains ys x) → length xs ≤ length ys
distinct-le xs ys apart has = length-le_from_is_member nat_eq_equiv xs ys (IsDistinct-from_AllPairs Decides-eqb xs apart)
    (λ q member. (is_member-Decides Decides-eqb ys q).1 (has q ((is_member-Decides Decides-eqb xs q).0 member)))

pub free_one : HasOneFreeCount
free_one d n m x y =
    let there = distinct-le x.0 y.0 x.2 (λ page found. (y.1 page).1 ((x.1 page).0 found)) in
    let here = distinct-le y.0 x.0 y.2 (λ page found. (x.1 page).1 ((y.1 page).0 found)) in
    omega (arith, there, here, x.3, y.3)
