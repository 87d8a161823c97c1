-- Write items more: no page that was mapped gets more mappings, and each new page gets one at most.
use Rattle.std.proofs.Common.{◌≡◌, ◌≢◌, ◌⊎◌, inl, inr, ℕ, ◌+◌, ◌-◌, ◌<◌, ◌≤◌, true, false, sym, ◌∙◌, ap, subst, arith}
use Rattle.std.specs.Prelude.{if◌then◌else◌, nat_lt, ◌==◌, Option, Some, None}
use Rattle.std.proofs.lemmas.Bool.{cases_lt}
use Rattle.std.proofs.lemmas.Bool.Decides.{nat_tests}
use Rattle.log_entry.specs.Spelling.{pages_of}
use Rattle.pm_layout.specs.declared.Geometry.{Geometry}
use Rattle.dn_model.specs.Maps.{Mapping, mapping, cut_to}
use Rattle.dn_model.specs.Disk.{Disk, Inode, Use, maps, maps_by_use}
use Rattle.dn_model.specs.Counts.{total, hit, mappings}
use Rattle.law_write.specs.Writing.{Writes, IsNewMapping}
use Rattle.law_write.proofs.Counting.{total-same, total-le, total-change, total-one, term-le}

pub hit-le-one : (page : ℕ) (m : Option Mapping) → hit page m ≤ 1
hit-le-one page None = omega arith
hit-le-one page (Some m) = elim (m.block == page) as (λ b. (if b then 1 else 0) ≤ 1) [ true ↦ omega arith | false ↦ omega arith ]

pub hit_cut : (page size idx : ℕ) (m : Option Mapping) → hit page (cut_to size idx m) ≤ hit page m
hit_cut page size idx m = elim (nat_lt idx (pages_of size)) as (λ b. hit page (if b then m else None) ≤ hit page m)
    [ true ↦ omega arith | false ↦ omega arith ]

pub hit_other : (page : ℕ) (m : Mapping) → m.block ≢ page → hit page (Some m) ≡ 0
hit_other page m ne = grind (arith, nat_tests)

pub hit_here : (page : ℕ) (m : Mapping) → m.block ≡ page → hit page (Some m) ≡ 1
hit_here page m e = grind (arith, nat_tests)

-- a new mapping hits its block alone
hit_new : (page block : ℕ) (m : Option Mapping) → IsNewMapping m block → block ≢ page → hit page m ≡ 0
hit_new page block m is ne = ap (hit page) is.is ∙ hit_other page is.by (λ e. ne (sym is.page ∙ e))

less_after : (new old here there : ℕ) → new + here ≡ old + there → there ≤ here → new ≤ old
less_after new old here there e le = omega arith

one_after : (new old here there one : ℕ) → new + here ≡ old + there → old ≡ 0 → there ≤ one → one ≤ 1 → new ≤ 1
one_after new old here there one e none le few = omega arith

zero_below : (a b c : ℕ) → a ≤ b → b ≤ c → c ≡ 0 → a ≡ 0
zero_below a b c ab bc none = omega arith

-- the places of a file that are mapped to the page
abbrev pub places : Disk → ℕ → ℕ → ℕ
places d page i = total 4096 (λ idx. hit page (maps d i idx))

-- a place counts
pub place-le : (d : Disk) (page i idx : ℕ) → i < d.geometry.inodes → idx < 4096 → hit page (maps d i idx) ≤ mappings d page
unfolding mappings
place-le d page i idx in_table lt =
    chain _ _ _ (term-le (λ j. hit page (maps d i j)) 4096 idx lt) (term-le (places d page) d.geometry.inodes i in_table)
  where
    chain : (a b c : ℕ) → a ≤ b → b ≤ c → a ≤ c
    chain a b c ab bc = omega arith

pub places-le : (d : Disk) (page i : ℕ) → i < d.geometry.inodes → places d page i ≤ mappings d page
unfolding mappings
places-le d page i in_table = term-le (places d page) d.geometry.inodes i in_table

-- the numbers below n, and the rest
pub own_or_other : (first n idx : ℕ) → ((i : ℕ) × (i < n) × (idx ≡ first + i)) ⊎ ((idx < first) ⊎ (first + n ≤ idx))
own_or_other first n idx = elim (cases_lt idx first) [
  | inl low ↦ inr (inl low)
  | inr from ↦ elim (cases_lt idx (first + n)) [
    | inl inside ↦ inl (idx - first, omega arith, omega arith)
    | inr past ↦ inr (inr past)
  ]
]

module _ (ino : ℕ) (old new : Disk) (w : Writes ino old new) where
  pub maps_old : (idx : ℕ) → maps old ino idx ≡ mapping (old.inode ino).log idx
  unfolding maps
  maps_old idx = ap (λ (u : Use). maps_by_use u (old.inode ino).log idx) w.live

  pub maps_new : (idx : ℕ) → maps new ino idx ≡ mapping (new.inode ino).log idx
  unfolding maps
  maps_new idx = ap (λ (u : Use). maps_by_use u (new.inode ino).log idx) (w.relogs.same_use ∙ w.live)

  pub maps_others : (i idx : ℕ) → i ≢ ino → maps new i idx ≡ maps old i idx
  unfolding maps
  maps_others i idx ne = ap (λ (n : Inode). maps_by_use n.use_of n.log idx) (w.relogs.others i ne)

  -- only this inode's places count differently
  pub mappings-written : (page : ℕ) → mappings new page + places old page ino ≡ mappings old page + places new page ino
  unfolding mappings
  mappings-written page =
      ap (λ (g : Geometry). total g.inodes (places new page) + places old page ino) w.relogs.geometry
      ∙ total-change (places old page) (places new page) old.geometry.inodes ino w.in_table
      (λ i ne. total-same _ _ 4096 (λ idx lt. ap (hit page) (maps_others i idx ne)))

  -- a page without mappings is mapped nowhere
  unmapped : (page : ℕ) → mappings old page ≡ 0 → (idx : ℕ) → idx < 4096 → hit page (maps old ino idx) ≡ 0
  unmapped page none idx lt = omega (arith, place-le old page ino idx w.in_table lt)

  -- a place whose own block isn't the page hits it no more than before
  pub hit-written : (page idx : ℕ) → ((i : ℕ) → i < w.n → idx ≡ w.first + i → w.blocks i ≢ page) → hit page (maps new ino idx) ≤ hit page
      (maps old ino idx)
  hit-written page idx ne = elim (own_or_other w.first w.n idx) [
    | inl own ↦
        let none : hit page (maps new ino idx) ≡ 0 = ap (λ (j : ℕ). hit page (maps new ino j)) own.2 ∙ hit_new page (w.blocks own.0)
        (maps new ino (w.first + own.0)) (w.own own.0 own.1) (ne own.0 own.1 own.2) in
        omega (arith, none)
    | inr out ↦ subst (λ (m : Option Mapping). hit page m ≤ hit page (maps old ino idx)) (sym (w.other idx out))
        (hit_cut page w.size idx (maps old ino idx))
  ]

  -- a page that isn't the event's is mapped no more often than before
  pub mappings-written_other : (page : ℕ) → ((i : ℕ) → i < w.n → w.blocks i ≢ page) → mappings new page ≤ mappings old page
  mappings-written_other page apart =
      less_after _ _ _ _ (mappings-written page) (total-le _ _ 4096 (λ idx lt. hit-written page idx (λ i below is. apart i below)))

  -- a page of the event that wasn't mapped is mapped once at most
  pub mappings-written_own : (page k : ℕ) → k < w.n → page ≡ w.blocks k → mappings old page ≡ 0 → mappings new page ≤ 1
  mappings-written_own page k below is none =
      let one : places new page ino ≤ hit page (maps new ino (w.first + k)) = total-one (λ idx. hit page (maps new ino idx)) 4096 (w.first + k)
      (λ idx lt ne.
      zero_below _ _ _ (hit-written page idx (λ i small at same. ne (elsewhere idx i small at same))) (omega arith) (unmapped page none idx lt)) in
      one_after _ _ _ _ _ (mappings-written page) none one (hit-le-one page (maps new ino (w.first + k)))
    where
      elsewhere : (idx i : ℕ) → i < w.n → idx ≡ w.first + i → w.blocks i ≡ page → idx ≡ w.first + k
      elsewhere idx i small at same = let e : i ≡ k = w.apart i k small below (same ∙ is) in omega arith
