-- The head of an image and its journal can be decided.
use Rattle.std.proofs.Common.{◌≡◌, ◌⊎◌, inl, inr, ℕ, ◌+◌, ◌-◌, ◌*◌, ◌/◌, ◌%◌, ◌<◌, ◌≤◌, List, length, ◌∙◌, ap, arith}
use Rattle.std.specs.Prelude.{slice_index}
use Rattle.std.proofs.lemmas.Bool.{cases_eq}
use Rattle.pm_layout.specs.declared.Geometry.{Geometry}
use Rattle.pm_layout.specs.Geometry.{IsAccepted, first_data, gate_word}
use Rattle.dn_model.specs.Rolled.{IsGate, IsJournaled, pair_address}
use Rattle.dn_model.specs.Faults.{IsImage, HasGeometry, HasGate, geometry_of, FaultOf, not_an_image, wrong_version, bad_geometry, bad_journal}
use Rattle.dn_model.specs.declared.fault.ImageFault.{ImageFault}
use Rattle.dn_model.specs.declared.fault.ImageFault.TheVariants.{NotAnImage, WrongVersion, BadGeometry, BadJournal}
use Rattle.law_log_read.proofs.Decided.{Decided, le_decided, lt_decided, same_decided, both_decided, implies_decided, each_decided}

accepted_decided : (g : Geometry) → Decided (IsAccepted g)
accepted_decided g =
    same_decided ((64 ≤ g.pages) × ((g.pages ≤ 65536) × ((8 ≤ g.inodes) × ((g.inodes ≤ 4096) × (first_data g + 32 ≤ g.pages))))) (IsAccepted g)
    (λ p. record { pages = p.0; few_pages = p.1.0; inodes = p.1.1.0; few_inodes = p.1.1.1.0; room = p.1.1.1.1 })
    (λ is. (is.pages, (is.few_pages, (is.inodes, (is.few_inodes, is.room)))))
    (both_decided (64 ≤ g.pages) ((g.pages ≤ 65536) × ((8 ≤ g.inodes) × ((g.inodes ≤ 4096) × (first_data g + 32 ≤ g.pages)))) (le_decided 64 g.pages)
    (both_decided (g.pages ≤ 65536) ((8 ≤ g.inodes) × ((g.inodes ≤ 4096) × (first_data g + 32 ≤ g.pages))) (le_decided g.pages 65536)
    (both_decided (8 ≤ g.inodes) ((g.inodes ≤ 4096) × (first_data g + 32 ≤ g.pages)) (le_decided 8 g.inodes)
    (both_decided (g.inodes ≤ 4096) (first_data g + 32 ≤ g.pages) (le_decided g.inodes 4096) (le_decided (first_data g + 32) g.pages)))))

-- a word of the inode table, by its place in the table
abbrev InTable : ℕ → ℕ → Type 0
InTable inodes a = (1024 ≤ a) × (((a - 1024) / 16 < inodes) × ((a - 1024) % 16 < 3))

place_of : (a : ℕ) → 1024 ≤ a → a ≡ 1024 + 16 * ((a - 1024) / 16) + (a - 1024) % 16
place_of a le = omega arith

row_of : (ino field : ℕ) → field < 3 → (1024 + 16 * ino + field - 1024) / 16 ≡ ino
row_of ino field lt = omega arith

field_of : (ino field : ℕ) → field < 3 → (1024 + 16 * ino + field - 1024) % 16 ≡ field
field_of ino field lt = omega arith

in_table_from : (inodes a : ℕ) → IsJournaled inodes a → InTable inodes a
in_table_from inodes a is =
    let row : (a - 1024) / 16 ≡ is.ino = ap (λ (b : ℕ). (b - 1024) / 16) is.is ∙ row_of is.ino is.field is.first_three in
    let field : (a - 1024) % 16 ≡ is.field = ap (λ (b : ℕ). (b - 1024) % 16) is.is ∙ field_of is.ino is.field is.first_three in
    (omega (arith, is.is), (omega (arith, row, is.in_table), omega (arith, field, is.first_three)))

journaled_decided : (inodes a : ℕ) → Decided (IsJournaled inodes a)
journaled_decided inodes a =
    same_decided (InTable inodes a) (IsJournaled inodes a)
    (λ p. record { ino = (a - 1024) / 16; field = (a - 1024) % 16; in_table = p.1.0; first_three = p.1.1; is = place_of a p.0 })
    (in_table_from inodes a)
    (both_decided (1024 ≤ a) (((a - 1024) / 16 < inodes) × ((a - 1024) % 16 < 3)) (le_decided 1024 a)
    (both_decided ((a - 1024) / 16 < inodes) ((a - 1024) % 16 < 3) (lt_decided ((a - 1024) / 16) inodes) (lt_decided ((a - 1024) % 16) 3)))

module _ (inodes : ℕ) (c : List ℕ) where
  abbrev gate : ℕ
  gate = slice_index c gate_word

  abbrev AreJournaled : Type 0
  AreJournaled = (i : ℕ) → i < gate → IsJournaled inodes (pair_address c i)

  abbrev AreOther : ℕ → Type 0
  AreOther i = (j : ℕ) → j < gate → pair_address c i ≡ pair_address c j → i ≡ j

  abbrev AreApart : Type 0
  AreApart = (i : ℕ) → i < gate → AreOther i

  others_decided : (i : ℕ) → Decided (AreOther i)
  others_decided i = each_decided (λ j. pair_address c i ≡ pair_address c j → i ≡ j)
      (λ j. implies_decided (pair_address c i ≡ pair_address c j) (i ≡ j) (cases_eq (pair_address c i) (pair_address c j)) (cases_eq i j)) gate

  gate_decided : Decided (IsGate inodes c)
  gate_decided =
      same_decided ((gate ≤ 4) × (AreJournaled × AreApart)) (IsGate inodes c)
      (λ p. record { few = p.0; addresses = p.1.0; apart = λ i j il jl. p.1.1 i il j jl })
      (λ is. (is.few, (is.addresses, λ i il j jl. is.apart i j il jl)))
      (both_decided (gate ≤ 4) (AreJournaled × AreApart) (le_decided gate 4)
      (both_decided AreJournaled AreApart
      (each_decided (λ i. IsJournaled inodes (pair_address c i)) (λ i. journaled_decided inodes (pair_address c i)) gate)
      (each_decided AreOther others_decided gate)))

-- rules 1 to 4
module _ (c : List ℕ) where
  abbrev pub HasFault : Type 0
  HasFault = (f : ImageFault) × FaultOf c f

  image_decided : Decided (IsImage c)
  image_decided =
      same_decided ((32768 ≤ length c) × (slice_index c 0 ≡ 0x313041564F4E4544)) (IsImage c) (λ p. record { long = p.0; magic = p.1 })
      (λ is. (is.long, is.magic))
      (both_decided (32768 ≤ length c) (slice_index c 0 ≡ 0x313041564F4E4544) (le_decided 32768 (length c))
      (cases_eq (slice_index c 0) 0x313041564F4E4544))

  abbrev Sized : Type 0
  Sized = IsAccepted (geometry_of c) × (length c ≡ 512 * slice_index c 2)

  sized_decided : Decided Sized
  sized_decided = both_decided (IsAccepted (geometry_of c)) (length c ≡ 512 * slice_index c 2) (accepted_decided (geometry_of c))
      (cases_eq (length c) (512 * slice_index c 2))

  pub head_read : HasFault ⊎ HasGate c
  head_read = elim image_decided [
    | inr never ↦ inl (NotAnImage, not_an_image never)
    | inl image ↦ elim (cases_eq (slice_index c 1) 1) [
      | inr other ↦ inl (WrongVersion (slice_index c 1), wrong_version image other)
      | inl version ↦ elim sized_decided [
        | inr never ↦ inl (BadGeometry, bad_geometry image version (λ accepted size. never (accepted, size)))
        | inl sized ↦
            let geometry : HasGeometry c = record { image = image; version = version; accepted = sized.0; size = sized.1 } in
            elim (gate_decided (slice_index c 3) c) [
              | inr never ↦ inl (BadJournal, bad_journal geometry never)
              | inl gate ↦ inr (record { geometry = geometry; gate = gate })
            ]
      ]
    ]
  ]
