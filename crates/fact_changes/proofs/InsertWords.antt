-- The words to which a row's insertion stores.
use Rattle.std.proofs.Common.{◌≡◌, ◌⊎◌, inl, inr, ⊎_elim, ℕ, List, sym, subst, arith}
use Rattle.pm_device.specs.Words.{IsIn}
use Rattle.pm_layout.specs.declared.Geometry.{Geometry}
use Rattle.pm_layout.specs.Geometry.{slot_word, pointer_word}
use Rattle.dn_model.specs.Table.{prefix_of}
use Rattle.fact_table.specs.Table.{Table, TakesSlot}
use Rattle.fact_rows.specs.Put.{IsPutWord}
use Rattle.fact_changes.specs.Insertion.{IsInsertWord}

module _ (t t' : Table) (print : List ℕ) (page direct : ℕ) (k : Geometry) (direct_is : direct ≡ prefix_of t.geometry print) (same : k ≡ t.geometry)
    (a : ℕ) where
  abbrev prefix : ℕ
  prefix = prefix_of t.geometry print

  of_open : IsPutWord t.geometry prefix page (slot_word t.geometry prefix 0) a → IsInsertWord t t' print page a
  of_open word = ⊎_elim (λ (inside : IsIn (slot_word t.geometry prefix 0) 8 a). inl inside)
      (λ (rest : (a ≡ pointer_word t.geometry page) ⊎ (a ≡ slot_word t.geometry prefix 0)). ⊎_elim (λ (at : a ≡ pointer_word t.geometry page). inr
      (inl at))
      (λ (gate : a ≡ slot_word t.geometry prefix 0). inl (omega (arith, gate), omega (arith, gate))) rest) word

  pub opened_words : IsPutWord k direct page (slot_word k direct 0) a → IsInsertWord t t' print page a
  opened_words = subst (λ (g : Geometry). IsPutWord g direct page (slot_word g direct 0) a → IsInsertWord t t' print page a) (sym same)
      (subst (λ (p : ℕ). IsPutWord t.geometry p page (slot_word t.geometry p 0) a → IsInsertWord t t' print page a) (sym direct_is) of_open)

  module _ (slot : ℕ) (takes : TakesSlot slot t t') where
    of_link : IsPutWord t.geometry slot page (slot_word t.geometry prefix 5) a → IsInsertWord t t' print page a
    of_link word = ⊎_elim (λ (inside : IsIn (slot_word t.geometry slot 0) 8 a). inr (inr (record { slot = slot; takes = takes; inside = inside })))
        (λ (rest : (a ≡ pointer_word t.geometry page) ⊎ (a ≡ slot_word t.geometry prefix 5)). ⊎_elim (λ (at : a ≡ pointer_word t.geometry page). inr
        (inl at))
        (λ (gate : a ≡ slot_word t.geometry prefix 5). inl (omega (arith, gate), omega (arith, gate))) rest) word

    pub linked_words : IsPutWord k slot page (slot_word k direct 5) a → IsInsertWord t t' print page a
    linked_words = subst (λ (g : Geometry). IsPutWord g slot page (slot_word g direct 5) a → IsInsertWord t t' print page a) (sym same)
        (subst (λ (p : ℕ). IsPutWord t.geometry slot page (slot_word t.geometry p 5) a → IsInsertWord t t' print page a) (sym direct_is) of_link)
