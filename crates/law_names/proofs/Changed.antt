-- The parts of a disk after a change of names.
use Rattle.std.proofs.Common.{◌≡◌, ◌≢◌, inl, inr, ℕ, ◌≤◌, Bool, true, false, refl, ◌∙◌, ap, arith}
use Rattle.std.specs.Prelude.{if◌then◌else◌, ◌==◌}
use Rattle.std.proofs.lemmas.Bool.{cases_eq}
use Rattle.std.proofs.lemmas.Bool.Decides.{nat_tests}
use Rattle.dn_model.specs.Disk.{Disk, Inode, rows}
use Rattle.law_names.specs.NameChange.{NameChange, turned, root_after, names_changed}

itself : (a : ℕ) → (a == a) ≡ true
itself a = grind (arith, nat_tests)

different : (a b : ℕ) → a ≢ b → (a == b) ≡ false
different a b ne = grind (arith, nat_tests)

module _ (d : Disk) (change : NameChange) where
  abbrev new : Disk
  new = names_changed d change

  abbrev root_node : Inode
  root_node = record { use_of = (d.inode 0).use_of; log = root_after d change }

  abbrev here_node : Inode
  here_node = turned change.turn (d.inode change.ino)

  pub at_root : new.inode 0 ≡ root_node
  unfolding names_changed
  at_root = ap (λ (b : Bool). if b then root_node else if 0 == change.ino then here_node else d.inode 0) (itself 0)

  pub at_ino : 1 ≤ change.ino → new.inode change.ino ≡ here_node
  unfolding names_changed
  at_ino file =
      ap (λ (b : Bool). if b then root_node else if change.ino == change.ino then here_node else d.inode change.ino)
      (different change.ino 0 (λ e. omega (arith, e, file)))
      ∙ ap (λ (b : Bool). if b then here_node else d.inode change.ino) (itself change.ino)

  pub at_other : (i : ℕ) → 1 ≤ i → i ≢ change.ino → new.inode i ≡ d.inode i
  unfolding names_changed
  at_other i some ne =
      ap (λ (b : Bool). if b then root_node else if i == change.ino then here_node else d.inode i) (different i 0 (λ e. omega (arith, e, some)))
      ∙ ap (λ (b : Bool). if b then here_node else d.inode i) (different i change.ino ne)

  pub same_geometry : new.geometry ≡ d.geometry
  unfolding names_changed
  same_geometry = refl

  pub same_chain : (p : ℕ) → new.chain p ≡ d.chain p
  unfolding names_changed
  same_chain p = refl

  pub same_pointer : (page : ℕ) → new.pointer page ≡ d.pointer page
  unfolding names_changed
  same_pointer page = refl

  pub same_word : (page k : ℕ) → new.word page k ≡ d.word page k
  unfolding names_changed
  same_word page k = refl

  pub same_rows : rows new ≡ rows d
  unfolding rows names_changed
  same_rows = refl

  -- the root, the inode that turns, and the others
  pub data Where (i : ℕ) : Type 0 where
    is_root : i ≡ 0 → Where i
    is_here : i ≡ change.ino → Where i
    elsewhere : 1 ≤ i → i ≢ change.ino → Where i

  pub where_is : (i : ℕ) → Where i
  where_is i = elim (cases_eq i 0) [
    | inl e ↦ is_root e
    | inr some ↦ elim (cases_eq i change.ino) [ inl e ↦ is_here e | inr ne ↦ elsewhere (omega (arith, some)) ne ]
  ]
