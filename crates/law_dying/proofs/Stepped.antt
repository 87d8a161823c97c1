-- The parts of a disk on which a dying inode has another use.
use Rattle.std.proofs.Common.{◌≡◌, ◌≢◌, ℕ, Bool, true, false, refl, ap, arith}
use Rattle.std.specs.Prelude.{if◌then◌else◌, ◌==◌}
use Rattle.std.proofs.lemmas.Bool.Decides.{nat_tests}
use Rattle.dn_model.specs.Disk.{Disk, Inode, rows}
use Rattle.law_dying.specs.Dying.{Step, use_after, stepped}

itself : (a : ℕ) → (a == a) ≡ true
itself a = grind (arith, nat_tests)

different : (a b : ℕ) → a ≢ b → (a == b) ≡ false
different a b ne = grind (arith, nat_tests)

module _ (d : Disk) (ino : ℕ) (step : Step) where
  abbrev new : Disk
  new = stepped d ino step

  abbrev pub node : Inode
  node = record { use_of = use_after step; log = (d.inode ino).log }

  pub at_ino : new.inode ino ≡ node
  unfolding stepped
  at_ino = ap (λ (b : Bool). if b then node else d.inode ino) (itself ino)

  pub at_other : (i : ℕ) → i ≢ ino → new.inode i ≡ d.inode i
  unfolding stepped
  at_other i ne = ap (λ (b : Bool). if b then node else d.inode i) (different i ino ne)

  pub same_geometry : new.geometry ≡ d.geometry
  unfolding stepped
  same_geometry = refl

  pub same_chain : (p : ℕ) → new.chain p ≡ d.chain p
  unfolding stepped
  same_chain p = refl

  pub same_pointer : (page : ℕ) → new.pointer page ≡ d.pointer page
  unfolding stepped
  same_pointer page = refl

  pub same_word : (page k : ℕ) → new.word page k ≡ d.word page k
  unfolding stepped
  same_word page k = refl

  pub same_rows : rows new ≡ rows d
  unfolding rows stepped
  same_rows = refl
