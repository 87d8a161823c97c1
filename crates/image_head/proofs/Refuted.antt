-- A test that failed.
use Rattle.std.proofs.Common.{◌≡◌, Bool, true, false, sym, ◌∙◌}

pub refuted : (b : Bool) (P : Type 0) → (P → b ≡ true) → b ≡ false → P → ⊥
refuted b P from failed p = let e : true ≡ false = sym (from p) ∙ failed in cc
