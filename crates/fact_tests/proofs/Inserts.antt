-- A row may come in where the look-ups find none.
use Rattle.std.proofs.Common.{◌≡◌, ℕ, ◌<◌, Bool, false, not, List, length, arith}
use Rattle.std.specs.Prelude.{Option, Some, None, IfNone, IsTrue, is_some, slice_index}
use Rattle.std.proofs.lemmas.List.Elements.{All-from_get_or}
use Rattle.fingerprint.specs.Print.{IsPrint}

-- what holds where there is nothing
pub of_none : {X : Type 0} (found : Option X) (P : Type 0) (b : Bool) → b ≡ is_some found → b ≡ false → IfNone found P → P
of_none (Some x) P b is off holds = grind arith
of_none None P b is off holds = holds

pub of_is_none : {X : Type 0} (found : Option X) (P : Type 0) (b : Bool) → is_some found ≡ not b → IsTrue b → IfNone found P → P
of_is_none (Some x) P b is on holds = grind arith
of_is_none None P b is on holds = holds

pub twenty_bytes : (print : List ℕ) → length print ≡ 20 → ((i : ℕ) → slice_index print i < 256) → IsPrint print
twenty_bytes print twenty fits = record { twenty = twenty; bytes = All-from_get_or (λ b. b < 256) print 0 (λ i lt. fits i) }
