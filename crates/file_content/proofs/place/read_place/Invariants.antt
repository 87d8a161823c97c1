use Rattle.std.proofs.Common.{◌≡◌, ℕ, ◌<◌}
use Rattle.std.specs.Prelude.{slice_index}
use Rattle.file_content.specs.ReadLoop.{place_byte}
use Rattle.file_content.proofs.place.read_place.Given as goal

abbrev pub invariant-loop-k : goal.invariant-loop-k
invariant-loop-k g l = (i : ℕ) → i < l.k → slice_index l.into i ≡ place_byte (g.D.Pm.state l.device).now l.mapping l.inside i
