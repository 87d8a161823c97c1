use Rattle.std.proofs.Common.{◌≡◌, ◌≤◌, ◌<◌, ℕ, length}
use Rattle.std.specs.Prelude.{slice_index, vec_capacity}
use Rattle.dn_model.specs.Disk.{Disk}
use Rattle.dn_volume.specs.Agrees.{IsVolume}
use Rattle.dn_volume.specs.Events.{word_at}
use Rattle.dn_shared.proofs.opening.words_of_rows.Given as goal

abbrev pub invariant-loop-slot : goal.invariant-loop-slot
invariant-loop-slot g l = record {
  long : length l.words.items ≡ l.slot;
  room : l.slots ≤ vec_capacity l.words;
  each : (d : Disk) (k : ℕ) → IsVolume d l.v.parts (g.D.Pm.state l.v.device) → k < l.slot → slice_index l.words.items k ≡ word_at d k;
}
