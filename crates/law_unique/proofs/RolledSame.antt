-- What an image stands for, by its words once the journal is rolled back.
use Rattle.std.proofs.Common.{◌≡◌, ℕ, ◌*◌, ◌<◌, List, length, refl, sym, ◌∙◌, ap, arith, length-set, get_or-set_same}
use Rattle.std.specs.Prelude.{slice_index}
use Rattle.pm_layout.specs.Geometry.{gate_word}
use Rattle.dn_model.specs.Rolled.{rolled, put_back, IsGate}
use Rattle.dn_model.specs.Disk.{Disk, of_head, at_gate}
use Rattle.dn_model.specs.Image.{StandsFor}
use Rattle.dn_model.proofs.L1.{rolled_closed, gate_closed}
use Rattle.dn_model.proofs.RollBack.{length-put_back}
use Rattle.law_unique.specs.Images.{IsKnownByWordsRolled, RollingKeeps}

pub length-rolled : (c : List ℕ) → length (rolled c) ≡ length c
unfolding rolled
length-rolled c = length-set (put_back c (slice_index c gate_word) c) gate_word 0 ∙ length-put_back c c (slice_index c gate_word)

pub known_rolled : IsKnownByWordsRolled
known_rolled c c' d stands gate long agrees = record {
  size = long ∙ stands.size;
  gate = gate;
  reads = λ a v says. agrees a v says ∙ stands.reads a v says;
  valid = stands.valid;
}

to_rolled : (c : List ℕ) (d : Disk) → StandsFor c d → StandsFor (rolled c) d
to_rolled c d stands =
    let closed : slice_index (rolled c) gate_word ≡ 0 = stands.reads gate_word 0 (of_head (at_gate refl refl)) in
    record {
      size = length-rolled c ∙ stands.size;
      gate = gate_closed (rolled c) d.geometry.inodes closed;
      reads = λ a v says. ap (λ (xs : List ℕ). slice_index xs a) (rolled_closed (rolled c) closed) ∙ stands.reads a v says;
      valid = stands.valid;
    }

pub rolled_gate : (c : List ℕ) → gate_word < length c → slice_index (rolled c) gate_word ≡ 0
unfolding rolled
rolled_gate c long =
    get_or-set_same (put_back c (slice_index c gate_word) c) gate_word 0 0 (omega (arith, long, length-put_back c c (slice_index c gate_word)))

from_rolled : (c : List ℕ) (d : Disk) → IsGate d.geometry.inodes c → StandsFor (rolled c) d → StandsFor c d
from_rolled c d gate stands =
    let size : length c ≡ 512 * d.geometry.pages = sym (length-rolled c) ∙ stands.size in
    let closed : slice_index (rolled c) gate_word ≡ 0 = rolled_gate c (omega (arith, size, stands.valid.accepted.pages)) in
    record {
      size = size;
      gate = gate;
      reads = λ a v says. ap (λ (xs : List ℕ). slice_index xs a) (sym (rolled_closed (rolled c) closed)) ∙ stands.reads a v says;
      valid = stands.valid;
    }

pub rolling_keeps : RollingKeeps
rolling_keeps c d gate = (to_rolled c d, from_rolled c d gate)
