-- The old values of a journal are put back one by one.
use Rattle.std.proofs.Common.{◌≡◌, ℕ, ◌+◌, ◌<◌, List, length, set, ◌∙◌, ap, add-one, arith}
use Rattle.std.specs.Prelude.{slice_index}
use Rattle.pm_layout.specs.Geometry.{gate_word}
use Rattle.dn_model.proofs.Regions.{inode_word_low}
use Rattle.dn_model.proofs.RollBack.{length-put_back}
use Rattle.dn_model.specs.Rolled.{put_back, rolled, pair_address, pair_value}
use Rattle.dn_model.specs.Faults.{HasGate, geometry_of}

-- the copy with the old values of the first i pairs put back
abbrev pub HasBack : List ℕ → ℕ → List ℕ → Type 0
HasBack c i words = words ≡ put_back c i c

pub one_more : (c words : List ℕ) (i : ℕ) → HasBack c i words → HasBack c (i + 1) (set words (pair_address c i) (pair_value c i))
one_more c words i e = rw (add-one, e)

pub has_length : (c words : List ℕ) (i : ℕ) → HasBack c i words → length words ≡ length c
has_length c words i e = ap length e ∙ length-put_back c c i

-- an address of the journal lies in the image
pub address_inside : (c : List ℕ) (i : ℕ) → HasGate c → i < slice_index c gate_word → pair_address c i < length c
address_inside c i has lt =
    let is = has.gate.addresses i lt in
    let low = inode_word_low (geometry_of c) is.ino is.field is.in_table (omega (arith, is.first_three)) in
    omega (arith, low, has.geometry.accepted.room, has.geometry.size, is.is)

pub closed : (c words : List ℕ) → HasBack c (slice_index c gate_word) words → set words gate_word 0 ≡ rolled c
unfolding rolled
closed c words e = ap (λ (ws : List ℕ). set ws gate_word 0) e
