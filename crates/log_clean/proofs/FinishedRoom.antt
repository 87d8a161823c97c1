-- A cleaning ends: what it was owed is owed no more.
use Rattle.std.proofs.Common.{◌≡◌, ℕ, ◌+◌, ◌≤◌, length, ap, arith}
use Rattle.std.specs.Prelude.{Option, Some, None}
use Rattle.dn_volume.specs.declared.units.TheConstants.{REPLACE_UNITS}
use Rattle.dn_volume.specs.declared.background.Cleaning.{Cleaning}
use Rattle.dn_volume.specs.declared.background.DyingPlace.{DyingPlace}
use Rattle.dn_volume.specs.declared.volume.Parts.{Parts}
use Rattle.dn_volume.specs.declared.volume.Room.{Room}
use Rattle.dn_volume.specs.Reclaims.{one_if}
use Rattle.dn_volume.specs.Reserve.{Owes, owed_sum, owed_to, units_to_share, changes_to_share, units_to_clean, queue_to_clean}
use Rattle.dn_volume.specs.Parties.{flight_at}
use Rattle.dn_model.specs.Counts.{total}

-- what the parts owe afterwards
pub record EndsOwed (c : Cleaning) (b b' : Parts) : Type 0 where
  pub cleans : b.reclaiming.cleaning ≡ Some c
  pub ended : b'.reclaiming.cleaning ≡ None
  pub flights : b'.flights ≡ b.flights
  pub sharing : b'.sharing ≡ b.sharing
  pub raised : b'.reclaiming.raised ≡ b.reclaiming.raised
  pub zero_check : b'.reclaiming.zero_check ≡ b.reclaiming.zero_check
  pub units : b'.owed.units + REPLACE_UNITS ≡ b.owed.units
  pub trace : b'.owed.trace ≡ b.owed.trace
  pub history : b'.owed.history ≡ b.owed.history
  pub queue : b'.owed.queue + length c.due.items ≡ b.owed.queue
  pub releases : b'.owed.releases ≡ b.owed.releases
  pub written : length c.pages.items ≤ c.written

pub owes_ended : (c : Cleaning) (b b' : Parts) → EndsOwed c b b' → Owes b → Owes b'
owes_ended c b b' is was = record {
  units = omega (arith, was.units, sum_same (λ room. room.units), shares, raised, checked, clean, clean', is.units, is.written);
  trace = omega (arith, was.trace, sum_same (λ room. room.trace), changes, is.trace);
  history = omega (arith, was.history, sum_same (λ room. room.history), is.history);
  queue = omega (arith, was.queue, sum_same (λ room. room.queue), due, due', is.queue);
  releases = omega (arith, was.releases, sum_same (λ room. room.releases), raised, is.releases);
}
  where
    sum_same : (kind : Room → ℕ) → owed_sum b' kind ≡ owed_sum b kind
    sum_same kind = ap (λ (fs : _). total 14 (λ k. kind (owed_to (flight_at fs.items k)))) is.flights

    shares : units_to_share b'.sharing ≡ units_to_share b.sharing
    shares = ap units_to_share is.sharing

    changes : changes_to_share b'.sharing ≡ changes_to_share b.sharing
    changes = ap changes_to_share is.sharing

    raised : one_if b'.reclaiming.raised ≡ one_if b.reclaiming.raised
    raised = ap (λ (r : Option DyingPlace). one_if r) is.raised

    checked : one_if b'.reclaiming.zero_check ≡ one_if b.reclaiming.zero_check
    checked = ap (λ (r : Option ℕ). one_if r) is.zero_check

    clean : units_to_clean b.reclaiming.cleaning ≡ units_to_clean (Some c)
    clean = ap units_to_clean is.cleans

    clean' : units_to_clean b'.reclaiming.cleaning ≡ 0
    clean' = ap units_to_clean is.ended

    due : queue_to_clean b.reclaiming.cleaning ≡ length c.due.items
    due = ap queue_to_clean is.cleans

    due' : queue_to_clean b'.reclaiming.cleaning ≡ 0
    due' = ap queue_to_clean is.ended
