-- The daemon settles the row whose mapping it has added.
use Rattle.std.specs.Prelude.{◌≡◌, Bool, ℕ, ◌+◌, ◌-◌, [], ◌∷◌, ◌++◌, Some, vec_len, vec_capacity}
use Rattle.std.specs.VecDeque.{deque_len, deque_capacity}
use Rattle.dn_volume.specs.declared.background.Sharing.{Sharing}
use Rattle.dn_volume.specs.declared.background.SharingStep.TheVariants.{Look, Settle}
use Rattle.dn_volume.specs.declared.volume.Parts.{Parts}
use Rattle.dn_volume.specs.Events.{Counts}
use Rattle.count_events.specs.Released.{KeepsParts}

-- the row at this slot is to be settled
pub record IsAtSettle (b : Parts) (slot : ℕ) : Type 0 where
  pub sharing : Sharing
  pub begun : b.sharing ≡ Some sharing
  pub inserted : Bool
  pub step : sharing.step ≡ Settle slot inserted

-- it is settled, and has this word
pub record SettlesShare (slot word : ℕ) (b b' : Parts) : Type 0 where
  pub kept : KeepsParts b b'
  pub flights : b'.flights.items ≡ b.flights.items
  pub sharing : (was : Sharing) → b.sharing ≡ Some was
      → b'.sharing ≡ Some (record was { done = was.done + 1; step = Look })
  pub stopped : b'.stopped ≡ b.stopped
  pub releases : b'.reclaiming.releases.items ≡ b.reclaiming.releases.items
  pub len : deque_len b'.reclaiming.releases ≡ deque_len b.reclaiming.releases
  pub capacity : deque_capacity b'.reclaiming.releases ≡ deque_capacity b.reclaiming.releases
  pub raised : b'.reclaiming.raised ≡ b.reclaiming.raised
  pub zero_check : b'.reclaiming.zero_check ≡ b.reclaiming.zero_check
  pub waiting : b'.reclaiming.waiting ≡ b.reclaiming.waiting
  pub trace : b'.trace.items ≡ b.trace.items ++ record { slot = slot; word = word } ∷ []
  pub trace_len : vec_len b'.trace ≡ vec_len b.trace + 1
  pub trace_capacity : vec_capacity b'.trace ≡ vec_capacity b.trace
  pub owed : b'.owed ≡ record b.owed { units = b.owed.units - 3; trace = b.owed.trace - 1 }
  pub made : Counts b b'
