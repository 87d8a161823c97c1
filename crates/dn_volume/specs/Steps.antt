-- An operation in flight that goes on: what it holds and has taken stays, what it is owed moves, and
-- all that others have stays.
use Rattle.std.specs.Prelude.{◌≡◌, ℕ, ◌-◌, ◌≤◌, false, Some}
use Rattle.dn_volume.specs.declared.flight.Flight.{Flight}
use Rattle.dn_volume.specs.declared.volume.Parts.{Parts}
use Rattle.dn_volume.specs.Replaces.{Replaces, MovesOwed, IsFurther}

pub record StepsOn (who : ℕ) (f f' : Flight) (b b' : Parts) : Type 0 where
  pub client : 1 ≤ who
  pub replaces : Replaces (who - 1) (Some f) (Some f') b b'
  pub further : IsFurther f f'
  pub owed : MovesOwed (Some f) (Some f') b b'
  pub geometry : b'.geometry ≡ b.geometry
  pub running : b'.stopped ≡ false
  pub free : b'.free ≡ b.free
  pub names : b'.names ≡ b.names
  pub inodes : b'.inodes ≡ b.inodes
  pub fact : b'.fact ≡ b.fact
  pub queue : b'.queue ≡ b.queue
  pub reclaiming : b'.reclaiming ≡ b.reclaiming
