-- An event of the daemon or of reclaim, where all else is done.
use Rattle.std.proofs.Common.{◌≡◌, inl, inr}
use Rattle.pm_device.specs.State.{State}
use Rattle.dn_model.specs.Disk.{Disk}
use Rattle.dn_model.specs.Own.{Print}
use Rattle.dn_volume.specs.declared.outcome.Outcome.{Outcome}
use Rattle.dn_volume.specs.declared.outcome.Outcome.TheVariants as told
use Rattle.dn_volume.specs.declared.volume.Parts.{Parts}
use Rattle.dn_volume.specs.declared.volume.Volume.{Volume}
use Rattle.dn_volume.specs.Begins.{IsUntouched}
use Rattle.dn_volume.specs.Works.{DaemonWorks, ReclaimWorks}
use Rattle.dn_shared.proofs.Hands.{landed_on, ops_hands, flights_hands}
use Rattle.dn_shared.proofs.Past.{Quiets, daemon_rested, same_daemon, same_reclaim, empty_daemon, none_still}

module _ {D F : Type 0} (state : D → State) (print : Print) (v v' : Volume D F) (d : Disk) where
  untouched_quiet : IsUntouched state v v' d → Quiets v.parts v'.parts
  untouched_quiet un = record {
    landed = landed_on v.parts v'.parts (flights_hands v.parts v'.parts un.same.flights);
    daemon = λ rests. inr (same_daemon v.parts v'.parts un.same.work.sharing un.same.work.queue rests);
    reclaim = λ rests. inr (same_reclaim v.parts v'.parts un.same.work.waiting rests);
  }

  pub daemon_quiet : (outcome : Outcome) → DaemonWorks state print v v' d outcome → Quiets v.parts v'.parts
  daemon_quiet (told.Running left) is = record {
    landed = landed_on v.parts v'.parts (ops_hands v.parts v'.parts is.0.ops);
    daemon = λ rests. absurd (is.1.some (daemon_rested v.parts rests));
    reclaim = λ rests. inr (same_reclaim v.parts v'.parts is.2.waiting rests);
  }
  daemon_quiet (told.Done reply) is = absurd is
  daemon_quiet (told.Busy holder) is = untouched_quiet is.0
  daemon_quiet (told.Released waiting) is = absurd is
  daemon_quiet told.Idle is = untouched_quiet is.0
  daemon_quiet told.NotYours is = absurd is
  daemon_quiet told.NoMemory is = untouched_quiet is.0
  daemon_quiet told.Stopped is = record {
    landed = landed_on v.parts v'.parts (ops_hands v.parts v'.parts is.0.ops);
    daemon = λ rests. inl is.0.stopped.stopped;
    reclaim = λ rests. inl is.0.stopped.stopped;
  }

  pub reclaim_quiet : (outcome : Outcome) → ReclaimWorks state print v v' d outcome → Quiets v.parts v'.parts
  reclaim_quiet (told.Running left) is = record {
    landed = landed_on v.parts v'.parts (ops_hands v.parts v'.parts is.0.ops);
    daemon = λ rests. inr (empty_daemon v.parts v'.parts is.2.sharing (is.2.rests (daemon_rested v.parts rests)) rests);
    reclaim = λ none. inr (none_still v.parts v'.parts is.2.waiting none);
  }
  reclaim_quiet (told.Done reply) is = absurd is
  reclaim_quiet (told.Busy holder) is = absurd is.1
  reclaim_quiet (told.Released waiting) is = absurd is
  reclaim_quiet told.Idle is = untouched_quiet is.0
  reclaim_quiet told.NotYours is = absurd is
  reclaim_quiet told.NoMemory is = untouched_quiet is.0
  reclaim_quiet told.Stopped is = record {
    landed = landed_on v.parts v'.parts (ops_hands v.parts v'.parts is.0.ops);
    daemon = λ rests. inl is.0.stopped.stopped;
    reclaim = λ rests. inl is.0.stopped.stopped;
  }
