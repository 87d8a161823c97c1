-- A volume that was just mounted is fresh.
use Rattle.std.proofs.Common.{◌≡◌, ◌-◌, ℕ, List, sym, ◌∙◌}
use Rattle.std.specs.Prelude.{Option, Some, None, Result, Ok, Err, IfOk}
use Rattle.pm_device.specs.State.{State}
use Rattle.dn_model.specs.Disk.{Disk}
use Rattle.dn_model.specs.Own.{Print}
use Rattle.dn_model.specs.Image.{StandsFor, HasNoFault}
use Rattle.dn_volume.specs.declared.flight.Flight.{Flight}
use Rattle.dn_volume.specs.declared.volume.Volume.{Volume}
use Rattle.dn_volume.specs.Agrees.{agrees_with}
use Rattle.dn_mount.specs.Mounted.{IsMounted}
use Rattle.crash_tests.specs.Fresh.{IsFresh}

none_is_none : (f : Flight) → None ≡ Some f → ⊥
none_is_none f is = cc

module _ {D F : Type 0} (state : D → State) (print : Print) (words : List ℕ) where
  fresh : (v : Volume D F) → HasNoFault words → ((d : Disk) → StandsFor words d → IsMounted state print d v) → IsFresh state v
  fresh v sound mounted =
      let m = mounted sound.disk sound.stands_for in
      record {
        agrees = agrees_with m.after m.volume;
        loose = record {
          landed = λ who f flies. none_is_none f (sym (m.flights.none (who - 1)) ∙ flies.is);
          none_begun = m.sharing;
          none_cleaned = m.cleaning;
        };
        running = m.running;
      }

  pub fresh_if_ok : {X : Type 0} (opened : Result (Volume D F) X) → IfOk opened (λ v. HasNoFault words)
      → IfOk opened (λ v. (d : Disk) → StandsFor words d → IsMounted state print d v) → IfOk opened (IsFresh state)
  fresh_if_ok (Ok v) sound mounted = fresh v sound mounted
  fresh_if_ok (Err x) sound mounted = tt
