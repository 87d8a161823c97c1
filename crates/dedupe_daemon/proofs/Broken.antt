-- A fence failed in an event that changes no file.
use Rattle.std.proofs.Common.{ℕ, ◌-◌, ◌*◌, ◌<◌, ◌≤◌, List, [], sym, ◌∙◌, ap, subst}
use Rattle.std.specs.Prelude.{Option, None, All}
use Rattle.std.proofs.lemmas.List.{append-nil}
use Rattle.pm_device.specs.State.{State, Rose}
use Rattle.pm_device.specs.Settled.{LeavesOnly, StoresOnly}
use Rattle.pm_layout.specs.declared.Geometry.{Geometry}
use Rattle.pm_layout.specs.Geometry.{IsAccepted, slots}
use Rattle.dn_model.specs.Disk.{Disk}
use Rattle.dn_model.specs.Files.{files, IsSameFiles}
use Rattle.dn_model.specs.Own.{Print}
use Rattle.dn_model.specs.declared.op.CountChange.{CountChange}
use Rattle.dn_volume.specs.declared.flight.Flight.{Flight}
use Rattle.dn_volume.specs.declared.volume.Volume.{Volume}
use Rattle.dn_volume.specs.Parties.{flight_at}
use Rattle.dn_volume.specs.Agrees.{IsVolume, IsStopped, HasHead}
use Rattle.dn_volume.specs.Events.{IsBetween, Breaks}
use Rattle.dn_volume.proofs.Heads.{head_of, head_kept}
use Rattle.dn_volume.proofs.Kept.{ops_same}
use Rattle.count_events.specs.Released.{Stops}

module _ {D F : Type 0} (state : D → State) (w w' : Volume D F) (d : Disk) (v : IsVolume d w.parts (state w.device)) (stops : Stops w.parts
    w'.parts)
    (W : ℕ → Type 0) (only : StoresOnly W (state w.device) (state w'.device)) (high : (a : ℕ) → a < 4 → W a → ⊥) where
  pub stopped_after : IsStopped w'.parts (state w'.device)
  stopped_after = record {
    stopped = stops.stopped;
    accepted = subst IsAccepted (v.fast.geometry ∙ sym stops.geometry) v.fast.valid.accepted;
    long = only.words ∙ v.fast.long ∙ ap (λ (g : Geometry). 512 * g.pages) (v.fast.geometry ∙ sym stops.geometry);
    head = head_kept W w'.parts.geometry (state w.device) (state w'.device) high only
        (subst (λ (g : Geometry). HasHead g (state w.device).now) (sym stops.geometry) (head_of d w.parts.geometry (state w.device) v.fast));
    trace = subst (λ (g : Geometry). All (λ (c : CountChange). c.slot < slots g) w'.parts.trace.items) (sym stops.geometry)
        (subst (All (λ (c : CountChange). c.slot < slots w.parts.geometry)) (sym stops.trace) v.trace);
  }

  pub breaks_at : (print : Print) (who : ℕ) (e : Disk) → LeavesOnly (state w.device) (state w'.device) (IsBetween print d e)
      → IsSameFiles (files e) (files d) → (state w.device).faults ≤ (state w'.device).faults
      → Rose (state w.device).faults (state w'.device).faults → Breaks state print who None w w' d
  breaks_at print who e images quiet faults rose = record {
    stopped = stopped_after;
    after = e;
    images = images;
    rose = rose;
    quiet = λ none. quiet;
    ops = ops_same w.parts w'.parts stops.flights;
    others = record {
      flights = λ q some other. ap (λ (fs : List (Option Flight)). flight_at fs (q - 1)) stops.flights;
      sharing = λ other. stops.sharing;
      cleaning = λ other. stops.cleaning;
    };
    trace = record { more = []; trace = stops.trace ∙ sym (append-nil w.parts.trace.items) };
    geometry = stops.geometry;
    answering = λ op none. cc;
    answered = λ op none. cc;
    history = stops.history;
    counts = stops.made;
    faults = faults;
  }
