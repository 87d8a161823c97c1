-- What is known of a write or a cut in flight that gets on, whatever it does next.
use Rattle.std.proofs.Common.{◌≡◌, ℕ, false, refl, sym, ◌∙◌, ap, subst, arith}
use Rattle.pm_device.specs.State.{State}
use Rattle.dn_model.specs.Disk.{Disk}
use Rattle.dn_model.specs.Own.{Print}
use Rattle.dn_model.specs.declared.op.Op.{Op}
use Rattle.dn_model.specs.declared.op.Op.TheVariants.{Create, Write, Read, Cut, Remove, Rename, Size, List as ListAll}
use Rattle.law_names.specs.NameChange.{NameChange}
use Rattle.dn_volume.specs.declared.flight.Flight.{Flight}
use Rattle.dn_volume.specs.declared.flight.Change.{Change}
use Rattle.dn_volume.specs.declared.flight.Change.TheVariants.{Data, Names}
use Rattle.dn_volume.specs.declared.volume.Parts.{Parts}
use Rattle.dn_volume.specs.declared.volume.Volume.{Volume}
use Rattle.dn_volume.specs.Parties.{Flies}
use Rattle.dn_volume.specs.PlannedNames.{PlansNames}
use Rattle.dn_volume.specs.Flights.{IsFlightOf, left_of, left_by}
use Rattle.dn_volume.specs.Agrees.{IsVolume, Agrees}
use Rattle.dn_volume.specs.Begins.{FliesAs, IsWriteOp, IsCutOp}
use Rattle.dn_volume.specs.declared.outcome.Outcome.{Outcome}
use Rattle.dn_volume.specs.Events.{InFlight, Advances}
use Rattle.count_events.specs.Raised.{IsToRaise}
use Rattle.dn_volume.proofs.Tables.{running_disk}
use Rattle.file_ops.specs.Filling.{HasLeft, IsToFill}
use Rattle.file_ops.specs.Advancing.{IsNext}
use Rattle.file_ops.specs.declared.advance.DataStep.TheVariants.{Fill, Raise, Commit}
use Rattle.file_ops.specs.Ending.{IsLastOfWrite}
use Rattle.file_ops.proofs.Flying.{same_flight}

-- neither is an operation on names
pub write_no_names : (d : Disk) (f : Flight) (change : NameChange) (op : Op) → IsWriteOp op → PlansNames d f change op → ⊥
write_no_names d f change (Create name) kind plans = kind
write_no_names d f change (Write name at text) kind plans = plans
write_no_names d f change (Read name at count) kind plans = kind
write_no_names d f change (Cut name to) kind plans = kind
write_no_names d f change (Remove name) kind plans = kind
write_no_names d f change (Rename from to) kind plans = kind
write_no_names d f change (Size name) kind plans = kind
write_no_names d f change ListAll kind plans = kind

pub cut_no_names : (d : Disk) (f : Flight) (change : NameChange) (op : Op) → IsCutOp op → PlansNames d f change op → ⊥
cut_no_names d f change (Create name) kind plans = kind
cut_no_names d f change (Write name at text) kind plans = kind
cut_no_names d f change (Read name at count) kind plans = kind
cut_no_names d f change (Cut name to) kind plans = plans
cut_no_names d f change (Remove name) kind plans = kind
cut_no_names d f change (Rename from to) kind plans = kind
cut_no_names d f change (Size name) kind plans = kind
cut_no_names d f change ListAll kind plans = kind

-- so it changes data, and has filled and raised no more than there is
pub data_left : (d : Disk) (b : Parts) (s : State) (who : ℕ) (f : Flight) → IsVolume d b s → Flies b who f
    → ((change : NameChange) → PlansNames d f change f.op → ⊥) → HasLeft b who
data_left d b s who f v flies none = by f.change refl (v.flights.each who f flies)
  where
    by : (x : Change) → f.change ≡ x → IsFlightOf d who f s x → HasLeft b who
    by (Data c) is fact = record {
      flight = f;
      data_change = c;
      flies = flies;
      is_data = is;
      filled = fact.filled_few;
      raised = fact.raised_few;
    }
    by (Names c) is fact = absurd (none fact.change fact.plans)

module _ {D F : Type 0} (state : D → State) (w : Volume D F) (who : ℕ) (agrees : Agrees state w) (running : w.parts.stopped ≡ false) where
  pub write_left : (kept : FliesAs IsWriteOp w.parts who) → HasLeft w.parts who
  write_left kept =
      let found = running_disk state w running agrees in
      data_left found.0 w.parts (state w.device) who kept.flight found.1 kept.flies
      (λ change. write_no_names found.0 kept.flight change kept.flight.op kept.kind)

  pub cut_left : (kept : FliesAs IsCutOp w.parts who) → HasLeft w.parts who
  cut_left kept =
      let found = running_disk state w running agrees in
      data_left found.0 w.parts (state w.device) who kept.flight found.1 kept.flies
      (λ change. cut_no_names found.0 kept.flight change kept.flight.op kept.kind)

-- what is asked of each event
pub to_fill : (b : Parts) (who : ℕ) (l : HasLeft b who) → IsNext Fill l.flight l.data_change → IsToFill b who
to_fill b who l next = record { flight = l.flight; data_change = l.data_change; flies = l.flies; is_data = l.is_data; some = next }

pub to_raise : (b : Parts) (who : ℕ) (l : HasLeft b who) → IsNext Raise l.flight l.data_change → IsToRaise b who
to_raise b who l next =
    record { flight = l.flight; data_change = l.data_change; flies = l.flies; is_data = l.is_data; filled = next.0; some = next.1 }

-- the commit is the last event
pub one_left : (b : Parts) (who : ℕ) (l : HasLeft b who) → IsNext Commit l.flight l.data_change → (f : Flight) → Flies b who f → 1 ≡ left_of f
one_left b who l next f flies =
    subst (λ (g : Flight). 1 ≡ left_of g) (same_flight b who l.flight f l.flies flies)
    (sym (ap (left_by l.flight) l.is_data ∙ omega (arith, next.0, next.1)))

pub last_write : (b : Parts) (who : ℕ) (l : HasLeft b who) → IsNext Commit l.flight l.data_change → FliesAs IsWriteOp b who → IsLastOfWrite b who
last_write b who l next kept = by l.flight.op refl (subst (λ (f : Flight). IsWriteOp f.op) (same_flight b who kept.flight l.flight kept.flies l.flies)
    kept.kind)
  where
    by : (op : Op) → l.flight.op ≡ op → IsWriteOp op → IsLastOfWrite b who
    by (Create name) is no_write = absurd no_write
    by (Write name at text) is write = record {
      flight = l.flight;
      flies = l.flies;
      change = l.data_change;
      kind = l.is_data;
      name = name;
      at = at;
      text = text;
      op_is = is;
      all_filled = next.0;
      all_raised = next.1;
    }
    by (Read name at count) is no_write = absurd no_write
    by (Cut name to) is no_write = absurd no_write
    by (Remove name) is no_write = absurd no_write
    by (Rename from to) is no_write = absurd no_write
    by (Size name) is no_write = absurd no_write
    by ListAll is no_write = absurd no_write

-- so what the commit promises is what an advance promises
pub commit_advances : {D F : Type 0} (state : D → State) (print : Print) (v v' : Volume D F) (who : ℕ) (outcome : Outcome)
    (l : HasLeft v.parts who) → IsNext Commit l.flight l.data_change
    → ((d : Disk) (op : Op) → IsVolume d v.parts (state v.device) → InFlight v.parts who op 1 → Advances state print who op 1 v v' d outcome)
    → (d : Disk) (f : Flight) → IsVolume d v.parts (state v.device) → Flies v.parts who f → Advances state print who f.op (left_of f) v v' d outcome
commit_advances state print v v' who outcome l next commits d f is_v flies =
    let one = one_left v.parts who l next f flies in
    subst (λ (left : ℕ). Advances state print who f.op left v v' d outcome) one
    (commits d f.op is_v (record { flight = f; flies = flies; op_is = refl; left_is = one }))
