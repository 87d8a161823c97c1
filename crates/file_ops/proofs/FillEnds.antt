-- The event of a fill, from what its calls give.
use Rattle.std.proofs.Common.{◌≡◌, ℕ, ◌+◌, ◌<◌, ◌≤◌, false, length, refl, sym, ◌∙◌, ap, subst, arith}
use Rattle.std.specs.Prelude.{Some}
use Rattle.pm_device.specs.State.{State, Agree}
use Rattle.dn_model.specs.Disk.{Disk}
use Rattle.dn_model.specs.Own.{Print}
use Rattle.dn_volume.specs.declared.units.TheConstants.{FILL_UNITS}
use Rattle.dn_volume.specs.declared.flight.Flight.{Flight}
use Rattle.dn_volume.specs.declared.flight.DataChange.{DataChange}
use Rattle.dn_volume.specs.declared.flight.Change.TheVariants.{Data}
use Rattle.dn_volume.specs.declared.volume.Parts.{Parts}
use Rattle.dn_volume.specs.declared.volume.Volume.{Volume}
use Rattle.dn_volume.specs.Parties.{Flies}
use Rattle.dn_volume.specs.Flights.{left_of, left_by}
use Rattle.dn_volume.specs.Agrees.{IsVolume, Agrees, agrees_with}
use Rattle.dn_volume.specs.Events.{MovesOn, InFlight}
use Rattle.dn_volume.proofs.Replaced.{flies_new}
use Rattle.dn_volume.proofs.Tables.{running_disk}
use Rattle.file_ops.specs.Filling.{IsToFill, StoresNext, NotesFill, Fills, HasLeft, one_filled}
use Rattle.file_ops.proofs.Flying.{same_flight}
use Rattle.file_ops.proofs.Nexts.{units_owed, left_few}
use Rattle.file_ops.proofs.Filled.{fills_move}

-- of the events that are left there is one less
left_less : (f : Flight) (c : DataChange) → f.change ≡ Data c → c.filled < length c.blocks.items → left_of f ≡ left_of (one_filled f c) + 1
left_less f c kind some = ap (left_by f) kind ∙ omega (arith, some)

module _ {D F : Type 0} (state : D → State) (w : Volume D F) (who : ℕ) (to : IsToFill w.parts who) where
  module _ (agrees : Agrees state w) (running : w.parts.stopped ≡ false) where
    pub fill_owed : FILL_UNITS ≤ w.parts.owed.units
    fill_owed =
        let found = running_disk state w running agrees in
        units_owed found.0 w.parts (state w.device) who to.flight to.data_change found.1 to.flies to.is_data to.some

  module _ (b' : Parts) (notes : NotesFill who w.parts b') where
    abbrev change : Fills who to.flight to.data_change w.parts b'
    change = (notes to.flight to.data_change to.flies to.is_data).0

    flies_now : Flies b' who (one_filled to.flight to.data_change)
    flies_now =
        flies_new who to.flies.client (Some to.flight) (Some (one_filled to.flight to.data_change)) w.parts b' change.steps.replaces
        (one_filled to.flight to.data_change) refl

    pub fill_left : Agrees state w → w.parts.stopped ≡ false → HasLeft b' who
    fill_left agrees running =
        let found = running_disk state w running agrees in
        let few = left_few found.0 w.parts (state w.device) who to.flight to.data_change found.1 to.flies to.is_data in
        record {
          flight = one_filled to.flight to.data_change;
          data_change = record to.data_change { filled = to.data_change.filled + 1 };
          flies = flies_now;
          is_data = refl;
          filled = omega (arith, to.some);
          raised = few.1;
        }

    pub fill_flies : (left : ℕ) → ((g : Flight) → Flies b' who g → left ≡ left_of g) → (g : Flight) → Flies w.parts who g
        → InFlight b' who g.op left × (left_of g ≡ left + 1) × (1 ≤ left)
    fill_flies left tells g flies =
        let told = tells (one_filled to.flight to.data_change) flies_now in
        subst (λ (h : Flight). InFlight b' who h.op left × (left_of h ≡ left + 1) × (1 ≤ left)) (same_flight w.parts who to.flight g to.flies flies) (
          record { flight = one_filled to.flight to.data_change; flies = flies_now; op_is = refl; left_is = told },
          left_less to.flight to.data_change to.is_data to.some ∙ ap (λ (n : ℕ). n + 1) (sym told),
          omega (arith, told),
        )

  module _ (w' : Volume D F) (agree : Agree (state w'.device).now (state w'.device).past)
      (stores : StoresNext who w.parts (state w.device) (state w'.device)) (notes : NotesFill who w.parts w'.parts) where
    pub fill_moves : (print : Print) (d : Disk) → IsVolume d w.parts (state w.device) → MovesOn state print who w w' d
    fill_moves print d v =
        let change = notes to.flight to.data_change to.flies to.is_data in
        fills_move state print w w' d who to.flight to.data_change v agree to.flies to.is_data to.some
        (stores d to.flight to.data_change v to.flies to.is_data) change.0 change.1

    pub fill_agrees : (print : Print) → Agrees state w → w.parts.stopped ≡ false → Agrees state w'
    fill_agrees print agrees running =
        let found = running_disk state w running agrees in
        let moves = fill_moves print found.0 found.1 in
        agrees_with moves.after moves.moves.volume
