-- A cut whose page is filled and whose rows are raised has its commit left.
use Rattle.std.proofs.Common.{◌≡◌, ℕ, refl, subst}
use Rattle.dn_model.specs.declared.op.Op.{Op}
use Rattle.dn_model.specs.declared.op.Op.TheVariants.{Create, Write, Read, Cut, Remove, Rename, Size, List as ListAll}
use Rattle.dn_volume.specs.declared.flight.Flight.{Flight}
use Rattle.dn_volume.specs.declared.volume.Parts.{Parts}
use Rattle.dn_volume.specs.Begins.{FliesAs, IsCutOp}
use Rattle.file_ops.specs.Filling.{HasLeft}
use Rattle.file_ops.specs.Advancing.{IsNext}
use Rattle.file_ops.specs.declared.advance.DataStep.TheVariants.{Commit}
use Rattle.file_ops.proofs.Flying.{same_flight}
use Rattle.size_ops.specs.Ending.{IsLastOfCut}

pub last_cut : (b : Parts) (who : ℕ) (l : HasLeft b who) → IsNext Commit l.flight l.data_change → FliesAs IsCutOp b who → IsLastOfCut b who
last_cut b who l next kept = by l.flight.op refl (subst (λ (f : Flight). IsCutOp f.op) (same_flight b who kept.flight l.flight kept.flies l.flies)
    kept.kind)
  where
    by : (op : Op) → l.flight.op ≡ op → IsCutOp op → IsLastOfCut b who
    by (Create name) is no_cut = absurd no_cut
    by (Write name at text) is no_cut = absurd no_cut
    by (Read name at count) is no_cut = absurd no_cut
    by (Cut name to) is cut = record {
      flight = l.flight;
      flies = l.flies;
      change = l.data_change;
      kind = l.is_data;
      name = name;
      to = to;
      op_is = is;
      all_filled = next.0;
      all_raised = next.1;
    }
    by (Remove name) is no_cut = absurd no_cut
    by (Rename from to) is no_cut = absurd no_cut
    by (Size name) is no_cut = absurd no_cut
    by ListAll is no_cut = absurd no_cut
