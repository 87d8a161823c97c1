-- The table that is kept in memory is that of the device's words.
use Rattle.std.proofs.Common.{◌≡◌, Bool, true, false, inl, inr, ◌*◌, ◌∙◌, ap, subst}
use Rattle.std.specs.Prelude.{Option, Some, None, IfSome, IfNone}
use Rattle.pm_device.specs.State.{State}
use Rattle.pm_layout.specs.Geometry.{IsAccepted}
use Rattle.dn_model.specs.Disk.{Disk, of_chains, of_pointers}
use Rattle.fact_table.specs.Table.{IsTable}
use Rattle.dn_volume.specs.declared.volume.Parts.{Parts}
use Rattle.dn_volume.specs.declared.volume.Volume.{Volume}
use Rattle.dn_volume.specs.Agrees.{IsVolume, Agrees, agrees_with, is_stopped}

pub is_table : (d : Disk) (b : Parts) (s : State) → IsVolume d b s → IsTable d s.now b.fact
is_table d b s v = record {
  geometry = v.table.geometry;
  accepted = subst IsAccepted v.table.geometry v.fast.valid.accepted;
  size = v.fast.long ∙ ap (λ g. 512 * g.pages) v.table.geometry;
  says = λ a w said. elim said [
    | inl chain ↦ v.fast.stands.reads a w (of_chains chain)
    | inr pointer ↦ v.fast.stands.reads a w (of_pointers pointer)
  ];
  good = record { table = v.fast.valid.table; apart = v.fast.valid.rows_apart; pointers = v.fast.valid.pointers; leads = v.fast.valid.leads };
  set = v.table.set;
  free = v.table.free;
  taken = v.table.taken;
}

pub some_map : {X : Type 0} (x : Option X) (P Q : X → Type 0) → ((r : X) → P r → Q r) → IfSome x P → IfSome x Q
some_map None P Q f has = tt
some_map (Some r) P Q f has = f r has

pub none_map : {X : Type 0} (x : Option X) (P Q : Type 0) → (P → Q) → IfNone x P → IfNone x Q
none_map None P Q f has = f has
none_map (Some r) P Q f has = tt

-- a volume that agrees and isn't stopped has a disk
pub running_disk : {D F : Type 0} (state : D → State) (v : Volume D F) → v.parts.stopped ≡ false → Agrees state v → (d : Disk) × IsVolume d v.parts
    (state v.device)
running_disk state v running (agrees_with d is) = (d, is)
running_disk state v running (is_stopped stopped) = absurd (apart v.parts.stopped running stopped.stopped)
  where
    apart : (b : Bool) → b ≡ false → b ≡ true → ⊥
    apart b low high = cc
