-- The order of reclaim's events.
use Rattle.std.proofs.Common.{◌≡◌, ◌⊎◌, ⊎_elim, ℕ, ◌<◌, length, false, refl, ap, subst, arith, Option, None, Some}
use Rattle.std.specs.VecDeque.{deque_len}
use Rattle.std.specs.Prelude.{is_some, IsSome}
use Rattle.pm_device.specs.State.{State}
use Rattle.pm_layout.specs.declared.Geometry.{Geometry}
use Rattle.dn_model.specs.Table.{Row}
use Rattle.dn_model.specs.Disk.{Disk}
use Rattle.fact_table.specs.Table.{IsTable, HasTable, IsOfPage}
use Rattle.dn_volume.specs.declared.volume.Parts.{Parts}
use Rattle.dn_volume.specs.declared.volume.Volume.{Volume}
use Rattle.dn_volume.specs.Reclaims.{one_if, IsRaised}
use Rattle.dn_volume.specs.Agrees.{IsVolume, Agrees}
use Rattle.dn_volume.specs.Begins.{IsUntouched}
use Rattle.dn_volume.specs.Works.{MayWork, release_stand}
use Rattle.dn_volume.proofs.SameRoom.{inodes_same}
use Rattle.dn_volume.proofs.Tables.{is_table, running_disk}
use Rattle.reclaim.specs.Dying.{IsLastOf, IsAt, IsDying}
use Rattle.reclaim.proofs.NextPlace.{last_place, page_inside, is_raised, none_wait}

-- nothing was touched
pub untouched : {D F : Type 0} (state : D → State) (w : Volume D F) (d : Disk) → IsVolume d w.parts (state w.device) → IsUntouched state w w d
untouched state w d v = record {
  volume = v;
  device = record { now = refl; past = refl; faults = refl };
  same = record {
    work = record {
      geometry = refl;
      names = refl;
      fact = refl;
      queue = refl;
      sharing = refl;
      zero_check = refl;
      raised = refl;
      releases = refl;
      waiting = refl;
      cleaning = refl;
      trace = refl;
      stopped = refl;
    };
    free = refl;
    inodes = inodes_same w.parts.inodes.items;
    flights = refl;
  };
  history = refl;
  made = refl;
}

-- where nothing is to be done, nothing waits
pub rests_now : (d : Disk) (b : Parts) (s : State) → IsVolume d b s → b.reclaiming.zero_check ≡ None → deque_len b.reclaiming.releases ≡ 0
    → ((i : ℕ) → IsDying b.inodes.items i → ⊥) → b.reclaiming.waiting ≡ 0
rests_now d b s v unchecked none none_dying =
    let zero : one_if b.reclaiming.zero_check ≡ 0 = ap (λ (r : Option ℕ). one_if r) unchecked in
    let long : length b.reclaiming.releases.items ≡ 0 = omega (arith, none, b.reclaiming.releases.ok.0) in
    omega (arith, v.reclaiming.waiting, zero, long, none_wait d b s v none_dying)

module _ {D F : Type 0} (state : D → State) (w : Volume D F) (ino place page : ℕ) (at : IsAt (λ n. IsLastOf n place page) w.parts.inodes.items ino)
  where
    pub has_table : Agrees state w → w.parts.stopped ≡ false → HasTable (state w.device).now w.parts.fact
    has_table agrees running = let found = running_disk state w running agrees in
        record { disk = found.0; is = is_table found.0 w.parts (state w.device) found.1 }

    pub page_small : Agrees state w → w.parts.stopped ≡ false → page < w.parts.fact.geometry.pages
    page_small agrees running =
        let found = running_disk state w running agrees in
        let inside = page_inside found.0 w.parts (state w.device) found.1 ino place page (last_place found.0 w.parts (state w.device) found.1 ino place
        page at) in
        subst (λ (g : Geometry). page < g.pages) found.1.table.geometry inside

    pub place_is_raised : (row : Row) → ((d : Disk) → IsTable d (state w.device).now w.parts.fact → IsOfPage d page row) → (d : Disk)
        → IsVolume d w.parts (state w.device)
        → IsRaised d (record { ino = ino; place = place; slot = row.slot })
    place_is_raised row found d v = is_raised d w.parts (state w.device) v ino place page (last_place d w.parts (state w.device) v ino place page at)
        row (found d (is_table d w.parts (state w.device) v))

-- where something waits, and nothing is begun, memory may be wanting
pub waits_some : (b : Parts) → (b.reclaiming.waiting ≡ 0 → ⊥) → MayWork (release_stand b)
waits_some b some = record { some = λ rests. some rests; loose = λ holder none. none }

pub none_begun : (b : Parts) → false ≡ is_some b.reclaiming.zero_check → false ≡ is_some b.reclaiming.raised → IsSome b.reclaiming.zero_check ⊎ IsSome
    b.reclaiming.raised → ⊥
none_begun b unchecked unraised begun = ⊎_elim (λ some. clash b.reclaiming.zero_check unchecked some)
    (λ some. clash b.reclaiming.raised unraised some) begun
  where
    clash : {X : Type 0} (o : Option X) → false ≡ is_some o → IsSome o → ⊥
    clash None none some = cc
    clash (Some x) none some = cc
