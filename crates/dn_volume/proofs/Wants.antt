-- Where nothing waits, no inode is dying, and a want of an inode is one of the disk.
use Rattle.std.proofs.Common.{◌≡◌, ⊎_elim, ℕ, ◌+◌, ◌*◌, ◌<◌, ◌≤◌, length, refl, sym, ◌∙◌, ap, subst, arith, Option, Some, None}
use Rattle.std.specs.Prelude.{is_some, if◌then◌else◌}
use Rattle.std.proofs.lemmas.Bool.{cases_eq}
use Rattle.pm_device.specs.State.{State}
use Rattle.dn_model.specs.Disk.{Disk, Use, Free, Live, Dying, maps}
use Rattle.dn_model.specs.Maps.{Mapping}
use Rattle.dn_model.specs.Counts.{total}
use Rattle.dn_model.specs.History.{IsShortOfInodes}
use Rattle.dn_model.specs.declared.op.Op.{Op}
use Rattle.dn_model.specs.declared.op.Op.TheVariants.{Create, Write, Read, Cut, Remove, Rename, Size, List as ListAll}
use Rattle.law_write.proofs.Counting.{term-le}
use Rattle.law_write.proofs.MappedPlaces.{maps-in_file}
use Rattle.dn_volume.specs.declared.background.DyingPlace.{DyingPlace}
use Rattle.dn_volume.specs.declared.volume.Parts.{Parts}
use Rattle.dn_volume.specs.Reclaims.{mapped_places, dying_units, units_by_use, one_if, IsRaised}
use Rattle.dn_volume.specs.Agrees.{IsVolume}
use Rattle.dn_volume.specs.Begins.{LacksInode}
use Rattle.dn_volume.specs.Laws.{InodesAreShort}

counts_one : (x : Option Mapping) (m : Mapping) → x ≡ Some m → 1 ≤ (if is_some x then 1 else 0)
counts_one x m is = subst (λ (y : Option Mapping). 1 ≤ (if is_some y then 1 else 0)) (sym is) (omega arith)

module _ (d : Disk) (b : Parts) (s : State) (volume : IsVolume d b s) (none_waits : b.reclaiming.waiting ≡ 0) where
  -- a dying inode is at least one unit of work, and one with a mapped place at least five
  dying_counts : (ino cut : ℕ) → ino < d.geometry.inodes → (d.inode ino).use_of ≡ Dying cut → 1 + 4 * mapped_places d ino ≤ total d.geometry.inodes
      (dying_units d)
  dying_counts ino cut lt dies =
      let units : dying_units d ino ≡ 1 + 4 * mapped_places d ino = ap (λ (u : Use). units_by_use u (mapped_places d ino)) dies in
      let le = term-le (dying_units d) d.geometry.inodes ino lt in
      omega (arith, units, le)

  place_counts : (ino idx : ℕ) (m : Mapping) → ino < d.geometry.inodes → maps d ino idx ≡ Some m → 1 ≤ mapped_places d ino
  unfolding mapped_places
  place_counts ino idx m lt is =
      let le = term-le (λ k. if is_some (maps d ino k) then 1 else 0) 4096 idx (maps-in_file d volume.fast.valid ino idx m lt is) in
      let one = counts_one (maps d ino idx) m is in
      omega (arith, le, one)

  -- no place is raised
  pub none_raised : b.reclaiming.raised ≡ None
  none_raised = by b.reclaiming.raised refl
    where
      by : (x : Option DyingPlace) → b.reclaiming.raised ≡ x → x ≡ None
      by None is = refl
      by (Some p) is =
          let raised : IsRaised d p = volume.reclaiming.raised p is in
          let five = dying_counts p.ino raised.before raised.in_table raised.dying in
          let some = place_counts p.ino p.place raised.by raised.in_table raised.mapped in
          let waits = volume.reclaiming.waiting in
          let one : one_if b.reclaiming.raised ≡ 1 = ap one_if is in
          absurd (omega (arith, five, some, waits, one, none_waits))

  pub none_dying : (ino cut : ℕ) → ino < d.geometry.inodes → (d.inode ino).use_of ≡ Dying cut → ⊥
  none_dying ino cut lt dies =
      let one = dying_counts ino cut lt dies in
      let waits = volume.reclaiming.waiting in
      let none : one_if b.reclaiming.raised ≡ 0 = ap one_if none_raised in
      omega (arith, one, waits, none, none_waits)

  pub none_released : length b.reclaiming.releases.items ≡ 0
  none_released = let waits = volume.reclaiming.waiting in let none : one_if b.reclaiming.raised ≡ 0 = ap one_if none_raised in
      omega (arith, waits, none, none_waits)

  all_live : ((i : ℕ) → 1 ≤ i → i < d.geometry.inodes → (d.inode i).use_of ≡ Free → ⊥) → (ino : ℕ) → ino < d.geometry.inodes
      → (d.inode ino).use_of ≡ Live
  all_live lacks ino lt = by (d.inode ino).use_of refl
    where
      clash : (u : Use) → u ≡ Live → u ≡ Free → ⊥
      clash u live free = cc

      by : (u : Use) → (d.inode ino).use_of ≡ u → u ≡ Live
      by Live is = refl
      by (Dying cut) is = absurd (none_dying ino cut lt is)
      by Free is = ⊎_elim
          (λ root. absurd (clash (d.inode ino).use_of (ap (λ (i : ℕ). (d.inode i).use_of) root ∙ volume.fast.valid.root) is))
          (λ other. absurd (lacks ino (omega (arith, other)) lt is)) (cases_eq ino 0)

  lacks_inode : (op : Op) → LacksInode d op → IsShortOfInodes d op
  lacks_inode (Create name) lacks = record { name = name; is_create = refl; all_live = all_live lacks }
  lacks_inode (Write name at text) lacks = absurd lacks
  lacks_inode (Read name at count) lacks = absurd lacks
  lacks_inode (Cut name to) lacks = absurd lacks
  lacks_inode (Remove name) lacks = absurd lacks
  lacks_inode (Rename from to) lacks = absurd lacks
  lacks_inode (Size name) lacks = absurd lacks
  lacks_inode ListAll lacks = absurd lacks

pub inodes_are_short : InodesAreShort
inodes_are_short d b s op volume none lacks = lacks_inode d b s volume none op lacks
