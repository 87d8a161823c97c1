-- Who holds inodes, where the daemon takes one and where it lets one go.
use Rattle.std.proofs.Common.{◌≡◌, inl, inr, ℕ, ◌<◌, ◌≤◌, List, length, refl, sym, ◌∙◌, ap, subst, arith}
use Rattle.std.specs.Prelude.{slice_get, Option, Some}
use Rattle.std.specs.FinMap.{get}
use Rattle.std.proofs.lemmas.Bool.{cases_eq}
use Rattle.dn_model.specs.Disk.{Disk}
use Rattle.dn_volume.specs.declared.flight.Flight.{Flight}
use Rattle.dn_volume.specs.declared.flight.Change.TheVariants.{Data}
use Rattle.dn_volume.specs.declared.flight.DataChange.{DataChange}
use Rattle.dn_volume.specs.declared.volume.InodeState.{InodeState}
use Rattle.dn_volume.specs.declared.volume.Parts.{Parts}
use Rattle.dn_volume.specs.Parties.{Flies, Holds}
use Rattle.dn_volume.specs.Inodes.{AreHolders, IsInodeOf, AreInodesOf, as_use}
use Rattle.dn_volume.specs.Reserve.{HasRoom}
use Rattle.pm_device.specs.State.{State}
use Rattle.reclaim.specs.Worked.{ChangesOne}
use Rattle.reclaim.proofs.NodesChanged.{there_at}
use Rattle.dedupe_daemon.specs.Daemon.{IsHeldBy}

one_holder : (h : Option ℕ) (p q : ℕ) → h ≡ Some p → h ≡ Some q → p ≡ q
one_holder h p q there here = cc

-- no two hold an inode
pub held_once : (d : Disk) (b : Parts) → AreHolders d b → (ino : ℕ) → ino < length b.inodes.items → (p q : ℕ) → Holds b p ino → Holds b q ino → p ≡ q
held_once d b holders ino inside p q hp hq =
    let at = there_at b.inodes.items ino inside in
    one_holder at.0.holder p q ((holders.told ino p at.0 at.1).1 hp) ((holders.told ino q at.0 at.1).1 hq)

module _ (holder : Option ℕ) (ino : ℕ) (old new : List InodeState) (change : ChangesOne (IsHeldBy holder) ino old new) (lt : ino < length old) where
  -- the inode's state before
  pub was_held : (y : InodeState) → slice_get new ino ≡ Some y → (x : InodeState) × (slice_get old ino ≡ Some x) × IsHeldBy holder x y
  was_held y at = let was = there_at old ino lt in (was.0, was.1, change.here was.0 y was.1 at)

  pub now_held : (x : InodeState) → slice_get old ino ≡ Some x → (y : InodeState) × (slice_get new ino ≡ Some y) × IsHeldBy holder x y
  now_held x at = let now = there_at new ino (omega (arith, lt, change.all)) in (now.0, now.1, change.here x now.0 at now.1)

  -- its round stays
  pub round_on : (i : ℕ) (x : InodeState) → slice_get old i ≡ Some x → (y : InodeState) × (slice_get new i ≡ Some y) × (y.round ≡ x.round)
  round_on i x at = elim (cases_eq i ino) [
    | inl same ↦
        let now = now_held x (ap (slice_get old) (sym same) ∙ at) in
        (now.0, ap (slice_get new) same ∙ now.1, now.2.round)
    | inr ne ↦ (x, change.others i ne ∙ at, refl)
  ]

  -- and so does the room of each index
  pub room_on : (b : Parts) (s : State) → HasRoom b s → b.inodes.items ≡ old → (who : ℕ) (f : Flight) (c : DataChange) (y : InodeState) → Flies b who
      f
      → f.change ≡ Data c → slice_get new f.ino ≡ Some y → length c.blocks.items ≤ y.map.room
  room_on b s room same who f c y flies is at = elim (cases_eq f.ino ino) [
    | inl here ↦
        let was = was_held y (ap (slice_get new) (sym here) ∙ at) in
        let there : slice_get b.inodes.items f.ino ≡ Some was.0 = ap (λ (ns : List InodeState). slice_get ns f.ino) same ∙ ap (slice_get old) here ∙
        was.1 in
        let big = room.places who f c was.0 flies is there in
        let room_same = ap (λ m. m.room) was.2.map in
        omega (arith, big, room_same)
    | inr ne ↦ room.places who f c y flies is (ap (λ (ns : List InodeState). slice_get ns f.ino) same ∙ sym (change.others f.ino ne) ∙ at)
  ]

  -- what is kept of each is the disk's
  pub inodes_on : (e : Disk) → AreInodesOf e old → AreInodesOf e new
  inodes_on e are = record {
    all = change.all ∙ are.all;
    each = λ i y at. elim (cases_eq i ino) [
      | inl same ↦
          let was = was_held y (ap (slice_get new) (sym same) ∙ at) in
          let is = are.each ino was.0 was.1 in
          subst (λ (j : ℕ). IsInodeOf e j y) (sym same) (record {
            use_is = is.use_is ∙ ap as_use (sym was.2.used);
            size_is = λ used. is.size_is used ∙ sym was.2.size;
            small = subst (λ (n : ℕ). n ≤ 16777216) (sym was.2.size) is.small;
            log_pages = λ used. is.log_pages used ∙ sym was.2.log_pages;
            places = λ idx. ap (λ m. get m.map idx) was.2.map ∙ is.places idx;
          })
      | inr ne ↦ are.each i y (sym (change.others i ne) ∙ at)
    ];
  }
