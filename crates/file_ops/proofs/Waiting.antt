-- What waits for the daemon and for reclaim, once a flight is ended.
use Rattle.std.proofs.Common.{◌≡◌, ◌⊎◌, inl, inr, ℕ, ◌+◌, ◌*◌, ◌<◌, ◌≤◌, List, ◌++◌, length, length-append, refl, sym, ◌∙◌, ap, subst, arith}
use Rattle.std.specs.Prelude.{slice_get, is_some, if◌then◌else◌, Option, Some, Contains}
use Rattle.std.proofs.lemmas.Bool.{cases_eq, cases_lt}
use Rattle.std.proofs.lemmas.List.Elements.{Contains-append_left, Contains-append_right}
use Rattle.log_entry.specs.declared.item.Flag.TheVariants.{Complete}
use Rattle.dedupe_queue.specs.declared.Work.{Work}
use Rattle.dn_model.specs.Maps.{Mapping}
use Rattle.dn_model.specs.Table.{Row}
use Rattle.dn_model.specs.Disk.{Disk, Use, maps}
use Rattle.dn_model.specs.Counts.{total}
use Rattle.dn_model.specs.Own.{LivePlace}
use Rattle.law_write.proofs.Counting.{total-same}
use Rattle.law_write.proofs.WriteCounts.{maps_others}
use Rattle.law_write.proofs.WriteValid.{use_kept}
use Rattle.dn_volume.specs.declared.flight.Flight.{Flight}
use Rattle.dn_volume.specs.declared.flight.DataChange.{DataChange}
use Rattle.dn_volume.specs.declared.volume.InodeState.{InodeState}
use Rattle.dn_volume.specs.declared.volume.Parts.{Parts}
use Rattle.dn_volume.specs.declared.background.DyingPlace.{DyingPlace}
use Rattle.dn_volume.specs.Inodes.{AreInodesOf}
use Rattle.dn_volume.specs.Shares.{IsWaiting, in_queue, is_begun, IsQueued}
use Rattle.dn_volume.specs.Reclaims.{mapped_places, units_by_use, dying_units, one_if, IsRaised, IsReclaiming}
use Rattle.file_ops.specs.Ends.{ChangesData, KeepsParts, ChangesInode, Releases, Queues}
use Rattle.file_ops.proofs.Freed.{rows_same}
use Rattle.file_ops.proofs.Nodes.{old_state, new_state}

module _ (d e : Disk) (b b' : Parts) (f : Flight) (c : DataChange) (from n runs : ℕ) (inodes : AreInodesOf d b.inodes.items)
    (disk : ChangesData d e f c from n) (keeps : KeepsParts b b') (sharing_same : b'.sharing ≡ b.sharing)
    (change : ChangesInode e f.ino c.size b b') where
  new_round : (old new : InodeState) → slice_get b.inodes.items f.ino ≡ Some old → slice_get b'.inodes.items f.ino ≡ Some new → new.round ≡ old.round
  new_round old new was is = (change.here old new was is).round

  same_state : (o : Option InodeState) (x y : InodeState) → o ≡ Some x → o ≡ Some y → x ≡ y
  same_state o x y a b = cc

  -- what waited waits still
  waits_still : (more : List Work) → b'.queue.items ≡ b.queue.items ++ more → (ino slot : ℕ) → IsWaiting b ino slot → IsWaiting b' ino slot
  waits_still more items ino slot (in_queue work x has ino_is slot_is is round) = elim (cases_eq ino f.ino) [
    | inl same ↦
        let here : slice_get b.inodes.items f.ino ≡ Some x = subst (λ (i : ℕ). slice_get b.inodes.items i ≡ Some x) same is in
        let now = new_state d e b b' f c from n inodes disk change in
        in_queue work now.0 there ino_is slot_is (subst (λ (i : ℕ). slice_get b'.inodes.items i ≡ Some now.0) (sym same) now.1)
        (round ∙ sym (new_round x now.0 here now.1))
    | inr ne ↦ in_queue work x there ino_is slot_is (change.others ino ne ∙ is) round
  ]
    where
      there : Contains b'.queue.items work
      there = subst (λ (ws : List Work). Contains ws work) (sym items) (Contains-append_left b.queue.items more work has)
  waits_still more items ino slot (is_begun sharing is ino_is slot_is) = is_begun sharing (sharing_same ∙ is) ino_is slot_is

  module _ (queues : Queues e f.ino from n runs b b') where
    -- an item of the flight waits
    new_waits : (idx : ℕ) (m : Mapping) → from ≤ idx → idx < from + n → maps e f.ino idx ≡ Some m → IsWaiting b' f.ino m.slot
    new_waits idx m low high is =
        let old = old_state d e b b' f c from n inodes disk change in
        let new = new_state d e b b' f c from n inodes disk change in
        in_queue (record { ino = f.ino; round = old.0.round; slot = m.slot }) new.0
        (subst (λ (ws : List Work). Contains ws (record { ino = f.ino; round = old.0.round; slot = m.slot })) (sym queues.items)
        (Contains-append_right b.queue.items queues.more (record { ino = f.ino; round = old.0.round; slot = m.slot })
        (queues.each idx m old.0 low high is old.1)))
        refl refl new.1 (sym (new_round old.0 new.0 old.1 new.1))

    pub queued_after : IsQueued d b → IsQueued e b'
    queued_after queued = record {
      waits = λ ino idx m live ne. elim (cases_eq ino f.ino) [
        | inl same ↦
            let here : LivePlace e f.ino idx m = subst (λ (i : ℕ). LivePlace e i idx m) same live in
            subst (λ (i : ℕ). IsWaiting b' i m.slot) (sym same) (of_file idx m here ne)
        | inr other ↦ waits_still queues.more queues.items ino m.slot (queued.waits ino idx m (record {
          in_table = subst (λ (k : ℕ). ino < k) (ap (λ g. g.inodes) disk.event.relogs.geometry) live.in_table;
          live = sym (use_kept f.ino d e disk.event ino) ∙ live.live;
          maps = sym (maps_others f.ino d e disk.event ino idx other) ∙ live.maps;
        }) ne)
      ];
    }
      where
        old_place : (idx : ℕ) (m : Mapping) → (idx < from) ⊎ (from + n ≤ idx) → LivePlace e f.ino idx m → (m.flag ≡ Complete → ⊥)
            → IsWaiting b' f.ino m.slot
        old_place idx m out live ne = waits_still queues.more queues.items f.ino m.slot (queued.waits f.ino idx m (record {
          in_table = disk.event.in_table;
          live = disk.event.live;
          maps = sym (disk.drops.kept idx out) ∙ live.maps;
        }) ne)

        of_file : (idx : ℕ) (m : Mapping) → LivePlace e f.ino idx m → (m.flag ≡ Complete → ⊥) → IsWaiting b' f.ino m.slot
        of_file idx m live ne = elim (cases_lt idx from) [
          | inl low ↦ old_place idx m (inl low) live ne
          | inr above ↦ elim (cases_lt idx (from + n)) [
            | inl inside ↦ new_waits idx m above inside live.maps
            | inr past ↦ old_place idx m (inr past) live ne
          ]
        ]

  -- no dying inode is another
  units_same : (i : ℕ) → dying_units e i ≡ dying_units d i
  unfolding mapped_places
  units_same i = elim (cases_eq i f.ino) [
    | inl same ↦
        ap (λ (u : Use). units_by_use u (mapped_places e i)) (use_kept f.ino d e disk.event i ∙ ap (λ (j : ℕ). (d.inode j).use_of)
        same ∙ disk.event.live)
        ∙ sym (ap (λ (u : Use). units_by_use u (mapped_places d i)) (ap (λ (j : ℕ). (d.inode j).use_of) same ∙ disk.event.live))
    | inr ne ↦
        ap (λ (u : Use). units_by_use u (mapped_places e i)) (use_kept f.ino d e disk.event i)
        ∙ ap (units_by_use (d.inode i).use_of)
        (total-same (λ idx. if is_some (maps d i idx) then 1 else 0) (λ idx. if is_some (maps e i idx) then 1 else 0) 4096
        (λ idx lt. ap (λ (m : Option Mapping). if is_some m then 1 else 0) (maps_others f.ino d e disk.event i idx ne)))
  ]

  pub reclaiming_after : Releases f b b' → ((p : DyingPlace) → b'.reclaiming.raised ≡ Some p → IsRaised e p) → IsReclaiming d b → IsReclaiming e b'
  reclaiming_after releases raised was = record {
    waiting =
        let units : total e.geometry.inodes (dying_units e) ≡ total d.geometry.inodes (dying_units d) =
        ap (λ g. total g.inodes (dying_units e)) disk.event.relogs.geometry ∙ total-same (dying_units d) (dying_units e) d.geometry.inodes
        (λ i lt. units_same i) in
        let zero : one_if b'.reclaiming.zero_check ≡ one_if b.reclaiming.zero_check = ap (λ (z : Option ℕ). one_if z) keeps.zero_check in
        let up : one_if b'.reclaiming.raised ≡ one_if b.reclaiming.raised = ap (λ (z : Option DyingPlace). one_if z) keeps.raised in
        let more : length b'.reclaiming.releases.items ≡ length b.reclaiming.releases.items + length f.rows.items = ap length releases.items ∙
        length-append b.reclaiming.releases.items f.rows.items in
        sums _ _ _ _ _ _ _ _ _ _ _ was.waiting releases.waiting up zero more units;
    zero_check = λ slot is.
        let row = was.zero_check slot (sym keeps.zero_check ∙ is) in
        record {
          row = row.row;
          is = record {
            there = subst (λ (rs : List Row). Contains rs row.row)
                (sym (rows_same f.ino d e disk.event disk.well from n disk.drops)) row.is.there;
            slot_is = row.is.slot_is;
          };
        };
    raised = raised;
  }
    where
      sums : (w w' r r' z z' l l' u u' k : ℕ) → w + r ≡ z + 2 * l + u → w' ≡ w + 2 * k → r' ≡ r → z' ≡ z → l' ≡ l + k → u' ≡ u
          → w' + r' ≡ z' + 2 * l' + u'
      sums w w' r r' z z' l l' u u' k e1 e2 e3 e4 e5 e6 = omega arith
