-- The front item of the queue, as the disk has it.
use Rattle.std.proofs.Common.{◌≡◌, ℕ, zero, suc, ◌+◌, ◌*◌, ◌^◌, ◌<◌, ◌≤◌, List, length, refl, sym, ◌∙◌, ap, subst, arith}
use Rattle.std.specs.Prelude.{slice_get, nat_lt, Some, IsTrue, Contains, ◌↔◌}
use Rattle.std.specs.Option.{option_map}
use Rattle.std.proofs.lemmas.Bool.Decides.{nat_tests}
use Rattle.std.proofs.lemmas.List.Elements.{All-contains}
use Rattle.pm_device.specs.State.{State}
use Rattle.log_entry.specs.declared.item.LogItem.{LogItem}
use Rattle.log_entry.specs.declared.item.LogItem.TheVariants.{Write}
use Rattle.file_index.specs.declared.page_map.Mapping.{Mapping as KeptMapping}
use Rattle.file_content.specs.Content.{kept}
use Rattle.dedupe_queue.specs.declared.Work.{Work}
use Rattle.dn_model.specs.Maps.{Mapping}
use Rattle.dn_model.specs.Disk.{Disk, Live, maps}
use Rattle.dn_model.specs.Valid.{MayStand}
use Rattle.law_write.proofs.MappedPlaces.{maps-in_file}
use Rattle.dn_volume.specs.declared.volume.InodeState.{InodeState}
use Rattle.dn_volume.specs.declared.volume.InodeUse.{InodeUse}
use Rattle.dn_volume.specs.declared.volume.InodeUse.TheVariants as used
use Rattle.dn_volume.specs.declared.volume.Parts.{Parts}
use Rattle.dn_volume.specs.Inodes.{as_use}
use Rattle.dn_volume.specs.Agrees.{IsVolume}
use Rattle.dn_volume.specs.Works.{IsFresh}
use Rattle.reclaim.proofs.NextPlace.{inside_list}
use Rattle.dedupe_daemon.specs.Fronts.{IsFreshWork, item_at}
use Rattle.dedupe_daemon.proofs.Items.{in_middle}
use Rattle.dedupe_daemon.proofs.ItemAt.{HasWrite, at, good, slot_inside, slot_in_data, word_is, write_of}
use Rattle.dedupe_daemon.proofs.RelogDisk.{some_of}

-- no inode is there
pub outside : (nodes : List InodeState) (work : Work) → length nodes ≤ work.ino → IsTrue (nat_lt work.ino (length nodes)) ↔ IsFreshWork nodes work
outside nodes work past = (
  λ is. absurd (clash (length nodes) work.ino past is),
  λ fresh. let inside = inside_list nodes work.ino fresh.node fresh.there in absurd (omega (arith, inside, past)),
)
  where
    clash : (n k : ℕ) → n ≤ k → IsTrue (nat_lt k n) → ⊥
    clash n k le is = grind (arith, nat_tests, le, is)

-- a fresh item of the queue stands in the log of a live file, and maps a place of it
pub record IsOfFile (d : Disk) (b : Parts) (work : Work) : Type 0 where
  pub node : InodeState
  pub there : slice_get b.inodes.items work.ino ≡ Some node
  pub round : work.round ≡ node.round
  pub in_table : work.ino < d.geometry.inodes
  pub live : (d.inode work.ino).use_of ≡ Live
  pub idx : ℕ
  pub m : Mapping
  pub mapped : maps d work.ino idx ≡ Some m
  pub by_item : m.slot ≡ work.slot
  pub first : ℕ
  pub n : ℕ
  pub block : ℕ
  pub size : ℕ
  pub has : HasWrite d work.ino work.slot first n block size m.flag m.mask

module _ (d : Disk) (b : Parts) (s : State) (v : IsVolume d b s) (work : Work) where
  pub of_file : IsFreshWork b.inodes.items work → IsOfFile d b work
  of_file fresh =
      let is = v.inodes.each work.ino fresh.node fresh.there in
      let live : (d.inode work.ino).use_of ≡ Live = is.use_is ∙ ap as_use fresh.has.live in
      let inside = inside_list b.inodes.items work.ino fresh.node fresh.there in
      let in_table : work.ino < d.geometry.inodes = omega (arith, inside, v.inodes.all) in
      let place = fresh.has.place in
      let was = some_of kept (maps d work.ino place.idx) place.is.by (sym (is.places place.idx) ∙ place.is.mapped) in
      let by : was.0.slot ≡ work.slot = ap (λ (k : KeptMapping). k.slot) (sym was.2) ∙ place.is.by_item in
      let write = write_of d work.ino place.idx was.0 in_table live was.1 in
      record {
        node = fresh.node;
        there = fresh.there;
        round = fresh.has.round;
        in_table = in_table;
        live = live;
        idx = place.idx;
        m = was.0;
        mapped = was.1;
        by_item = by;
        first = write.0;
        n = write.1;
        block = write.2;
        size = write.3;
        has = subst (λ (slot : ℕ). HasWrite d work.ino slot write.0 write.1 write.2 write.3 was.0.flag was.0.mask) by write.4;
      }

  -- an item that the disk calls fresh is found so
  pub found_fresh : IsFresh d b work → IsFreshWork b.inodes.items work
  found_fresh fresh =
      let is = v.inodes.each work.ino fresh.kept fresh.is_kept in
      let inside = inside_list b.inodes.items work.ino fresh.kept fresh.is_kept in
      record {
        node = fresh.kept;
        there = fresh.is_kept;
        has = record {
          live = is_live fresh.kept (sym is.use_is ∙ fresh.live);
          round = fresh.round;
          place = record {
            idx = fresh.place;
            in_file = maps-in_file d v.fast.valid work.ino fresh.place fresh.by (omega (arith, inside, v.inodes.all)) fresh.mapped;
            is = record { by = kept fresh.by; mapped = is.places fresh.place ∙ ap (option_map kept) fresh.mapped; by_item = fresh.by_item };
          };
        };
      }
    where
      by_use : (u : InodeUse) → as_use u ≡ Live → u ≡ used.Live
      by_use used.Free e = cc
      by_use used.Live e = refl
      by_use (used.Dying cut) e = cc

      is_live : (node : InodeState) → as_use node.used ≡ Live → node.used ≡ used.Live
      is_live node = by_use node.used

  pub is_fresh_so : IsOfFile d b work → IsFresh d b work
  is_fresh_so is = record {
    live = is.live;
    kept = is.node;
    is_kept = is.there;
    round = is.round;
    place = is.idx;
    by = is.m;
    mapped = is.mapped;
    by_item = is.by_item;
  }

  module _ (is : IsOfFile d b work) where
    pub work_inside : 8 * work.slot + 8 ≤ length s.now
    work_inside = slot_inside d v.fast.valid work.ino work.slot is.first is.n is.block is.size is.m.flag is.m.mask is.has b.geometry s v.fast

    pub slot_small : work.slot < 2 ^ 32
    slot_small =
        let page = slot_in_data d v.fast.valid work.ino work.slot is.first is.n is.block is.size is.m.flag is.m.mask is.has in
        omega (arith, page.high, v.fast.valid.accepted.few_pages)

    pub first_is : (item_at s.now work).first ≡ is.first
    first_is = word_is d v.fast.valid work.ino work.slot is.first is.n is.block is.size is.m.flag is.m.mask is.has b.geometry s v.fast 1 (omega arith)

    pub count_is : (item_at s.now work).count ≡ is.n
    count_is = word_is d v.fast.valid work.ino work.slot is.first is.n is.block is.size is.m.flag is.m.mask is.has b.geometry s v.fast 2 (omega arith)

    -- it isn't the root's
    pub is_file : 1 ≤ work.ino
    is_file = by_ino work.ino stands
      where
        stands : MayStand d.geometry work.ino (Write is.first is.n is.block is.size is.m.flag is.m.mask)
        stands =
            let here = at d v.fast.valid work.ino work.slot is.first is.n is.block is.size is.m.flag is.m.mask is.has in
            All-contains (MayStand d.geometry work.ino) (d.inode work.ino).log.items (Write is.first is.n is.block is.size is.m.flag is.m.mask)
            (good d v.fast.valid work.ino work.slot is.first is.n is.block is.size is.m.flag is.m.mask is.has).standing
            (subst (λ (xs : List LogItem). Contains xs (Write is.first is.n is.block is.size is.m.flag is.m.mask)) (sym here.items_are)
            (in_middle here.front (Write is.first is.n is.block is.size is.m.flag is.m.mask) here.rest))

        by_ino : (i : ℕ) → MayStand d.geometry i (Write is.first is.n is.block is.size is.m.flag is.m.mask) → 1 ≤ i
        by_ino zero none = absurd none
        by_ino (suc i) may = omega arith
