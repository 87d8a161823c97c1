-- What is shared once all rest.
use Rattle.std.proofs.Common.{◌≡◌, inl, inr, ⊎_elim, ℕ, List, length, refl, sym, ◌∙◌, ap, subst, arith}
use Rattle.std.specs.Prelude.{Some, None, Contains, All, slice_get}
use Rattle.pm_device.specs.State.{State}
use Rattle.log_entry.specs.declared.item.Flag.{Flag}
use Rattle.log_entry.specs.declared.item.Flag.TheVariants.{Needed, InProcess, Complete}
use Rattle.dn_model.specs.Maps.{Mapping}
use Rattle.dn_model.specs.Table.{Row}
use Rattle.dn_model.specs.Disk.{Disk, rows}
use Rattle.dn_model.specs.Own.{Print, IsOwn, LivePlace, HasRow, page_bytes}
use Rattle.fact_scan.proofs.Listed.{place_of}
use Rattle.law_table.proofs.Rows.{row_listed}
use Rattle.dn_volume.specs.declared.background.Sharing.{Sharing}
use Rattle.dn_volume.specs.declared.volume.Parts.{Parts}
use Rattle.dn_volume.specs.declared.volume.Volume.{Volume}
use Rattle.dn_volume.specs.Agrees.{IsVolume}
use Rattle.dn_volume.specs.Resting.{AllLanded}
use Rattle.dn_volume.specs.Shares.{IsWaiting, in_queue, is_begun}
use Rattle.dn_volume.proofs.Resting.{at_rest, free_is}
use Rattle.dn_core.specs.Rest.{AllRest, IsSettled, Drained}

module _ (d : Disk) (b : Parts) (s : State) (volume : IsVolume d b s) (landed : AllLanded b) (rests : AllRest b) where
  -- each place is complete
  complete : (ino idx : ℕ) (m : Mapping) → LivePlace d ino idx m → m.flag ≡ Complete
  complete ino idx m place = by m.flag refl
    where
      none_waits : IsWaiting b ino m.slot → ⊥
      none_waits (in_queue work n has ino_is slot_is there round) = no_work has
        where
          no_work : Contains b.queue.items work → ⊥
          no_work (k, lt, is) = let none = ap length rests.daemon.none_waits in omega (arith, lt, none)
      none_waits (is_begun sharing is ino_is slot_is) = clash sharing (sym rests.daemon.none_begun ∙ is)
        where
          clash : (x : Sharing) → None ≡ Some x → ⊥
          clash x e = cc

      by : (f : Flag) → m.flag ≡ f → f ≡ Complete
      by Complete is = refl
      by Needed is = absurd (none_waits (volume.queue.waits ino idx m place (λ e. apart (sym is ∙ e))))
        where
          apart : Needed ≡ Complete → ⊥
          apart e = cc
      by InProcess is = absurd (none_waits (volume.queue.waits ino idx m place (λ e. apart (sym is ∙ e))))
        where
          apart : InProcess ≡ Complete → ⊥
          apart e = cc

  -- of rows with one print there is one
  one_print : (r q : Row) → Contains (rows d) r → Contains (rows d) q → r.print ≡ q.print → r ≡ q
  one_print r q there_r there_q same =
      let at_r = place_of (rows d) r there_r in
      let at_q = place_of (rows d) q there_q in
      let here = volume.fast.valid.rows_apart.print at_r.0 at_q.0 r q at_r.1 at_q.1 same in
      some_one r q (sym at_r.1 ∙ ap (slice_get (rows d)) here ∙ at_q.1)
    where
      some_one : (x y : Row) → Some x ≡ Some y → x ≡ y
      some_one x y e = cc

  print_of : (print : Print) → IsOwn print d → (row : Row) → Contains (rows d) row → row.print ≡ print (page_bytes d row.page)
  print_of print own row has = of_all (rows d) row own.prints has
    where
      of_all : (rs : List Row) (r : Row) → All (λ (x : Row). x.print ≡ print (page_bytes d x.page)) rs → Contains rs r
          → r.print ≡ print (page_bytes d r.page)
      of_all rs r all (k, lt, is) = subst (λ (x : Row). x.print ≡ print (page_bytes d x.page)) is (all k r lt)

  rows_share : (print : Print) → IsOwn print d → (p q : ℕ) → HasRow d p → HasRow d q → page_bytes d p ≡ page_bytes d q → p ≡ q
  rows_share print own p q some_p some_q equal =
      let r = row_listed (rows d) p some_p in
      let t = row_listed (rows d) q some_q in
      let prints : r.0.print ≡ t.0.print =
      print_of print own r.0 r.1 ∙ ap (λ (page : ℕ). print (page_bytes d page)) r.2 ∙ ap print equal
      ∙ ap (λ (page : ℕ). print (page_bytes d page)) (sym t.2) ∙ sym (print_of print own t.0 t.1) in
      sym r.2 ∙ ap (λ (x : Row). x.page) (one_print r.0 t.0 r.1 t.1 prints) ∙ t.2

  pub settled : (print : Print) → IsOwn print d → IsSettled print d
  settled print own = record {
    own = own;
    shared = record {
      complete = complete;
      done = λ ino idx m place. own.complete ino idx m place (complete ino idx m place);
      shared = λ i j idx jdx m n first other equal.
          ⊎_elim (λ alone. inr (inl alone)) (λ some. ⊎_elim (λ alone. inr (inr alone))
          (λ also. inl (rows_share print own m.block n.block some also equal)) (own.complete j jdx n other (complete j jdx n other)))
          (own.complete i idx m first (complete i idx m first));
    };
  }

-- a volume on which nothing is under way is drained
pub drained : {D F : Type 0} (state : D → State) (print : Print) (v : Volume D F) (d : Disk) → IsVolume d v.parts (state v.device)
    → AllLanded v.parts → AllRest v.parts → Drained state print v
drained state print v d volume landed rests = record {
  running = volume.running;
  rests = rests;
  disk = d;
  volume = volume;
  at_rest = at_rest d v.parts (state v.device) volume landed rests.daemon.none_begun rests.reclaim.none_waits
      rests.reclaim.none_begun;
  free = free_is d v.parts (state v.device) volume landed rests.daemon.none_begun rests.reclaim.none_waits
      rests.reclaim.none_begun;
  settled = settled d v.parts (state v.device) volume landed rests print;
}
