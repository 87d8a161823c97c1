-- What an operation in flight leaves alone as it goes on, group by group.
use Rattle.std.proofs.Common.{◌≡◌, ℕ, ◌≤◌, length, sym, ◌∙◌, ap, subst, arith, Option, Some}
use Rattle.std.specs.Prelude.{◌↔◌, Contains, get_or, slice_get}
use Rattle.dn_model.specs.Disk.{Disk, rows}
use Rattle.dn_volume.specs.declared.flight.Flight.{Flight}
use Rattle.dn_volume.specs.declared.volume.Parts.{Parts}
use Rattle.dn_volume.specs.Parties.{SameOthers, KeepsOps}
use Rattle.dn_volume.specs.Inodes.{AreHolders}
use Rattle.page_alloc.specs.Free.{IsInOrder}
use Rattle.law_write.specs.Events.{IsUnused}
use Rattle.dn_volume.specs.Space.{HasSpace}
use Rattle.dn_volume.specs.Balance.{raised, added, dropped, raised_by, times, added_to_share, AreCounted}
use Rattle.dn_volume.specs.Shares.{IsWaiting, in_queue, is_begun, IsQueued}
use Rattle.dn_volume.specs.Reclaims.{one_if}
use Rattle.dn_volume.specs.Reserve.{owed_sum, Owes}
use Rattle.dn_volume.specs.Replaces.{RaisesNone}
use Rattle.dn_volume.specs.Steps.{StepsOn}
use Rattle.dn_volume.proofs.Lefts.{left_still}
use Rattle.dn_volume.proofs.Replaced.{others_same as same_others, ops_on, raised_moved, owes, held_was, holds_on, took_was, takes_on}

module _ (who : ℕ) (f f' : Flight) (b b' : Parts) (steps : StepsOn who f f' b b') where
  abbrev old : Option Flight
  old = Some f

  abbrev new : Option Flight
  new = Some f'

  pub others_same : SameOthers who b b'
  others_same = same_others who steps.client old new b b' steps.replaces

  pub ops_kept : KeepsOps b b'
  ops_kept = ops_on who f f' b b' steps.client steps.replaces steps.further.op

  pub same_holders : (d : Disk) → AreHolders d b → AreHolders d b'
  same_holders d are = record {
    told = λ ino q n is. let told = are.told ino q n (subst (λ xs. slice_get xs.items ino ≡ Some n) steps.inodes is) in (
      (λ holder. holds_on who steps.client f f' b b' steps.replaces steps.further q ino (told.0 holder)),
      (λ holds. told.1 (held_was who steps.client f f' b b' steps.replaces steps.further q ino holds)),
    );
    in_table = λ ino q holds. are.in_table ino q (held_was who steps.client f f' b b' steps.replaces steps.further q ino holds);
  }

  pub same_space : (d : Disk) → HasSpace d b → HasSpace d b'
  same_space d has = record {
    pages = ap (λ x. x.pages) steps.free ∙ has.pages;
    in_order = subst (λ x. IsInOrder x) (sym steps.free) has.in_order;
    taker = has.taker;
    free = λ page. subst (λ x. Contains x.free page ↔ (IsUnused d page × (has.taker page ≡ 0))) (sym steps.free) (has.free page);
    takes = λ q page takes. has.takes q page (took_was who steps.client f f' b b' steps.replaces steps.further q page takes);
    taken = λ page some. takes_on who steps.client f f' b b' steps.replaces steps.further (has.taker page) page (has.taken page some);
    unused = has.unused;
    some = subst (λ x. 1 ≤ length x.free) (sym steps.free) has.some;
    left = left_still b b' steps.free (takes_on who steps.client f f' b b' steps.replaces steps.further 16) has.left;
  }

  pub owes_on : Owes b → Owes b'
  owes_on = owes who steps.client old new b b' steps.replaces steps.owed (ap (λ r. r.raised) steps.reclaiming)
      (ap (λ r. r.zero_check) steps.reclaiming)

  pub same_raised : RaisesNone f f' → (slot : ℕ) → raised b' slot ≡ raised b slot
  same_raised none slot =
      let moved = raised_moved who steps.client old new b b' steps.replaces (ap (λ r. r.raised) steps.reclaiming) slot in
      let same : times slot (raised_by new) ≡ times slot (raised_by old) = ap (times slot) none.raised in
      omega (arith, moved, same)

  pub same_counts : RaisesNone f f' → owed_sum b' (λ room. room.releases) ≤ owed_sum b (λ room. room.releases) → (d : Disk) → AreCounted d b
      → AreCounted d b'
  same_counts none less d are = record {
    balanced = λ k x lt. let row = get_or (rows d) k x in let was = are.balanced k x lt in
        record {
          updates = let u = was.updates in let r = same_raised none row.slot in omega (arith, u, r, added_same row.slot, dropped_same row.slot);
          references = let u = was.references in omega (arith, u, added_same row.slot, dropped_same row.slot);
        };
    there = λ slot some. are.there slot (omega (arith, some, same_raised none slot, added_same slot, dropped_same slot));
    zero_checked = λ row has rfc uc. ap (λ r. r.zero_check) steps.reclaiming ∙ are.zero_checked row has rfc uc;
    few = let was = are.few in let same = ap (λ r. length r.releases.items) steps.reclaiming in
        let up : one_if b'.reclaiming.raised ≡ one_if b.reclaiming.raised = ap (λ r. one_if r.raised) steps.reclaiming in
        omega (arith, was, same, less, up);
  }
    where
      added_same : (slot : ℕ) → added b' slot ≡ added b slot
      added_same slot = ap (λ r. times slot (added_to_share r)) steps.replaces.sharing

      dropped_same : (slot : ℕ) → dropped b' slot ≡ dropped b slot
      dropped_same slot = ap (λ r. times slot r.releases.items) steps.reclaiming

  pub same_queue : (d : Disk) → IsQueued d b → IsQueued d b'
  same_queue d are = record { waits = λ ino idx m place unfinished. on ino m.slot (are.waits ino idx m place unfinished) }
    where
      on : (ino slot : ℕ) → IsWaiting b ino slot → IsWaiting b' ino slot
      on ino slot (in_queue work n has at_ino at_slot at round) =
          in_queue work n (subst (λ x. Contains x.items work) (sym steps.queue) has) at_ino at_slot (subst (λ xs. slice_get xs.items ino ≡ Some n)
          (sym steps.inodes) at) round
      on ino slot (is_begun sharing is at_ino at_slot) = is_begun sharing (steps.replaces.sharing ∙ is) at_ino at_slot
