-- Each group of the invariant refuses something.
use Rattle.std.proofs.Common.{◌≡◌, ⊎_elim, ℕ, zero, suc, ◌+◌, ◌-◌, ◌<◌, ◌≤◌, Bool, true, false, List, [], ◌∷◌, length, refl, ◌∙◌, ap, subst, arith, Option, Some, None}
use Rattle.std.specs.Prelude.{All, Contains, if◌then◌else◌}
use Rattle.law_table.proofs.Rows.{same_test}
use Rattle.std.specs.FinMap.{get}
use Rattle.pm_device.specs.State.{State}
use Rattle.pm_layout.specs.declared.Geometry.{Geometry}
use Rattle.pm_layout.specs.Geometry.{slots}
use Rattle.dedupe_queue.specs.declared.Work.{Work}
use Rattle.dn_model.specs.Disk.{Disk, Use, Free, Live, rows}
use Rattle.dn_model.specs.Empty.{empty_inode, empty_disk}
use Rattle.dn_volume.specs.declared.background.DyingPlace.{DyingPlace}
use Rattle.dn_model.specs.declared.op.CountChange.{CountChange}
use Rattle.dn_volume.specs.declared.volume.Parts.{Parts}
use Rattle.dn_volume.specs.Parties.{Holds, by_client, by_daemon, by_cleaning, flight_at}
use Rattle.dn_volume.specs.Balance.{raised, dropped, times}
use Rattle.dn_volume.specs.Reclaims.{dying_units, one_if}
use Rattle.dn_volume.specs.Shares.{IsWaiting, in_queue, is_begun}
use Rattle.dn_volume.specs.Agrees.{StandsFast}
use Rattle.dn_volume.specs.Stills.{IsAwaited}
use Rattle.dn_volume.specs.Fresh.{IsFresh}
use Rattle.dn_volume.specs.Wrong.{RefusesWrong, WrongPartsAreRefused, LeftOutPlacesAreRefused, StalePointersAreRefused}
use Rattle.dn_volume.proofs.Fresh.{no_log_pages, named-empty, no_row_in, none_at, none_flies, no_units}
use Rattle.law_write.proofs.Counting.{total-zero}

clash : {X : Type 0} (o : Option X) (x : X) → o ≡ None → o ≡ Some x → ⊥
clash o x none some = cc

not_both : (b : Bool) → b ≡ true → b ≡ false → ⊥
not_both b high low = cc

free_live : (u : Use) → u ≡ Free → u ≡ Live → ⊥
free_live u free live = cc

-- an inode but the root is free on the empty disk
is_free : (ino : ℕ) → 1 ≤ ino → (empty_inode ino).use_of ≡ Free
is_free zero some = absurd (omega (arith, some))
is_free (suc k) some = refl

module _ (g : Geometry) (b : Parts) (s : State) (fresh : IsFresh g b) (fast : StandsFast (empty_disk g) g s) where
  abbrev e : Disk
  e = empty_disk g

  none_holds : (c : Parts) → c ≡ record b { inodes = c.inodes } → (who ino : ℕ) → Holds c who ino → ⊥
  none_holds c is who ino (by_client f flies has) =
      let same = ap (λ (p : Parts). flight_at p.flights.items (who - 1)) is in
      clash (flight_at c.flights.items (who - 1)) f (same ∙ none_at g b s fresh fast (who - 1)) flies.is
  none_holds c is who ino (by_daemon item him begun same) =
      clash c.sharing item (ap (λ (p : Parts). p.sharing) is ∙ fresh.sharing) begun
  none_holds c is who ino (by_cleaning item him begun same) =
      clash c.reclaiming.cleaning item (ap (λ (p : Parts). p.reclaiming.cleaning) is ∙ fresh.cleaning) begun

  awaited_none : (a : ℕ) → IsAwaited b s a → ⊥
  awaited_none a waits = none_flies g b s fresh fast waits.who waits.by.flight waits.by.flies

  pub refuses_wrong : RefusesWrong g b s
  refuses_wrong = record {
    fast = λ v. let long = v.fast.long in let many = fast.valid.accepted.pages in omega (arith, long, many);
    running = λ v. not_both true refl v.running;
    names = λ c name ino is leads v. clash (get c.names.map name) ino (v.names.leads name ∙ named-empty g name) leads;
    inodes = λ c is none v. let all = v.inodes.all in let many = fast.valid.accepted.inodes in omega (arith, none, all, many);
    holders = λ c n who is at held v. none_holds c is who 0 ((v.holders.told 0 who n at).0 held);
    space = λ v. let some = v.space.some in omega (arith, some);
    table = λ v. let set = v.table.set in let same = ap (λ (h : Geometry). h.pages) fresh.table in let many = fast.valid.accepted.pages in omega (arith, set, same, many);
    counts = λ c slot is one v.
        let here : dropped c slot ≡ times slot (slot ∷ []) = ap (times slot) one in
        let once : times slot (slot ∷ []) ≡ 1 = ap (λ (t : Bool). (if t then 1 else 0) + 0) (same_test slot slot refl) in
        let found = v.counts.there slot (omega (arith, here, once)) in
        no_row_in g found.row found.is.there;
    flights = λ c is none v. let all = v.flights.clients in omega (arith, none, all);
    sharing = λ item v.
        let begun = (v.sharing item refl).begun in
        free_live (empty_inode item.work.ino).use_of (is_free item.work.ino begun.file) begun.live;
    reclaiming = λ v.
        let waits = v.reclaiming.waiting in
        let units = total-zero (dying_units e) g.inodes (λ ino lt. no_units g ino) in
        let up : one_if b.reclaiming.raised ≡ 0 = ap (λ (o : Option DyingPlace). one_if o) fresh.raised in
        let zero' : one_if b.reclaiming.zero_check ≡ 0 = ap (λ (o : Option ℕ). one_if o) fresh.zero_check in
        let none = ap (λ (xs : List ℕ). length xs) fresh.releases in
        omega (arith, waits, units, up, zero', none);
    cleaning = λ c v. let two = (v.cleaning c refl).worth.two in let none = no_log_pages c.ino in omega (arith, two, none);
    room = λ v. let units = v.room.units in omega (arith, units);
    trace = λ c word is items v.
        let same = ap (λ (p : Parts). slots p.geometry) is in
        let here = ap (λ (h : Geometry). slots h) fresh.geometry in
        let one = subst (All (λ (change : CountChange). change.slot < slots c.geometry)) items v.trace in
        let lt = one 0 (record { slot = slots g; word = word }) (omega arith) in
        omega (arith, lt, same, here);
    still = λ a lt unsettled v. ⊎_elim (λ settled. unsettled settled) (λ waits. awaited_none a waits) (v.still.each a lt);
  }

pub wrong_refused : WrongPartsAreRefused
wrong_refused g b s fresh fast = refuses_wrong g b s fresh fast

pub left_out_refused : LeftOutPlacesAreRefused
left_out_refused d b ino idx m place undone empty none queued = by (queued.waits ino idx m place undone)
  where
    by : IsWaiting b ino m.slot → ⊥
    by (in_queue work n has of_ino of_slot at round) =
        let gone : Contains [] work = subst (λ (ws : List Work). Contains ws work) empty has in omega (arith, gone.1)
    by (is_begun item begun of_ino of_slot) = clash b.sharing item none begun

pub stale_refused : StalePointersAreRefused
unfolding rows
stale_refused g some kept = kept.none 0 (omega (arith, some)) (λ is. omega (arith, is)) (λ row has is. no_row_in g row has)
