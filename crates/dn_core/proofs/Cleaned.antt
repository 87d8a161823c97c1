-- Reclaim's events and those of a cleaning as one actor's.
use Rattle.std.proofs.Common.{◌≡◌, ◌≢◌, inl, inr, ⊎_elim, ℕ, zero, suc, ◌<◌, Bool, false, not, ◌&&◌, List, [], ◌∷◌, length, refl, sym, ◌∙◌, ap, subst, arith}
use Rattle.std.specs.Prelude.{Option, Some, None, IsSome, slice_get}
use Rattle.std.specs.List.{list_all, range_with_len}
use Rattle.std.specs.FinMap.{FinMap}
use Rattle.std.specs.Ordering.{nat_cmp}
use Rattle.std.specs.Cmp.Lexicographic.{slice_cmp}
use Rattle.std.proofs.lemmas.Option.{slice_get_cases, slice_get_within}
use Rattle.pm_device.specs.State.{State}
use Rattle.page_alloc.specs.Free.{FreePages}
use Rattle.dedupe_queue.specs.declared.Work.{Work}
use Rattle.dn_model.specs.Disk.{Disk}
use Rattle.dn_model.specs.Own.{Print}
use Rattle.file_index.specs.Runs.{runs_of}
use Rattle.file_index.specs.Slots.{add_slots_of}
use Rattle.law_clean_count.specs.CountLaws.{or_size_slots}
use Rattle.dn_volume.specs.declared.background.Cleaning.{Cleaning}
use Rattle.dn_volume.specs.declared.outcome.Outcome.{Outcome}
use Rattle.dn_volume.specs.declared.outcome.Outcome.TheVariants as told
use Rattle.dn_volume.specs.declared.volume.InodeState.{InodeState}
use Rattle.dn_volume.specs.declared.volume.Parts.{Parts}
use Rattle.dn_volume.specs.declared.volume.Volume.{Volume}
use Rattle.dn_volume.specs.Kept.{IsSameInode, SameButRoom}
use Rattle.dn_volume.specs.Reclaims.{one_if}
use Rattle.dn_volume.specs.Agrees.{Agrees, IsVolume}
use Rattle.dn_volume.proofs.Tables.{running_disk}
use Rattle.dn_volume.specs.Begins.{IsUntouched}
use Rattle.dn_volume.specs.Cleans.{live_slots, may_clean_as, may_clean_opt, may_clean, none_may_clean}
use Rattle.dn_volume.specs.Works.{MayWork, ReleaseWorks, ReleaseLowers, release_stand, CleanWorks, CleanLowers, CleanRests, clean_stand, ReclaimWorks, ReclaimLowers, ReclaimRests, reclaim_stand, work_left, clean_work, sharing_events, taken_to_clean}
use Rattle.dn_volume.proofs.Since.{moves_on_since, breaks_since, untouched_since}
use Rattle.dn_volume.proofs.Wants.{none_raised}

-- one test of numbers, or two that agree
all_same : (p q : ℕ → Bool) (xs : List ℕ) → ((k : ℕ) → p k ≡ q k) → list_all p xs ≡ list_all q xs
all_same p q [] same = refl
all_same p q (x ∷ xs) same = ap2 (same x) (all_same p q xs same)
  where
    ap2 : {a b c d : Bool} → a ≡ b → c ≡ d → (a && c) ≡ (b && d)
    ap2 e f = cc

cut_none : (o : Option InodeState) (n : InodeState) → o ≡ None → o ≡ Some n → ⊥
cut_none None n is at = cc
cut_none (Some m) n is at = cc

as_same : (b b' : Parts) (ino : ℕ) (n n' : InodeState) → n'.used ≡ n.used → n'.holder ≡ n.holder → n'.round ≡ n.round
    → n'.log_pages ≡ n.log_pages → live_slots b' ino n' ≡ live_slots b ino n → length b'.free.free ≡ length b.free.free
    → may_clean_as b' ino n' ≡ may_clean_as b ino n
unfolding may_clean_as
as_same b b' ino n n' used holder round pages slots free = cc

-- what differs in nothing but room may be cleaned as before
module _ (b b' : Parts) (same : SameButRoom b b') where
  slots_before : (ino : ℕ) (n n' : InodeState) → IsSameInode ino n n' → live_slots b' ino n' ≡ live_slots b ino n
  slots_before zero n n' is = ap (λ (names : FinMap (slice_cmp nat_cmp) ℕ). add_slots_of names) same.work.names
  slots_before (suc k) n n' is = by is.same.size is.same.places
    where
      by : n'.size ≡ n.size → n'.map.map ≡ n.map.map → or_size_slots n'.size (runs_of n'.map.map) ≡ or_size_slots n.size (runs_of n.map.map)
      by size map = cc

  pub work_same : work_left b' ≡ work_left b
  work_same =
      let work = same.work in
      let free = ap (λ (x : FreePages). length x.free) same.free in
      let pages = ap (λ (x : FreePages). x.pages) same.free in
      let taken = ap taken_to_clean work.cleaning in
      let left = ap clean_work work.cleaning in
      let queue = ap (λ (xs : List Work). length xs) work.queue in
      let shared = ap sharing_events work.sharing in
      omega (arith, free, pages, taken, left, queue, shared, work.waiting)

  as_before : (ino : ℕ) (n n' : InodeState) → IsSameInode ino n n' → may_clean_as b' ino n' ≡ may_clean_as b ino n
  as_before ino n n' is =
      as_same b b' ino n n' is.same.used is.holder is.same.round is.same.log_pages (slots_before ino n n' is) (ap (λ (x : FreePages). length x.free) same.free)

  opt_before : (ino : ℕ) → may_clean b' ino ≡ may_clean b ino
  opt_before ino = both (slice_get b.inodes.items ino) (slice_get b'.inodes.items ino) refl refl
    where
      both : (x y : Option InodeState) → slice_get b.inodes.items ino ≡ x → slice_get b'.inodes.items ino ≡ y
          → may_clean_opt b' ino y ≡ may_clean_opt b ino x
      both None None at at' = refl
      both (Some n) (Some n') at at' = as_before ino n n' (same.inodes.each ino n n' at at')
      both None (Some n') at at' = absurd (let lt = slice_get_within b'.inodes.items ino n' at' in ⊎_elim
          (λ found. cut_none (slice_get b.inodes.items ino) found.0 at found.2)
          (λ past. omega (arith, lt, past.0, same.inodes.all)) (slice_get_cases b.inodes.items ino).1)
      both (Some n) None at at' = absurd (let lt = slice_get_within b.inodes.items ino n at in ⊎_elim
          (λ found. cut_none (slice_get b'.inodes.items ino) found.0 at' found.2)
          (λ past. omega (arith, lt, past.0, same.inodes.all)) (slice_get_cases b'.inodes.items ino).1)

  pub none_may_same : none_may_clean b' ≡ none_may_clean b
  none_may_same = all_same _ _ (range_with_len 0 (length b'.inodes.items)) (λ ino. ap not (opt_before ino))
      ∙ ap (λ (n : ℕ). list_all (λ ino. not (may_clean b ino)) (range_with_len 0 n)) same.inodes.all

module _ {D F : Type 0} (state : D → State) (print : Print) (v w u : Volume D F) (d : Disk) (un : IsUntouched state v w d)
    (volume : IsVolume d v.parts (state v.device)) (none : v.parts.reclaiming.waiting ≡ 0) where
  none_checked : v.parts.reclaiming.zero_check ≡ None
  none_checked = by v.parts.reclaiming.zero_check refl
    where
      by : (x : Option ℕ) → v.parts.reclaiming.zero_check ≡ x → x ≡ None
      by None is = refl
      by (Some slot) is =
          let one : one_if v.parts.reclaiming.zero_check ≡ 1 = ap one_if is in
          let zero : one_if v.parts.reclaiming.raised ≡ 0 = ap one_if (none_raised d v.parts (state v.device) volume none) in
          let waits = volume.reclaiming.waiting in
          absurd (omega (arith, one, zero, waits, none))

  rests_then : CleanRests w.parts → ReclaimRests v.parts
  rests_then rests = record {
    none_waits = none;
    none_begun = sym un.same.work.cleaning ∙ rests.none_begun;
    none_may = sym (none_may_same v.parts w.parts un.same) ∙ rests.none_may;
  }

  rests_so : ReclaimRests v.parts → CleanRests w.parts
  rests_so rests = record {
    none_begun = un.same.work.cleaning ∙ rests.none_begun;
    none_may = none_may_same v.parts w.parts un.same ∙ rests.none_may;
  }

  may_work : MayWork (clean_stand w.parts) → MayWork (reclaim_stand v.parts)
  may_work may = record { some = λ rests. may.some (rests_so rests); loose = λ holder held. held }

  no_some : {X : Type 0} (x : Option X) → x ≡ None → IsSome x → ⊥
  no_some None is some = cc
  no_some (Some x) is some = cc

  lowers_then : (left : ℕ) → CleanLowers w.parts u.parts left → ReclaimLowers v.parts u.parts left
  lowers_then left is = record {
    left_is = let a = is.left_is in let b = is.none_waits in omega (arith, a, b);
    less = subst (λ (k : ℕ). work_left u.parts < k) (work_same v.parts w.parts un.same) is.less;
    waiting = inr (none, is.none_waits);
    sharing = is.sharing ∙ un.same.work.sharing;
    queue = λ some. absurd (omega (arith, some, none));
    rests = λ rests. is.rests (record {
      none_begun = un.same.work.sharing ∙ rests.none_begun;
      none_waits = un.same.work.queue ∙ rests.none_waits;
    });
    trace = λ same. is.trace ∙ un.same.work.trace;
  }

  joins : (outcome : Outcome) → CleanWorks state print w u d outcome → ReclaimWorks state print v u d outcome
  joins (told.Running left) is = (moves_on_since state v w u print 16 d un is.0, may_work is.1, lowers_then left is.2)
  joins (told.Done reply) is = is
  joins (told.Busy holder) is = absurd is.1
  joins (told.Released waiting) is = is
  joins told.Idle is = (untouched_since state v w u print 16 d un is.0, rests_then is.1)
  joins told.NotYours is = is
  joins told.NoMemory is = (
    untouched_since state v w u print 16 d un is.0,
    may_work is.1,
    ⊎_elim (no_some v.parts.reclaiming.zero_check none_checked)
        (⊎_elim (no_some v.parts.reclaiming.raised (none_raised d v.parts (state v.device) volume none))
        (λ begun. is.2 (subst (λ (x : Option Cleaning). IsSome x) (sym un.same.work.cleaning) begun.0))),
  )
  joins told.Stopped is = (breaks_since state v w u print 16 d un None is.0, may_work is.1)

pub joins_reclaim : {D F : Type 0} (state : D → State) (print : Print) (v w u : Volume D F) (d : Disk) (outcome : Outcome)
    → IsVolume d v.parts (state v.device) → ReleaseWorks state print v w d told.Idle → CleanWorks state print w u d outcome
    → ReclaimWorks state print v u d outcome
joins_reclaim state print v w u d outcome volume idle is = joins state print v w u d idle.0 volume idle.1 outcome is

-- releases after an event that changed nothing but the room that is kept
pub release_since : (a b c : Parts) → SameButRoom a b → (left : ℕ) → ReleaseLowers b c left → ReleaseLowers a c left
release_since a b c same left is = record {
  left_is = is.left_is;
  less = subst (λ (k : ℕ). c.reclaiming.waiting < k) same.work.waiting is.less;
  cleaning = is.cleaning ∙ same.work.cleaning;
  sharing = is.sharing ∙ same.work.sharing;
  queue = is.queue ∙ same.work.queue;
  pages =
      let less = is.pages in
      let free = ap (λ (x : FreePages). length x.free) same.free in
      let pages = ap (λ (x : FreePages). x.pages) same.free in
      let taken = ap taken_to_clean same.work.cleaning in
      omega (arith, less, free, pages, taken);
}

-- what waits is released: all work is less
module _ {D F : Type 0} (state : D → State) (print : Print) (v u : Volume D F) (d : Disk) where
  may_reclaim : MayWork (release_stand v.parts) → MayWork (reclaim_stand v.parts)
  may_reclaim may = record { some = λ rests. may.some rests.none_waits; loose = λ holder held. held }

  pub release_lowers : (left : ℕ) → ReleaseLowers v.parts u.parts left → ReclaimLowers v.parts u.parts left
  release_lowers left is = record {
    left_is = is.left_is;
    less =
        let less = is.less in
        let pages = is.pages in
        let left = ap clean_work is.cleaning in
        let queue = ap (λ (xs : List Work). length xs) is.queue in
        let shared = ap sharing_events is.sharing in
        omega (arith, less, pages, left, queue, shared);
    waiting = inl is.less;
    sharing = is.sharing;
    queue = λ some. is.queue;
    rests = λ rests. is.queue ∙ rests.none_waits;
    trace = λ none. absurd (let less = is.less in omega (arith, less, none));
  }

  pub reclaims : (outcome : Outcome) → (outcome ≡ told.Idle → ⊥) → ReleaseWorks state print v u d outcome
      → ReclaimWorks state print v u d outcome
  reclaims (told.Running left) some is = (is.0, may_reclaim is.1, release_lowers left is.2)
  reclaims (told.Done reply) some is = is
  reclaims (told.Busy holder) some is = absurd is.1
  reclaims (told.Released waiting) some is = is
  reclaims told.Idle some is = absurd (some refl)
  reclaims told.NotYours some is = is
  reclaims told.NoMemory some is = (
    is.0,
    may_reclaim is.1,
    ⊎_elim (λ checked. is.2 (inl checked)) (⊎_elim (λ raised. is.2 (inr raised)) (λ begun. is.1.some begun.1)),
  )
  reclaims told.Stopped some is = (is.0, may_reclaim is.1)

-- where nothing waits, the volume runs on, and still nothing waits
module _ {D F : Type 0} (state : D → State) (print : Print) (v w : Volume D F) (agrees : Agrees state v) (running : v.parts.stopped ≡ false)
    (idle : (d : Disk) → IsVolume d v.parts (state v.device) → ReleaseWorks state print v w d told.Idle) where
  pub idle_runs : w.parts.stopped ≡ false
  idle_runs =
      let found = running_disk state v running agrees in
      (idle found.0 found.1).0.same.work.stopped ∙ running

  pub idle_rests : w.parts.reclaiming.waiting ≡ 0
  idle_rests =
      let found = running_disk state v running agrees in
      (idle found.0 found.1).0.same.work.waiting ∙ (idle found.0 found.1).1

-- where something waits, an event of reclaim gets on, finds no memory, or stops
module _ {D F : Type 0} (state : D → State) (print : Print) (v w : Volume D F) (d : Disk) (some : v.parts.reclaiming.waiting ≢ 0) where
  pub never_else : (outcome : Outcome) → ReleaseWorks state print v w d outcome → ((left : ℕ) → outcome ≡ told.Running left → ⊥)
      → (outcome ≡ told.NoMemory → ⊥) → (outcome ≡ told.Stopped → ⊥) → ⊥
  never_else (told.Running left) is running memory stopped = running left refl
  never_else (told.Done reply) is running memory stopped = is
  never_else (told.Busy holder) is running memory stopped = is.1
  never_else (told.Released waiting) is running memory stopped = is
  never_else told.Idle is running memory stopped = some is.1
  never_else told.NotYours is running memory stopped = is
  never_else told.NoMemory is running memory stopped = memory refl
  never_else told.Stopped is running memory stopped = stopped refl
