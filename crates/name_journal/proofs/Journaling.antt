-- Pairs are stored, the gate is opened, new values are stored, and the gate is closed.
use Rattle.std.proofs.Common.{◌≡◌, ◌≢◌, ◌⊎◌, inl, inr, ⊎_elim, ℕ, ◌*◌, ◌<◌, ◌≤◌, List, length, refl, sym, ◌∙◌, ap, subst, arith, get_or-set_same}
use Rattle.std.specs.Prelude.{slice_index}
use Rattle.pm_device.specs.State.{State, Agree}
use Rattle.pm_device.specs.Settled.{IsSettled, IsOldBut, LeavesOnly, StoresOnly, KeepsFlushed, Anyone}
use Rattle.pm_device.specs.Reading.{Reads, Stands, IsReady, DiffersAt}
use Rattle.pm_device.specs.Commit.{IsCommitted, IsDone}
use Rattle.pm_device.specs.Pages.{IsInPage}
use Rattle.pm_device.proofs.Calls.{settled_is_flushed}
use Rattle.pm_device.proofs.Only.{stores_only-then, stores_only-weaken}
use Rattle.pm_device.proofs.OneWord.{reads_old_or_new, stands_new, stands-stores}
use Rattle.pm_device.proofs.Layers.{leaves_only-then, leaves_only-stores, settled-stores, ready-stores, ready-both, stands_is_ready}
use Rattle.pm_device.proofs.Moments.{leaves_only-weaken}
use Rattle.pm_layout.specs.declared.Geometry.{Geometry}
use Rattle.pm_layout.specs.Geometry.{IsAccepted, gate_word}
use Rattle.name_journal.specs.declared.change.Change.{Change}
use Rattle.name_journal.specs.Changes.{address, new_value, AreChanges, IsNamed, NewValues, IsTouched}
use Rattle.name_journal.specs.Pairs.{PairsOf, of_address, of_old, IsInPairs}
use Rattle.name_journal.specs.AllOrNone.{AllOrNone, IsAllDone}
use Rattle.name_journal.proofs.Opened.{changes_inside}
use Rattle.name_journal.proofs.Told.{leaves_only-image, leaves_only-both, stores_leave}
use Rattle.name_journal.proofs.ImageKinds.{
  GateSays,
  OpenSays,
  KeptSays,
  NewSays,
  DoneSays,
  not_in_page,
  not_gate,
  all_or_none_closed,
  all_or_none_open,
  all_or_none_done,
}

abbrev AtGate : ℕ → Type 0
AtGate a = a ≡ gate_word

-- the pairs are stored since s
pub record StoresPairs (inodes who : ℕ) (changes : List Change) (s t : State) : Type 0 where
  pub agree : Agree s.now s.past
  pub long : 1024 ≤ length s.now
  pub few : length changes ≤ 4
  pub are : AreChanges inodes changes
  pub table : (i : ℕ) → i < length changes → address changes i < length s.now
  pub closed : slice_index s.now gate_word ≡ 0
  pub settled : IsSettled s gate_word
  pub only : StoresOnly (IsInPairs changes) s t
  pub ready : IsReady who (PairsOf changes s.now) t
  pub keeps : KeepsFlushed Anyone (IsInPairs changes) s t

module _ (inodes who : ℕ) (changes : List Change) (s t u : State) (is : StoresPairs inodes who changes s t) where
  pairs_in_page : (a : ℕ) → IsInPairs changes a → IsInPage 1 a
  pairs_in_page a h = (omega (arith, h.0), omega (arith, h.1, is.few))

  gate_not_pair : IsInPairs changes gate_word → ⊥
  gate_not_pair h = omega (arith, h.0)

  closed_s : Stands (GateSays 0) s
  closed_s = record {
    within = λ a v told. omega (arith, told.0, is.long);
    reads = λ a v told. ap (slice_index s.now) told.0 ∙ is.closed ∙ sym told.1;
    settled = λ a v told. subst (IsSettled s) (sym told.0) is.settled;
  }

  gate_apart : (a v : ℕ) → GateSays 0 a v → IsInPairs changes a → ⊥
  gate_apart a v told h = gate_not_pair (subst (IsInPairs changes) told.0 h)

  closed_t : Stands (GateSays 0) t
  closed_t = stands-stores (IsInPairs changes) s t is.only (GateSays 0) gate_apart closed_s

  -- before the gate is opened
  pub gate_settled : IsSettled t gate_word
  gate_settled = settled-stores (IsInPairs changes) s t gate_word is.only gate_not_pair is.settled

  abbrev ShutOrOpen : List ℕ → Type 0
  ShutOrOpen c = Reads (GateSays 0) c ⊎ Reads (OpenSays changes s.now) c

  opens : DiffersAt (GateSays 0) (OpenSays changes s.now) (PairsOf changes s.now) gate_word (length changes)
  opens a v told = ⊎_elim (λ (gate : GateSays (length changes) a v). inl gate)
      (λ (pair : PairsOf changes s.now a v). inr (pair_not_gate a v pair, inr pair)) told
    where
      pair_not_gate : (a v : ℕ) → PairsOf changes s.now a v → a ≢ gate_word
      pair_not_gate a v (of_address i lt place value) e = omega (arith, place, e)
      pair_not_gate a v (of_old i lt place value) e = omega (arith, place, e)

  module _ (moment_u : LeavesOnly t u (IsCommitted who gate_word (length changes) t)) (only_u : StoresOnly AtGate t u) where
    page_u : StoresOnly (IsInPage 1) s u
    page_u = stores_only-then (IsInPage 1) s t u (stores_only-weaken (IsInPairs changes) (IsInPage 1) s t pairs_in_page is.only)
        (stores_only-weaken AtGate (IsInPage 1) t u (λ a e. (omega (arith, e), omega (arith, e))) only_u)

    shut_or_open : LeavesOnly s u ShutOrOpen
    shut_or_open = leaves_only-then s t u ShutOrOpen
        (leaves_only-weaken s t (Reads (GateSays 0)) ShutOrOpen (λ c reads. inl reads) (leaves_only-stores (IsInPairs changes) s t (GateSays 0)
        is.only gate_apart closed_s))
        (leaves_only-weaken t u (IsCommitted who gate_word (length changes) t) ShutOrOpen
        (λ c committed. reads_old_or_new (GateSays 0) (OpenSays changes s.now) (PairsOf changes s.now) who gate_word (length changes) t c opens
        closed_t is.ready committed) moment_u)

    -- while the pairs are stored and the gate is opened
    pub leaves_opening : LeavesOnly s u (AllOrNone inodes who changes s)
    leaves_opening = leaves_only-image s u (λ c. ShutOrOpen c × IsOldBut (IsInPage 1) s c) (AllOrNone inodes who changes s) is.agree
        (λ c image both. ⊎_elim
        (λ (reads : Reads (GateSays 0) c). all_or_none_closed inodes who changes s is.agree is.long is.few is.are is.table c image
        (reads gate_word 0 (refl, refl)) both.1)
        (λ (reads : Reads (OpenSays changes s.now) c). all_or_none_open inodes who changes s is.agree is.long is.few is.are is.table c image reads
        (λ a out lt. both.1 a (λ h. out (inr h)) lt))
        both.0)
        (leaves_only-both s u ShutOrOpen (IsOldBut (IsInPage 1) s) shut_or_open (stores_leave (IsInPage 1) s u page_u))

    pub only_opening : StoresOnly (IsTouched changes) s u
    only_opening = stores_only-weaken (IsInPage 1) (IsTouched changes) s u (λ a h. inr h) page_u

    module _ (done_u : IsDone who gate_word (length changes) t u) (v x : State) (values : StoresOnly (IsNamed changes) u v)
        (ready_v : IsReady who (NewValues changes (length changes)) v) where
      open_u : Stands (OpenSays changes s.now) u
      open_u = stands_new (GateSays 0) (OpenSays changes s.now) (PairsOf changes s.now) who gate_word (length changes) t u opens closed_t is.ready
          (omega (arith, is.long, is.only.words)) done_u only_u

      named_high : (a : ℕ) → IsNamed changes a → IsInPage 1 a → ⊥
      named_high a named h = not_in_page inodes who changes s is.agree is.long is.few is.are is.table named.i named.lt (subst (IsInPage 1) named.is h)

      gate_not_named : IsNamed changes gate_word → ⊥
      gate_not_named named = named_high gate_word named (omega arith, omega arith)

      open_apart : (a w : ℕ) → OpenSays changes s.now a w → IsNamed changes a → ⊥
      open_apart a w told named = ⊎_elim (λ (gate : GateSays (length changes) a w). gate_not_named (subst (IsNamed changes) gate.0 named))
          (λ (pair : PairsOf changes s.now a w). named_high a named (in_page a w pair)) told
        where
          in_page : (a w : ℕ) → PairsOf changes s.now a w → IsInPage 1 a
          in_page a w (of_address i lt place value) = (omega (arith, place), omega (arith, place, lt, is.few))
          in_page a w (of_old i lt place value) = (omega (arith, place), omega (arith, place, lt, is.few))

      open_v : Stands (OpenSays changes s.now) v
      open_v = stands-stores (IsNamed changes) u v values (OpenSays changes s.now) open_apart open_u

      -- before the gate is closed
      pub open_settled : IsSettled v gate_word
      open_settled = settled-stores (IsNamed changes) u v gate_word values gate_not_named done_u.word

      -- what the actor had flushed stands once the gate is open
      kept_not_page : (a w : ℕ) → KeptSays who changes s a w → IsInPage 1 a → ⊥
      kept_not_page a w kept h = kept.out (inr h)

      kept_t : IsReady who (KeptSays who changes s) t
      kept_t = ready-stores Anyone (IsInPairs changes) who s t (KeptSays who changes s) is.only is.keeps tt
          (λ a w kept h. kept_not_page a w kept (pairs_in_page a h))
          (record { within = λ a w kept. kept.within; reads = λ a w kept. sym kept.value; flushed = λ a w kept. kept.flushed })

      kept_not_gate : (a w : ℕ) → KeptSays who changes s a w → a ≢ gate_word
      kept_not_gate a w kept e = kept_not_page a w kept (omega (arith, e), omega (arith, e))

      kept_u : Stands (KeptSays who changes s) u
      kept_u = record {
        within = λ a w kept. omega (arith, kept_t.within a w kept, only_u.words);
        reads = λ a w kept. only_u.read a (kept_not_gate a w kept) ∙ kept_t.reads a w kept;
        settled = λ a w kept. done_u.flushed a (kept_t.within a w kept) (kept_t.flushed a w kept) (kept_not_gate a w kept);
      }

      kept_v : Stands (KeptSays who changes s) v
      kept_v = stands-stores (IsNamed changes) u v values (KeptSays who changes s) (λ a w kept named. kept.out (inl named)) kept_u

      new_ready : IsReady who (NewSays who changes s) v
      new_ready = ready-both who v (NewValues changes (length changes)) (KeptSays who changes s) ready_v
          (stands_is_ready who v (KeptSays who changes s) kept_v)

      new_not_gate : (a w : ℕ) → NewSays who changes s a w → a ≢ gate_word
      new_not_gate a w told e = ⊎_elim
          (λ (new : NewValues changes (length changes) a w). gate_not_named
          (subst (IsNamed changes) e (record { i = new.i; lt = new.lt; is = new.place })))
          (λ (kept : KeptSays who changes s a w). kept_not_gate a w kept e) told

      closes : DiffersAt (OpenSays changes s.now) (DoneSays who changes s) (NewSays who changes s) gate_word 0
      closes a w told = ⊎_elim (λ (gate : GateSays 0 a w). inl gate) (λ (new : NewSays who changes s a w). inr (new_not_gate a w new, inr new)) told

      abbrev OpenOrDone : List ℕ → Type 0
      OpenOrDone c = Reads (OpenSays changes s.now) c ⊎ Reads (DoneSays who changes s) c

      module _ (only_x : StoresOnly AtGate v x) where
        pub only_all : StoresOnly (IsTouched changes) s x
        only_all = stores_only-then (IsTouched changes) s u x only_opening
            (stores_only-then (IsTouched changes) u v x (stores_only-weaken (IsNamed changes) (IsTouched changes) u v (λ a named. inl named) values)
            (stores_only-weaken AtGate (IsTouched changes) v x (λ a e. inr (omega (arith, e), omega (arith, e))) only_x))

        module _ (moment_x : LeavesOnly v x (IsCommitted who gate_word 0 v)) where
          open_or_done : LeavesOnly u x OpenOrDone
          open_or_done = leaves_only-then u v x OpenOrDone
              (leaves_only-weaken u v (Reads (OpenSays changes s.now)) OpenOrDone (λ c reads. inl reads)
              (leaves_only-stores (IsNamed changes) u v (OpenSays changes s.now) values open_apart open_u))
              (leaves_only-weaken v x (IsCommitted who gate_word 0 v) OpenOrDone
              (λ c committed. reads_old_or_new (OpenSays changes s.now) (DoneSays who changes s) (NewSays who changes s) who gate_word 0 v c closes
              open_v new_ready committed) moment_x)

          abbrev Kind : List ℕ → Type 0
          Kind c = (Reads (GateSays 0) c × IsOldBut (IsInPage 1) s c) ⊎ OpenOrDone c

          kinds : LeavesOnly s x Kind
          kinds = leaves_only-then s u x Kind
              (leaves_only-weaken s u (λ c. ShutOrOpen c × IsOldBut (IsInPage 1) s c) Kind
              (λ c both. ⊎_elim (λ (shut : Reads (GateSays 0) c). inl (shut, both.1)) (λ (reads : Reads (OpenSays changes s.now) c). inr (inl reads))
              both.0)
              (leaves_only-both s u ShutOrOpen (IsOldBut (IsInPage 1) s) shut_or_open (stores_leave (IsInPage 1) s u page_u)))
              (leaves_only-weaken u x OpenOrDone Kind (λ c later. inr later) open_or_done)

          pub leaves_all : LeavesOnly s x (AllOrNone inodes who changes s)
          leaves_all = leaves_only-image s x (λ c. Kind c × IsOldBut (IsTouched changes) s c) (AllOrNone inodes who changes s) is.agree
              (λ c image both. ⊎_elim
              (λ (shut : Reads (GateSays 0) c × IsOldBut (IsInPage 1) s c). all_or_none_closed inodes who changes s is.agree is.long is.few is.are
              is.table c image (shut.0 gate_word 0 (refl, refl)) shut.1)
              (λ (later : OpenOrDone c). ⊎_elim
              (λ (reads : Reads (OpenSays changes s.now) c). all_or_none_open inodes who changes s is.agree is.long is.few is.are is.table c image
              reads both.1)
              (λ (reads : Reads (DoneSays who changes s) c). all_or_none_done inodes who changes s is.agree is.long is.few is.are is.table c image
              (reads gate_word 0 (inl (refl, refl))) (λ a w told. reads a w (inr told)) both.1)
              later)
              both.0)
              (leaves_only-both s x Kind (IsOldBut (IsTouched changes) s) kinds (stores_leave (IsTouched changes) s x only_all))

        pub all_done : IsDone who gate_word 0 v x → IsAllDone who changes s x
        all_done done = record {
          size = only_all.words;
          values = λ i lt. only_x.read (address changes i) (not_gate inodes who changes s is.agree is.long is.few is.are is.table i lt) ∙
              ready_v.reads (address changes i) (new_value changes i) (told i lt);
          others = λ a out. only_all.read a out;
          gate = ap (λ xs. slice_index xs gate_word) done.now ∙ get_or-set_same v.now gate_word 0 0
              (omega (arith, is.long, is.only.words, only_u.words, values.words));
          gate_settled = done.word;
          settled = λ i lt. done.flushed (address changes i) (ready_v.within (address changes i) (new_value changes i) (told i lt))
              (ready_v.flushed (address changes i) (new_value changes i) (told i lt)) (not_gate inodes who changes s is.agree is.long is.few is.are
              is.table i lt);
          flushed = λ a lt flushed out.
              let kept : KeptSays who changes s a (slice_index s.now a) = record { within = lt; flushed = flushed; out = out; value = refl } in
              done.flushed a (kept_v.within a (slice_index s.now a) kept) (settled_is_flushed v who a (kept_v.settled a (slice_index s.now a) kept))
              (kept_not_gate a (slice_index s.now a) kept);
        }
          where
            told : (i : ℕ) → i < length changes → NewValues changes (length changes) (address changes i) (new_value changes i)
            told i lt = record { i = i; lt = lt; place = refl; value = refl }

-- in the words of the call
pub stored_pairs : (g : Geometry) (who : ℕ) (changes : List Change) (s t : State) → Agree s.now s.past → IsAccepted g → length s.now ≡ 512 * g.pages
    → length changes ≤ 4 → AreChanges g.inodes changes
    → slice_index s.now gate_word ≡ 0 → IsSettled s gate_word → StoresOnly (IsInPairs changes) s t → IsReady who (PairsOf changes s.now) t
    → KeepsFlushed Anyone (IsInPairs changes) s t → StoresPairs g.inodes who changes s t
stored_pairs g who changes s t agree accepted whole few are closed settled only ready keeps = record {
  agree = agree;
  long = omega (arith, whole, accepted.pages);
  few = few;
  are = are;
  table = λ i lt. omega (arith, changes_inside g changes (length s.now) accepted whole are i lt);
  closed = closed;
  settled = settled;
  only = only;
  ready = ready;
  keeps = keeps;
}
