-- Want of room or of an inode stays accounted for, while scripts are told further.
use Rattle.std.proofs.Common.{
  ◌≡◌,
  ◌≢◌,
  ◌⊎◌,
  inl,
  inr,
  ⊎_elim,
  ℕ,
  zero,
  suc,
  ◌+◌,
  ◌-◌,
  ◌≤◌,
  List,
  [],
  ◌∷◌,
  ◌++◌,
  length,
  drop,
  refl,
  sym,
  ◌∙◌,
  ap,
  subst,
  arith,
  Option,
  Some,
  None,
}
use Rattle.std.specs.Prelude.{Contains, slice_get, ◌↔◌}
use Rattle.std.proofs.lemmas.Bool.{cases_eq}
use Rattle.std.proofs.lemmas.List.{drop-append-le}
use Rattle.std.proofs.lemmas.List.Elements.{Contains-append_left, Contains-append_right, Contains-append_cases}
use Rattle.std.proofs.lemmas.Option.{slice_get_cases}
use Rattle.pm_device.specs.State.{State}
use Rattle.pm_device.specs.Settled.{Extends}
use Rattle.dn_model.specs.Disk.{Disk}
use Rattle.dn_model.specs.Course.{Base}
use Rattle.dn_model.specs.History.{IsShortOfSpace, IsShortOfInodes}
use Rattle.dn_model.specs.declared.op.Op.{Op}
use Rattle.dn_model.specs.declared.op.Entry.{Entry}
use Rattle.dn_model.specs.declared.op.Reply.TheVariants.{Refused}
use Rattle.dn_model.specs.declared.op.Refusal.{Refusal}
use Rattle.dn_model.specs.declared.op.Refusal.TheVariants.{NoInode, NoSpace}
use Rattle.law_unique.proofs.Listings.{here, later, none_listed, cons_cases}
use Rattle.dn_volume.specs.declared.flight.Flight.{Flight}
use Rattle.dn_volume.specs.declared.volume.Parts.{Parts}
use Rattle.dn_volume.specs.Parties.{Flies, KeepsOps, flight_at}
use Rattle.dn_volume.specs.Replaces.{Replaces}
use Rattle.dn_volume.specs.Sound.{WasLeft, IsLater, AreLater, AreShort}
use Rattle.dn_volume.proofs.LeftLater.{left_later, moment_later}
use Rattle.dn_volume.proofs.Replaced.{Whose, whose, its_own, another, was_whose, flies_new, flies_old, flies_on, flies_other}
use Rattle.dn_volume.proofs.Needs.{AreGrown, put_op, put_grown, put_length, put_other, put_here, same_grown, still_short}

pub was_left : (base : Base) (s t : State) (e : Disk) → Extends s.past t.past → WasLeft base s e → WasLeft base t e
was_left base s t e on was = record {
  m = was.m;
  c = was.c;
  since = was.since;
  so_far = omega (arith, was.so_far, moment_later s.past t.past on);
  left = left_later s.past t.past was.m was.c on was.so_far was.left;
  stands_for = was.stands_for;
}

-- a client has one operation in flight
pub one_flight : (b : Parts) (q : ℕ) (f g : Flight) → Flies b q f → Flies b q g → f ≡ g
one_flight b q f g one other = let same : Some f ≡ Some g = sym one.is ∙ other.is in cc same

-- What is known of scripts is the same, or one operation of one client more.
abbrev pub SameLater : Parts → Parts → ℕ → Type 0
SameLater b b' k = (q : ℕ) (op : Op) → IsLater b k q op ↔ IsLater b' k q op

abbrev pub OneLater : Parts → Parts → ℕ → ℕ → Op → Type 0
OneLater b b' k who new = (q : ℕ) (op : Op) → (IsLater b k q op ⊎ ((q ≡ who) × (op ≡ new))) ↔ IsLater b' k q op

same_later : (b b' : Parts) (k w : ℕ) (scripts : List (List Op)) → SameLater b b' k → AreLater b k w scripts → AreLater b' k w scripts
same_later b b' k w scripts same are = record {
  clients = are.clients;
  script = λ i ops is op. (
    λ has. let told = (are.script i ops is op).0 has in (told.0, (same (i + 1) op).0 told.1),
    λ told. (are.script i ops is op).1 (told.0, (same (i + 1) op).1 told.1),
  );
}

module _ (b b' : Parts) (k w who : ℕ) (new : Op) (scripts : List (List Op)) (some : 1 ≤ who) (one : OneLater b b' k who new)
    (are : AreLater b k w scripts) where
  -- the client's own script is left out
  own_script : who ≡ w → AreLater b' k w scripts
  own_script same = record {
    clients = are.clients;
    script = λ i ops is op. (
      λ has. let told = (are.script i ops is op).0 has in (told.0, (one (i + 1) op).0 (inl told.1)),
      λ told. (are.script i ops is op).1 (told.0, ⊎_elim (λ was. was) (λ new'. absurd (told.0 (new'.0 ∙ same))) ((one (i + 1) op).1 told.1)),
    );
  }

  put_script : who ≢ w → AreLater b' k w (put_op (who - 1) new scripts)
  put_script other = record {
    clients = put_length (who - 1) new scripts ∙ are.clients;
    script = λ i ops is op. ⊎_elim
        (λ (same : who - 1 ≡ i). here_script i ops op same is)
        (λ (apart : who - 1 ≡ i → ⊥). there_script i ops op apart (sym (put_other (who - 1) i new scripts apart) ∙ is))
        (cases_eq (who - 1) i);
  }
    where
      there_script : (i : ℕ) (ops : List Op) (op : Op) → (who - 1 ≡ i → ⊥) → slice_get scripts i ≡ Some ops
          → Contains ops op ↔ ((i + 1 ≢ w) × IsLater b' k (i + 1) op)
      there_script i ops op apart is = (
        λ has. let told = (are.script i ops is op).0 has in (told.0, (one (i + 1) op).0 (inl told.1)),
        λ told. (are.script i ops is op).1 (
          told.0,
          ⊎_elim (λ was. was) (λ new'. absurd (apart (let e = new'.0 in omega (arith, e))))
              ((one (i + 1) op).1 told.1),
        ),
      )

      longer_script : (i : ℕ) (old : List Op) (op : Op) → who ≡ i + 1 → slice_get scripts i ≡ Some old
          → Contains (new ∷ old) op ↔ ((i + 1 ≢ w) × IsLater b' k (i + 1) op)
      longer_script i old op same is = (
        λ has. (
          λ e. other (same ∙ e),
          (one (i + 1) op).0 (⊎_elim (λ e. inr (sym same, sym e)) (λ rest. inl ((are.script i old is op).0 rest).1)
              (cons_cases new op old has)),
        ),
        λ told. ⊎_elim (λ was. later new op old ((are.script i old is op).1 (told.0, was))) (λ new'. subst (Contains (new ∷ old)) (sym new'.1)
            (here new old)) ((one (i + 1) op).1 told.1),
      )

      here_script : (i : ℕ) (ops : List Op) (op : Op) → who - 1 ≡ i → slice_get (put_op (who - 1) new scripts) i ≡ Some ops
          → Contains ops op ↔ ((i + 1 ≢ w) × IsLater b' k (i + 1) op)
      here_script i ops op same is = by_old (slice_get scripts i) refl
        where
          put : slice_get (put_op i new scripts) i ≡ Some ops
          put = subst (λ (n : ℕ). slice_get (put_op n new scripts) i ≡ Some ops) same is

          by_old : (r : Option (List Op)) → slice_get scripts i ≡ r → Contains ops op ↔ ((i + 1 ≢ w) × IsLater b' k (i + 1) op)
          by_old (Some old) was =
              let e : Some (new ∷ old) ≡ Some ops = sym (put_here i new scripts old was) ∙ put in
              let same_ops : new ∷ old ≡ ops = cc e in
              subst (λ (xs : List Op). Contains xs op ↔ ((i + 1 ≢ w) × IsLater b' k (i + 1) op)) same_ops
              (longer_script i old op (omega (arith, same, some)) was)
          by_old None was = absurd (past_none scripts i was put)
            where
              past_none : (xs : List (List Op)) (j : ℕ) → slice_get xs j ≡ None → slice_get (put_op j new xs) j ≡ Some ops → ⊥
              past_none [] j none found = cc found
              past_none (x ∷ xs) zero none found = cc none
              past_none (x ∷ xs) (suc j) none found = past_none xs j none found

  pub one_later : (longs : List (List Op)) × AreLater b' k w longs × AreGrown scripts longs
  one_later = ⊎_elim (λ same. (scripts, own_script same, same_grown scripts))
      (λ other. (put_op (who - 1) new scripts, put_script other, put_grown (who - 1) new scripts)) (cases_eq who w)

-- Each event tells scripts so.
entry_later : (b : Parts) (k q : ℕ) (op : Op) (entry : Entry) → Contains (drop k b.history.items) entry → entry.who ≡ q → entry.op ≡ op
    → IsLater b k q op
entry_later b k q op entry has who is = record { why = inl (entry, has, who, is) }

flight_later : (b : Parts) (k q : ℕ) (op : Op) (f : Flight) → Flies b q f → f.op ≡ op → IsLater b k q op
flight_later b k q op f flies is = record { why = inr (f, flies, is) }

pub goes_on_later : (b b' : Parts) (k : ℕ) → b'.history.items ≡ b.history.items → KeepsOps b b' → SameLater b b' k
goes_on_later b b' k same ops q op = (
  λ is. ⊎_elim (λ e. entry_later b' k q op e.0 (subst (λ (h : List Entry). Contains (drop k h) e.0) (sym same) e.1) e.2 e.3)
      (λ f. let kept = ops.kept q f.0 f.1 in flight_later b' k q op kept.0 kept.1 (kept.2 ∙ f.2)) is.why,
  λ is. ⊎_elim (λ e. entry_later b k q op e.0 (subst (λ (h : List Entry). Contains (drop k h) e.0) same e.1) e.2 e.3)
      (λ f. let was = ops.only q f.0 f.1 in flight_later b k q op was.0 was.1 (sym was.2 ∙ f.2)) is.why,
)

-- the operation in flight goes over into the history
module _ (b b' : Parts) (k who : ℕ) (entry : Entry) (few : k ≤ length b.history.items) (more : b'.history.items ≡ b.history.items ++ entry ∷ [])
    (entry_who : entry.who ≡ who) where
  in_old : (e : Entry) → Contains (drop k b.history.items) e → Contains (drop k b'.history.items) e
  in_old e has = subst (λ (h : List Entry). Contains (drop k h) e) (sym more)
      (subst (λ (h : List Entry). Contains h e) (sym (drop-append-le k b.history.items (entry ∷ []) few))
      (Contains-append_left (drop k b.history.items) (entry ∷ []) e has))

  in_new : Contains (drop k b'.history.items) entry
  in_new = subst (λ (h : List Entry). Contains (drop k h) entry) (sym more)
      (subst (λ (h : List Entry). Contains h entry) (sym (drop-append-le k b.history.items (entry ∷ []) few))
      (Contains-append_right (drop k b.history.items) (entry ∷ []) entry (here entry [])))

  either : (e : Entry) → Contains (drop k b'.history.items) e → Contains (drop k b.history.items) e ⊎ (entry ≡ e)
  either e has = ⊎_elim inl (λ new. inr (⊎_elim (λ same. same) (λ none. absurd (none_listed e none)) (cons_cases entry e [] new)))
      (Contains-append_cases (drop k b.history.items) (entry ∷ []) e
      (subst (λ (h : List Entry). Contains h e) (drop-append-le k b.history.items (entry ∷ []) few) (subst (λ (h : List Entry). Contains (drop k h) e)
      more has)))

  pub answered_later : (op : Op) → entry.op ≡ op → (f : Flight) → f.op ≡ op → 1 ≤ who → Replaces (who - 1) (Some f) None b b' → SameLater b b' k
  answered_later op entry_op f f_op client r q o = (
    λ is. ⊎_elim (λ e. entry_later b' k q o e.0 (in_old e.0 e.1) e.2 e.3)
        (λ g. ⊎_elim (λ mine. by_entry g.0 mine.0 mine.1 g.2) (λ other. flight_later b' k q o g.0 other.1 g.2)
        (was_whose who client (Some f) None b b' r q g.0 g.1)) is.why,
    λ is. ⊎_elim (λ e. ⊎_elim (λ old. entry_later b k q o e.0 old e.2 e.3)
        (λ same. flight_later b k q o f
        (subst (λ (n : ℕ). Flies b n f) (sym entry_who ∙ ap (λ (x : Entry). x.who) same ∙ e.2) (flies_old who client (Some f) None b b' r f refl))
        (f_op ∙ sym entry_op ∙ ap (λ (x : Entry). x.op) same ∙ e.3))
        (either e.0 e.1))
        (λ g. flight_later b k q o g.0 (flies_other who client (Some f) None b b' r refl q g.0 g.1).1 g.2) is.why,
  )
    where
      by_entry : (g : Flight) → q ≡ who → Some f ≡ Some g → g.op ≡ o → IsLater b' k q o
      by_entry g same is g_op = let one : f ≡ g = cc is in
          entry_later b' k q o entry in_new (entry_who ∙ sym same) (entry_op ∙ sym f_op ∙ ap (λ (h : Flight). h.op) one ∙ g_op)

  -- an operation is answered at once
  pub at_once_later : (op : Op) → entry.op ≡ op → b'.flights.items ≡ b.flights.items → OneLater b b' k who op
  at_once_later op entry_op same q o = (
    λ is. ⊎_elim (λ was. ⊎_elim (λ e. entry_later b' k q o e.0 (in_old e.0 e.1) e.2 e.3) (λ f. flight_later b' k q o f.0 (there f.0 f.1) f.2) was.why)
        (λ new. entry_later b' k q o entry in_new (entry_who ∙ sym new.0) (entry_op ∙ sym new.1)) is,
    λ is. ⊎_elim (λ e. ⊎_elim (λ old. inl (entry_later b k q o e.0 old e.2 e.3))
        (λ new. inr (sym e.2 ∙ sym (ap (λ (x : Entry). x.who) new) ∙ entry_who, sym e.3 ∙ sym (ap (λ (x : Entry). x.op) new) ∙ entry_op))
        (either e.0 e.1))
        (λ f. inl (flight_later b k q o f.0 (back f.0 f.1) f.2)) is.why,
  )
    where
      there : (f : Flight) → Flies b q f → Flies b' q f
      there f flies = record { client = flies.client; is = ap (λ fs. flight_at fs (q - 1)) same ∙ flies.is }

      back : (f : Flight) → Flies b' q f → Flies b q f
      back f flies = record { client = flies.client; is = ap (λ fs. flight_at fs (q - 1)) (sym same) ∙ flies.is }

-- an operation begins
pub begun_later : (b b' : Parts) (k who : ℕ) (op : Op) → b'.history.items ≡ b.history.items → (f : Flight) → f.op ≡ op → 1 ≤ who
    → Replaces (who - 1) None (Some f) b b' → OneLater b b' k who op
begun_later b b' k who op same f f_op client r q o = (
  λ is. ⊎_elim (λ was. ⊎_elim (λ e. entry_later b' k q o e.0 (subst (λ (h : List Entry). Contains (drop k h) e.0) (sym same) e.1) e.2 e.3)
      (λ g. flight_later b' k q o g.0 (flies_on who client None (Some f) b b' r refl q g.0 g.1) g.2) was.why)
      (λ new. flight_later b' k q o f (subst (λ (n : ℕ). Flies b' n f) (sym new.0) (flies_new who client None (Some f) b b' r f refl))
      (f_op ∙ sym new.1)) is,
  λ is. ⊎_elim (λ e. inl (entry_later b k q o e.0 (subst (λ (h : List Entry). Contains (drop k h) e.0) same e.1) e.2 e.3))
      (λ g. by_whose g.0 (whose who client None (Some f) b b' r q g.0 g.1) g.2) is.why,
)
  where
    by_whose : (g : Flight) → Whose who client None (Some f) b b' r q g → g.op ≡ o → IsLater b k q o ⊎ ((q ≡ who) × (o ≡ op))
    by_whose g (its_own at is) g_op = let one : f ≡ g = cc is in inr (at, sym g_op ∙ sym (ap (λ (h : Flight). h.op) one) ∙ f_op)
    by_whose g (another other was) g_op = inl (flight_later b k q o g was g_op)

-- So wants stay accounted for: those of the history so far.
module _ (base : Base) (b b' : Parts) (s t : State) (on : Extends s.past t.past) (short : AreShort base b s) where
  pub same_space : ((k : ℕ) → k ≤ length b.history.items → SameLater b b' k) → (k needed free : ℕ) (entry : Entry)
      → slice_get b.history.items k ≡ Some entry → entry.reply ≡ Refused (NoSpace needed free)
      → (e : Disk) × (scripts : List (List Op)) × WasLeft base t e × AreLater b' k entry.who scripts × IsShortOfSpace e scripts entry.op needed free
  same_space same k needed free entry is reply =
      let was = short.space k needed free entry is reply in
      (was.0, was.1, was_left base s t was.0 on was.2, same_later b b' k entry.who was.1 (same k (within b.history.items k entry is)) was.3, was.4)
    where
      within : (xs : List Entry) (i : ℕ) (x : Entry) → slice_get xs i ≡ Some x → i ≤ length xs
      within xs i x found = ⊎_elim (λ in'. let lt = in'.1 in omega (arith, lt)) (λ past. absurd (clash (slice_get xs i) past.1 found))
          (slice_get_cases xs i).1
        where
          clash : (r : Option Entry) → r ≡ None → r ≡ Some x → ⊥
          clash r none some = cc

  pub grown_space : (who : ℕ) (op : Op) → 1 ≤ who → ((k : ℕ) → k ≤ length b.history.items → OneLater b b' k who op)
      → (k needed free : ℕ) (entry : Entry) → slice_get b.history.items k ≡ Some entry → entry.reply ≡ Refused (NoSpace needed free)
      → (e : Disk) × (scripts : List (List Op)) × WasLeft base t e × AreLater b' k entry.who scripts × IsShortOfSpace e scripts entry.op needed free
  grown_space who op some one k needed free entry is reply =
      let was = short.space k needed free entry is reply in
      let grown = one_later b b' k entry.who who op was.1 some (one k (within b.history.items k entry is)) was.3 in
      (was.0, grown.0, was_left base s t was.0 on was.2, grown.1, still_short was.0 was.1 grown.0 entry.op needed free grown.2 was.4)
    where
      within : (xs : List Entry) (i : ℕ) (x : Entry) → slice_get xs i ≡ Some x → i ≤ length xs
      within xs i x found = ⊎_elim (λ in'. let lt = in'.1 in omega (arith, lt)) (λ past. absurd (clash (slice_get xs i) past.1 found))
          (slice_get_cases xs i).1
        where
          clash : (r : Option Entry) → r ≡ None → r ≡ Some x → ⊥
          clash r none some = cc

  pub old_inode : (k : ℕ) (entry : Entry) → slice_get b.history.items k ≡ Some entry → entry.reply ≡ Refused NoInode → (e : Disk) × WasLeft base t
      e × IsShortOfInodes e entry.op
  old_inode k entry is reply = let was = short.inode k entry is reply in (was.0, was_left base s t was.0 on was.1, was.2)

  -- the history stays
  pub stays_short : b'.history.items ≡ b.history.items → ((k : ℕ) → k ≤ length b.history.items → SameLater b b' k) → AreShort base b' t
  stays_short same later' = record {
    space = λ k needed free entry is. same_space later' k needed free entry (subst (λ (h : List Entry). slice_get h k ≡ Some entry) same is);
    inode = λ k entry is. old_inode k entry (subst (λ (h : List Entry). slice_get h k ≡ Some entry) same is);
  }

  pub begins_short : (who : ℕ) (op : Op) → 1 ≤ who → b'.history.items ≡ b.history.items
      → ((k : ℕ) → k ≤ length b.history.items → OneLater b b' k who op) → AreShort base b' t
  begins_short who op some same one = record {
    space = λ k needed free entry is. grown_space who op some one k needed free entry (subst (λ (h : List Entry). slice_get h k ≡ Some entry) same
        is);
    inode = λ k entry is. old_inode k entry (subst (λ (h : List Entry). slice_get h k ≡ Some entry) same is);
  }

-- an entry of a longer history is an old one, or the last
pub old_or_last : (xs : List Entry) (x : Entry) (k : ℕ) (entry : Entry) → slice_get (xs ++ x ∷ []) k ≡ Some entry → (slice_get xs k ≡ Some entry)
    ⊎ ((k ≡ length xs) × (x ≡ entry))
old_or_last [] x zero entry is = inr (refl, cc is)
old_or_last [] x (suc k) entry is = absurd (cc is)
old_or_last (y ∷ xs) x zero entry is = inl is
old_or_last (y ∷ xs) x (suc k) entry is = ⊎_elim (λ old. inl old) (λ last. inr (ap suc last.0, last.1)) (old_or_last xs x k entry is)

module _ (base : Base) (b b' : Parts) (s t : State) (on : Extends s.past t.past) (short : AreShort base b s) (last : Entry)
    (more : b'.history.items ≡ b.history.items ++ last ∷ []) where
  -- an entry more, which isn't a want
  pub more_short : ((why : Refusal) → last.reply ≡ Refused why → ⊥) → ((k : ℕ) → k ≤ length b.history.items → SameLater b b' k) → AreShort base b' t
  more_short done same = record {
    space = λ k needed free entry is reply. ⊎_elim (λ old. same_space base b b' s t on short same k needed free entry old reply)
        (λ new. absurd (done (NoSpace needed free) (ap (λ (x : Entry). x.reply) new.1 ∙ reply)))
        (old_or_last b.history.items last k entry (subst (λ (h : List Entry). slice_get h k ≡ Some entry) more is));
    inode = λ k entry is reply. ⊎_elim (λ old. old_inode base b b' s t on short k entry old reply)
        (λ new. absurd (done NoInode (ap (λ (x : Entry). x.reply) new.1 ∙ reply)))
        (old_or_last b.history.items last k entry (subst (λ (h : List Entry). slice_get h k ≡ Some entry) more is));
  }

  -- an entry more that may be one
  pub wants_short : (op : Op) → 1 ≤ last.who → last.op ≡ op → ((k : ℕ) → k ≤ length b.history.items → OneLater b b' k last.who op)
      → ((needed free : ℕ) → last.reply ≡ Refused (NoSpace needed free) → (e : Disk) × (scripts : List (List Op)) × WasLeft base t e × AreLater b'
      (length b.history.items) last.who scripts × IsShortOfSpace e scripts last.op needed free)
      → (last.reply ≡ Refused NoInode → (e : Disk) × WasLeft base t e × IsShortOfInodes e last.op) → AreShort base b' t
  wants_short op some op_is one space inode = record {
    space = λ k needed free entry is reply. ⊎_elim (λ old. grown_space base b b' s t on short last.who op some one k needed free entry old reply)
        (λ new. new_space k needed free entry new.0 new.1 reply)
        (old_or_last b.history.items last k entry (subst (λ (h : List Entry). slice_get h k ≡ Some entry) more is));
    inode = λ k entry is reply. ⊎_elim (λ old. old_inode base b b' s t on short k entry old reply)
        (λ new. subst (λ (x : Entry). (e : Disk) × WasLeft base t e × IsShortOfInodes e x.op) new.1
        (inode (ap (λ (x : Entry). x.reply) new.1 ∙ reply)))
        (old_or_last b.history.items last k entry (subst (λ (h : List Entry). slice_get h k ≡ Some entry) more is));
  }
    where
      new_space : (k needed free : ℕ) (entry : Entry) → k ≡ length b.history.items → last ≡ entry → entry.reply ≡ Refused (NoSpace needed free)
          → (e : Disk) × (scripts : List (List Op)) × WasLeft base t e × AreLater b' k entry.who scripts × IsShortOfSpace e scripts entry.op needed
          free
      new_space k needed free entry here' same reply =
          subst (λ (n : ℕ). (e : Disk) × (scripts : List (List Op)) × WasLeft base t e × AreLater b' n entry.who scripts × IsShortOfSpace e scripts
          entry.op needed free) (sym here')
          (subst (λ (x : Entry). (e : Disk) × (scripts : List (List Op)) × WasLeft base t e × AreLater b' (length b.history.items) x.who
          scripts × IsShortOfSpace e scripts x.op needed free) same
          (space needed free (ap (λ (x : Entry). x.reply) same ∙ reply)))
