-- The images of a run, as the run goes on.
use Rattle.std.proofs.Common.{
  ◌≡◌,
  inl,
  inr,
  ⊎_elim,
  ℕ,
  ◌+◌,
  ◌<◌,
  ◌≤◌,
  List,
  [],
  ◌∷◌,
  ◌++◌,
  length,
  take,
  refl,
  sym,
  ◌∙◌,
  ap,
  subst,
  arith,
  length-append,
}
use Rattle.std.specs.Prelude.{slice_index, Option, Some, None}
use Rattle.std.proofs.lemmas.List.{take-append-le, take_all, append_assoc, append-nil, get_or_append_left, get_or_at}
use Rattle.std.proofs.lemmas.Bool.{cases_lt}
use Rattle.pm_device.specs.Past.{Past, Left, moment}
use Rattle.pm_device.specs.State.{State}
use Rattle.pm_device.specs.Settled.{Extends, LeavesOnly, LeavesNow}
use Rattle.pm_device.proofs.Only.{left-extends}
use Rattle.dn_model.specs.Files.{Files, files, IsSameFiles}
use Rattle.dn_model.specs.Disk.{Disk}
use Rattle.dn_model.specs.Image.{StandsFor}
use Rattle.dn_model.specs.Own.{Print, IsOwn}
use Rattle.dn_model.specs.Apply.{IsGranted, after_op}
use Rattle.dn_model.specs.History.{Step, Legal}
use Rattle.dn_model.specs.Course.{Course, IsAfter, IsCountAt, IsFilesAt, after_k, one_more, in_flight}
use Rattle.dn_model.specs.declared.op.Op.{Op}
use Rattle.dn_model.specs.declared.op.Entry.{Entry}
use Rattle.dn_model.specs.OnCourse.{IsImageOf, LeavesOneOf, IsOnCourse}

-- a longer past has no fewer moments
pub moment-extends : (p q : Option Past) → Extends p q → moment p ≤ moment q
moment-extends None None on = omega arith
moment-extends None (Some q) on = absurd on
moment-extends (Some p) None on = absurd on
moment-extends (Some p) (Some q) on = omega (arith, ap length on.calls, length-append p.calls on.more)

pub left-moment : (p : Option Past) (m : ℕ) (c : List ℕ) → Left p m c → m ≤ moment p
left-moment None m c left = absurd left
left-moment (Some p) m c left = left.past

same-legal : (old : Files) (history : List Entry) (f g : Files) → IsSameFiles g f → Legal old history f → Legal old history g
same-legal old [] f g same legal = λ name. same name ∙ legal name
same-legal old (entry ∷ history) f g same (mid, step, legal) = (mid, step, same-legal mid history f g same legal)

same-after : (old : Files) (history : List Entry) (k : ℕ) (f g : Files) → IsSameFiles g f → IsAfter old history k f → IsAfter old history k g
same-after old history k f g same after = record { some = after.some; legal = same-legal old (take k history) f g same after.legal }

-- after the first entries of a longer history
after-append : (old : Files) (history more : List Entry) (k : ℕ) (f : Files) → IsAfter old history k f → IsAfter old (history ++ more) k f
after-append old history more k f after = record {
  some = omega (arith, after.some, length-append history more);
  legal = subst (λ (h : List Entry). Legal old h f) (sym (take-append-le k history more after.some)) after.legal;
}

after-all : (old : Files) (history : List Entry) (f : Files) → Legal old history f → IsAfter old history (length history) f
after-all old history f legal = record {
  some = omega arith;
  legal = subst (λ (h : List Entry). Legal old h f) (sym (take_all (length history) history (omega arith))) legal;
}

at-append : (old : Files) (history more : List Entry) (flying : Option Op) (k : ℕ) (f : Files) → IsFilesAt old history None k f
    → IsFilesAt old (history ++ more) flying k f
at-append old history more flying k f (after_k after) = after_k (after-append old history more k f after)
at-append old history more flying k f (one_more after) = one_more (after-append old history more (k + 1) f after)
at-append old history more flying k f (in_flight g op last is legal granted same) = absurd (cc is)

at-flying : (old : Files) (history : List Entry) (flying : Option Op) (k : ℕ) (f : Files) → IsFilesAt old history None k f
    → IsFilesAt old history flying k f
at-flying old history flying k f (after_k after) = after_k after
at-flying old history flying k f (one_more after) = one_more after
at-flying old history flying k f (in_flight g op last is legal granted same) = absurd (cc is)

-- the one fact of an image in a course
abbrev Holds : Print → Files → List Entry → Option Op → ℕ → List ℕ → Type 0
Holds print old history flying k c = (d : Disk) × StandsFor c d × IsOwn print d × IsFilesAt old history flying k (files d)

module _ (print : Print) (old : Files) (start : ℕ) (history : List Entry) where
  of-image : (flying : Option Op) (k : ℕ) (f : Files) (c : List ℕ) → IsImageOf print f c
      → ((g : Files) → IsSameFiles g f → IsFilesAt old history flying k g) → Holds print old history flying k c
  of-image flying k f c image at = (image.disk, image.stands_for, image.own, at (files image.disk) image.same)

pub legal-told : (print : Print) (old : Files) (start : ℕ) (history : List Entry) (f : Files) (s : State) → IsOnCourse print old start history f s
    → Legal old history f
legal-told print old start history f s on = subst (λ (h : List Entry). Legal old h f) (append-nil history) (on.leads [] f (λ name. refl))

pub begins : (print : Print) (f : Files) (s : State) → LeavesNow s (IsImageOf print f) → IsOnCourse print f (moment s.past) [] f s
begins print f s now = record {
  course = record {
    moments = [];
    one_each = refl;
    rising = λ i j le lt. omega (arith, lt);
    bounds = λ i lt. omega (arith, lt);
    images = λ m k c late left count.
        let here : m ≡ moment s.past = omega (arith, late, left-moment s.past m c left) in
        let none : k ≡ 0 = omega (arith, count.few) in
        of-image print f (moment s.past) [] None k f c (now c (subst (λ (n : ℕ). Left s.past n c) here left))
        (λ g same. after_k (record { some = omega (arith, none); legal = subst (λ (n : ℕ). Legal f (take n []) g) (sym none) same }));
  };
  leads = λ more g legal. legal;
  now = now;
  begun = omega arith;
}

-- the count of moments that are past, where one more is put behind them
pub count-append : (moments : List ℕ) (last m k : ℕ) → m < last → ((i : ℕ) → i < length moments → slice_index moments i ≤ last)
    → IsCountAt (moments ++ last ∷ []) m k → IsCountAt moments m k
count-append moments last m k early bound count = record {
  few = elim (cases_lt (length moments) k) [
    | inl more ↦
        let here : slice_index (moments ++ last ∷ []) (length moments) ≡ last = get_or_at moments last [] 0 (length moments) refl in
        omega (arith, here, count.before (length moments) more, early)
    | inr le ↦ le
  ];
  before = λ i lt. elim (cases_lt i (length moments)) [
    | inl inside ↦ subst (λ (n : ℕ). n ≤ m) (get_or_append_left moments (last ∷ []) 0 i inside) (count.before i lt)
    | inr past ↦
        let long : length (moments ++ last ∷ []) ≡ length moments + 1 = length-append moments (last ∷ []) in
        let i_is : length moments ≡ i = omega (arith, past, lt, count.few, long) in
        let here : slice_index (moments ++ last ∷ []) i ≡ last = get_or_at moments last [] 0 i i_is in
        omega (arith, here, count.before i lt, early)
  ];
  after = λ i le lt. subst (λ (n : ℕ). m < n) (get_or_append_left moments (last ∷ []) 0 i lt)
      (count.after i le (omega (arith, lt, length-append moments (last ∷ []))));
}

module _ (print : Print) (old : Files) (start : ℕ) (history : List Entry) (f g : Files) (entry : Entry) (s t : State)
    (on : IsOnCourse print old start history f s) (step : Step f entry.op entry.reply g) (leaves : LeavesOneOf print f g s t)
    (ends : LeavesNow t (IsImageOf print g)) where
  later : moment s.past ≤ moment t.past
  later = moment-extends s.past t.past leaves.extends

  abbrev pub all : List ℕ
  all = on.course.moments ++ moment t.past ∷ []

  abbrev pub next : List Entry
  next = history ++ entry ∷ []

  long : length all ≡ length history + 1
  long = length-append on.course.moments (moment t.past ∷ []) ∙ ap (λ n. n + 1) on.course.one_each

  long-next : length next ≡ length history + 1
  long-next = length-append history (entry ∷ [])

  leads-next : (more : List Entry) (h : Files) → Legal g more h → Legal old (next ++ more) h
  leads-next more h legal = subst (λ (e : List Entry). Legal old e h) (sym (append_assoc history (entry ∷ []) more))
      (on.leads (entry ∷ more) h (g, step, legal))

  legal-next : Legal old next g
  legal-next = subst (λ (h : List Entry). Legal old h g) (append-nil next) (leads-next [] g (λ name. refl))

  at-old : (i : ℕ) → i < length history → slice_index all i ≡ slice_index on.course.moments i
  at-old i lt = get_or_append_left on.course.moments (moment t.past ∷ []) 0 i (omega (arith, lt, on.course.one_each))

  at-new : (i : ℕ) → length history ≡ i → slice_index all i ≡ moment t.past
  at-new i is = get_or_at on.course.moments (moment t.past) [] 0 i (on.course.one_each ∙ is)

  bounded : (i : ℕ) → i < length all → (start ≤ slice_index all i) × (slice_index all i ≤ moment t.past)
  bounded i lt = elim (cases_lt i (length history)) [
    | inl inside ↦
        let b = on.course.bounds i (omega (arith, inside, on.course.one_each)) in
        (omega (arith, at-old i inside, b.0), omega (arith, at-old i inside, b.1, later))
    | inr past ↦ let here = at-new i (omega (arith, past, lt, long)) in (omega (arith, here, on.begun, later), omega (arith, here))
  ]

  rises : (i j : ℕ) → i ≤ j → j < length all → slice_index all i ≤ slice_index all j
  rises i j le lt = elim (cases_lt j (length history)) [
    | inl inside ↦ omega (
      arith,
      at-old i (omega (arith, le, inside)),
      at-old j inside,
      on.course.rising i j le
          (omega (arith, inside, on.course.one_each)),
    )
    | inr past ↦ omega (arith, at-new j (omega (arith, past, lt, long)), (bounded i (omega (arith, le, lt))).1)
  ]

  -- the files of before, or of after
  old_at : (k : ℕ) (h : Files) → k ≡ length history → IsSameFiles h f → IsFilesAt old next None k h
  old_at k h is same = after_k (subst (λ (n : ℕ). IsAfter old next n h) (sym is)
      (after-append old history (entry ∷ []) (length history) h (same-after old history (length history) f h same
      (after-all old history f (legal-told print old start history f s on)))))

  new_after : (n : ℕ) (h : Files) → n ≡ length history + 1 → IsSameFiles h g → IsAfter old next n h
  new_after n h is same = subst (λ (n : ℕ). IsAfter old next n h) (long-next ∙ sym is)
      (same-after old next (length next) g h same (after-all old next g legal-next))

  images : (m k : ℕ) (c : List ℕ) → start ≤ m → Left t.past m c → IsCountAt all m k → Holds print old next None k c
  images m k c late left count = elim (cases_lt m (moment s.past)) [
    | inl early ↦
        let d = on.course.images m k c late (left-extends s.past t.past m c leaves.extends (omega (arith, early)) left)
        (count-append on.course.moments (moment t.past) m k (omega (arith, early, later)) (λ i lt. omega (arith, later, (on.course.bounds i lt).1))
        count) in
        (d.0, d.1, d.2, at-append old history (entry ∷ []) None k (files d.0) d.3)
    | inr here ↦ elim (cases_lt m (moment t.past)) [
      | inl before ↦
          let inner = count-append on.course.moments (moment t.past) m k before (λ i lt. omega (arith, later, (on.course.bounds i lt).1)) count in
          let k_is : k ≡ length history = counted inner here in
          ⊎_elim
          (λ (image : IsImageOf print f c). of-image print old start next None k f c image (λ h same. old_at k h k_is same))
          (λ (image : IsImageOf print g c). of-image print old start next None k g c image
          (λ h same. one_more (new_after (k + 1) h (ap (λ n. n + 1) k_is) same)))
          (leaves.each m c here left)
      | inr end ↦
          let m_is : m ≡ moment t.past = omega (arith, end, left-moment t.past m c left) in
          let k_is : k ≡ length history + 1 = elim (cases_lt k (length history + 1)) [
            | inl few ↦ omega (arith, few, m_is, (bounded k (omega (arith, few, long))).1, count.after k (omega arith) (omega (arith, few, long)))
            | inr enough ↦ omega (arith, enough, count.few, long)
          ] in
          of-image print old start next None k g c (ends c (subst (λ (n : ℕ). Left t.past n c) m_is left))
          (λ h same. after_k (new_after k h k_is same))
    ]
  ]
    where
      counted : IsCountAt on.course.moments m k → moment s.past ≤ m → k ≡ length history
      counted inner here = elim (cases_lt k (length history)) [
        | inl few ↦
            let lt : k < length on.course.moments = omega (arith, few, on.course.one_each) in
            omega (arith, here, inner.after k (omega arith) lt, (on.course.bounds k lt).1)
        | inr enough ↦ omega (arith, enough, inner.few, on.course.one_each)
      ]

  pub goes_on : IsOnCourse print old start next g t
  goes_on = record {
    course = record { moments = all; one_each = long ∙ sym long-next; rising = rises; bounds = bounded; images = images };
    leads = leads-next;
    now = ends;
    begun = omega (arith, on.begun, later);
  }

-- a call that may have made the one operation that follows, or not
module _ (print : Print) (old : Files) (start : ℕ) (history : List Entry) (f : Files) (flying : Option Op) (s t : State)
    (on : IsOnCourse print old start history f s)
    (P : List ℕ → Type 0) (leaves : LeavesOnly s t P) (may : (c : List ℕ) → P c → Holds print old history flying (length history) c) where
  last : moment s.past ≤ moment t.past
  last = moment-extends s.past t.past leaves.extends

  pub stays_course : Course print old start history flying t
  stays_course = record {
    moments = on.course.moments;
    one_each = on.course.one_each;
    rising = on.course.rising;
    bounds = λ i lt. let b = on.course.bounds i lt in (b.0, omega (arith, b.1, last));
    images = λ m k c late left count. elim (cases_lt m (moment s.past)) [
      | inl early ↦
          let d = on.course.images m k c late (left-extends s.past t.past m c leaves.extends (omega (arith, early)) left) count in
          (d.0, d.1, d.2, at-flying old history flying k (files d.0) d.3)
      | inr here ↦ subst (λ (n : ℕ). Holds print old history flying n c) (sym (counted m k count here)) (may c (leaves.each m c here left))
    ];
  }
    where
      counted : (m k : ℕ) → IsCountAt on.course.moments m k → moment s.past ≤ m → k ≡ length history
      counted m k count here = elim (cases_lt k (length history)) [
        | inl few ↦
            let lt : k < length on.course.moments = omega (arith, few, on.course.one_each) in
            omega (arith, here, count.after k (omega arith) lt, (on.course.bounds k lt).1)
        | inr enough ↦ omega (arith, enough, count.few, on.course.one_each)
      ]

at-end : (print : Print) (old : Files) (start : ℕ) (history : List Entry) (f : Files) (s : State) (flying : Option Op) (h : Files)
    → IsOnCourse print old start history f s → IsSameFiles h f → IsFilesAt old history flying (length history) h
at-end print old start history f s flying h on same = after_k (same-after old history (length history) f h same
    (after-all old history f (legal-told print old start history f s on)))

pub stays : (print : Print) (old : Files) (start : ℕ) (history : List Entry) (f : Files) (s t : State) → IsOnCourse print old start history f s
    → LeavesOnly s t (IsImageOf print f) → IsOnCourse print old start history f t
stays print old start history f s t on leaves = record {
  course = stays_course print old start history f None s t on (IsImageOf print f) leaves
      (λ c image. of-image print old start history None (length history) f c image (λ h same. at-end print old start history f s None h on same));
  leads = on.leads;
  now = λ c left. leaves.each (moment t.past) c (moment-extends s.past t.past leaves.extends) left;
  begun = omega (arith, on.begun, moment-extends s.past t.past leaves.extends);
}

pub stops : (print : Print) (old : Files) (start : ℕ) (history : List Entry) (f : Files) (op : Op) (s t : State) → IsOnCourse print old start history
    f s → IsGranted f op
    → LeavesOneOf print f (after_op f op) s t → Course print old start history (Some op) t
stops print old start history f op s t on granted leaves = stays_course print old start history f (Some op) s t on _ leaves
    (λ c. ⊎_elim
    (λ (image : IsImageOf print f c). of-image print old start history (Some op) (length history) f c image
    (λ h same. at-end print old start history f s (Some op) h on same))
    (λ (image : IsImageOf print (after_op f op) c). of-image print old start history (Some op) (length history) (after_op f op) c image
    (λ h same. in_flight f op refl refl (legal-told print old start history f s on) granted same)))
