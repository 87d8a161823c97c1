-- Readings of one log end at one place.
use Rattle.std.proofs.Common.{
  ◌≡◌,
  ◌≢◌,
  ◌⊎◌,
  inl,
  inr,
  ⊎_elim,
  ℕ,
  zero,
  suc,
  ◌+◌,
  ◌-◌,
  ◌*◌,
  ◌/◌,
  ◌%◌,
  ◌<◌,
  ◌≤◌,
  List,
  [],
  ◌∷◌,
  ◌++◌,
  length,
  take,
  drop,
  refl,
  sym,
  ◌∙◌,
  ap,
  subst,
  arith,
  length-append,
  append_assoc,
  append-nil,
}
use Rattle.std.specs.Prelude.{slice_index, All, Option, Some, None}
use Rattle.std.proofs.lemmas.Bool.{cases_lt}
use Rattle.std.proofs.lemmas.List.{nil_from_length, take-append-drop, take-append-le}
use Rattle.pm_layout.specs.declared.Geometry.{Geometry}
use Rattle.pm_layout.specs.Geometry.{inode_word}
use Rattle.log_entry.specs.Spelling.{spelling, spelled, IsSpelled}
use Rattle.log_entry.specs.Fronts.{BeginsItem, BeginsWith, BeginsNothing}
use Rattle.log_entry.specs.declared.item.LogItem.{LogItem}
use Rattle.log_entry.proofs.Unique.{spelling_one}
use Rattle.log_entry.proofs.Fronts.{part_no_whole, no_slots}
use Rattle.log_entry.proofs.Spelled.{spelling_some}
use Rattle.dn_model.specs.Log.{Log, at_tail, at_head, at_footer, at_slot, IsPaged, count, tail_at}
use Rattle.dn_model.specs.LogFault.{LogFault, bad_page, no_slot, cut_off, no_item, misplaced, EndsAtTail, EndsBeforeTail, slots_between}
use Rattle.dn_model.specs.Valid.{MayStand}
use Rattle.dn_model.proofs.OneLog.{pages_one, items_one}
use Rattle.log_walk.specs.Items.{IsBad}
use Rattle.log_walk.specs.Laws.{ReadsAs, HasOneLog, HasOneFault, HasLogOrFault}
use Rattle.log_walk.proofs.Views.{
  View,
  Cause,
  of_page,
  of_tail,
  of_item,
  of_none,
  between_long,
  n_within,
  page_agrees,
  together,
  at_tail_longest,
  at_bad_longest,
}

-- one list of slots begins with the spellings of two lists of items: they are the same, or one has more
data Meets (P : LogItem → Type 0) (xs ys : List LogItem) (r s : List (List ℕ)) : Type 0 where
  meets_same : xs ≡ ys → r ≡ s → Meets P xs ys r s
  meets_right : (item : LogItem) → BeginsWith item r → P item → Meets P xs ys r s
  meets_left : (item : LogItem) → BeginsWith item s → P item → Meets P xs ys r s

meet : (P : LogItem → Type 0) (xs ys : List LogItem) (r s : List (List ℕ)) → All IsSpelled xs → All IsSpelled ys → All P xs → All P ys
    → spelled xs ++ r ≡ spelled ys ++ s → Meets P xs ys r s
meet P [] [] r s px py qx qy e = meets_same refl e
meet P [] (y ∷ ys) r s px py qx qy e = meets_right y
    (record { spelled = py 0 y (omega arith); rest = spelled ys ++ s; is = e ∙ append_assoc (spelling y) (spelled ys) s }) (qy 0 y (omega arith))
meet P (x ∷ xs) [] r s px py qx qy e = meets_left x (record {
  spelled = px 0 x (omega arith);
  rest = spelled xs ++ r;
  is = sym e ∙ append_assoc
      (spelling x) (spelled xs) r;
}) (qx 0 x (omega arith))
meet P (x ∷ xs) (y ∷ ys) r s px py qx qy e =
    let one = spelling_one x y (spelled xs ++ r) (spelled ys ++ s) (px 0 x (omega arith)) (py 0 y (omega arith))
    (sym (append_assoc (spelling x) (spelled xs) r) ∙ e ∙ append_assoc (spelling y) (spelled ys) s) in
    elim (meet P xs ys r s (λ k d lt. px (suc k) d (omega arith)) (λ k d lt. py (suc k) d (omega arith)) (λ k d lt. qx (suc k) d (omega arith))
    (λ k d lt. qy (suc k) d (omega arith)) one.rest) [
      | meets_same items rest ↦ meets_same (λ i. one.item i ∷ items i) rest
      | meets_right item begins p ↦ meets_right item begins p
      | meets_left item begins p ↦ meets_left item begins p
    ]

-- what begins an item does so without its end
part_front : (r e : List (List ℕ)) → BeginsItem (r ++ e) → BeginsItem r
part_front r e part = record {
  item = part.item;
  spelled = part.spelled;
  rest = e ++ part.rest;
  more = λ none. part.more (nil_from_length part.rest (omega (arith, ap length none, length-append e part.rest)));
  is = sym (append_assoc r e part.rest) ∙ part.is;
}

whole_more : (item : LogItem) (r e : List (List ℕ)) → BeginsWith item r → BeginsWith item (r ++ e)
whole_more item r e begins = record {
  spelled = begins.spelled;
  rest = begins.rest ++ e;
  is = ap (λ (ss : List (List ℕ)). ss ++ e) begins.is ∙ append_assoc (spelling item) begins.rest e;
}

-- what begins with an item either has its slots already, or only some of them
front_or_part : (item : LogItem) (r e : List (List ℕ)) → BeginsWith item (r ++ e) → BeginsWith item r ⊎ BeginsItem r
front_or_part item r e begins = elim (cases_lt (length r) (length (spelling item))) [
  | inl few ↦
      let front : r ≡ take (length r) (spelling item) =
      sym (take-append-le' r e (length r) refl) ∙ ap (take (length r)) begins.is ∙ take-append-le (length r) (spelling item) begins.rest (omega arith)
      in
      inr (record {
        item = item;
        spelled = begins.spelled;
        rest = drop (length r) (spelling item);
        more = λ none. omega (
          arith,
          few,
          length-append (take (length r) (spelling item)) (drop (length r) (spelling item)),
          ap length (take-append-drop (length r) (spelling item)),
          ap length none,
          ap length front,
        );
        is = ap (λ (ss : List (List ℕ)). ss ++ drop (length r) (spelling item)) front ∙ take-append-drop (length r) (spelling item);
      })
  | inr enough ↦
      let front : take (length (spelling item)) r ≡ spelling item =
      sym (take-append-le (length (spelling item)) r e enough) ∙ ap (take (length (spelling item))) begins.is ∙ take-append-le' (spelling item)
      begins.rest (length (spelling item)) refl in
      inl (record {
        spelled = begins.spelled;
        rest = drop (length (spelling item)) r;
        is = sym (take-append-drop (length (spelling item)) r) ∙ ap (λ (ss : List (List ℕ)). ss ++ drop (length (spelling item)) r) front;
      })
]
  where
    take-append-le' : (xs ys : List (List ℕ)) (n : ℕ) → n ≡ length xs → take n (xs ++ ys) ≡ xs
    take-append-le' [] ys zero e = refl
    take-append-le' [] ys (suc n) e = absurd (omega arith)
    take-append-le' (x ∷ xs) ys zero e = absurd (omega arith)
    take-append-le' (x ∷ xs) ys (suc n) e = ap (λ (zs : List (List ℕ)). x ∷ zs) (take-append-le' xs ys n (omega arith))

-- what is bad begins with no item that may stand there, and begins none, whatever follows
bad_refuses : (g : Geometry) (ino : ℕ) (r e : List (List ℕ)) → IsBad g ino r → (item : LogItem) → BeginsWith item (r ++ e) → MayStand g ino item → ⊥
bad_refuses g ino r e bad item begins stands = ⊎_elim
    (λ (nothing : BeginsNothing r). ⊎_elim (λ (whole : BeginsWith item r). nothing.no_whole item whole)
    (λ (part : BeginsItem r). nothing.no_part part) (front_or_part item r e begins))
    (λ (other : (other : LogItem) × BeginsWith other r × (MayStand g ino other → ⊥)).
    let more = whole_more other.0 r e other.1 in
    let one = spelling_one item other.0 begins.rest more.rest begins.spelled more.spelled (sym begins.is ∙ more.is) in
    other.2 (subst (MayStand g ino) one.item stands))
    bad

bad_no_part : (g : Geometry) (ino : ℕ) (r : List (List ℕ)) → IsBad g ino r → BeginsItem r → ⊥
bad_no_part g ino r bad part = ⊎_elim
    (λ (nothing : BeginsNothing r). nothing.no_part part)
    (λ (other : (other : LogItem) × BeginsWith other r × (MayStand g ino other → ⊥)). part_no_whole r part other.0 other.1)
    bad

-- an empty rest
none_left : (c pages : List ℕ) (n m : ℕ) → m ≤ n → slots_between c pages n m ≡ []
none_left c pages n m le = nil_from_length (slots_between c pages n m) (omega (arith, between_long c pages n m, le))

counts : (x y : Log) → x.items ≡ y.items → count x ≡ count y
unfolding count
counts x y items = ap (λ (xs : List LogItem). length (spelled xs)) items

module _ (g : Geometry) (c : List ℕ) (ino : ℕ) (x : Log) (nx mx : ℕ) (vx : View g c ino x nx mx) (y : Log) (ny my : ℕ) (vy : View g c ino y ny my)
    (p q : Option ℕ) where
  abbrev Rx : List (List ℕ)
  Rx = slots_between c x.pages nx mx

  abbrev Ry : List (List ℕ)
  Ry = slots_between c y.pages ny my

  abbrev More : List (List ℕ)
  More = slots_between c y.pages mx my

  no_more : my ≤ mx → Rx ++ More ≡ Rx
  no_more le = ap (λ (ss : List (List ℕ)). Rx ++ ss) (none_left c y.pages mx my le) ∙ append-nil Rx

  -- the shorter reading goes on with no item that the longer one has
  refuses : Cause g c ino x nx mx p → (item : LogItem) → BeginsWith item (Rx ++ More) → MayStand g ino item → ⊥
  refuses (of_page before part stops is) item begins stands =
      part_no_whole Rx part item (subst (BeginsWith item) (no_more (at_bad_longest g c ino x nx mx vx y ny my vy before stops).1) begins)
  refuses (of_tail tail part slot is) item begins stands =
      part_no_whole Rx part item (subst (BeginsWith item) (no_more (at_tail_longest g c ino x nx mx vx y ny my vy tail).1) begins)
  refuses (of_item bad lt is) item begins stands = bad_refuses g ino Rx More bad item begins stands
  refuses (of_none tail full slot is) item begins stands =
      part_no_whole Rx (no_slots Rx (omega (arith, between_long c x.pages nx mx, full))) item
      (subst (BeginsWith item) (no_more (at_tail_longest g c ino x nx mx vx y ny my vy tail).1) begins)

  -- nor the longer one with an item that the shorter one has
  refuses' : Cause g c ino y ny my q → (item : LogItem) → BeginsWith item Ry → MayStand g ino item → ⊥
  refuses' (of_page before part stops is) item begins stands = part_no_whole Ry part item begins
  refuses' (of_tail tail part slot is) item begins stands = part_no_whole Ry part item begins
  refuses' (of_item bad lt is) item begins stands = bad_refuses g ino Ry [] bad item (subst (BeginsWith item) (sym (append-nil Ry)) begins) stands
  refuses' (of_none tail full slot is) item begins stands = part_no_whole Ry (no_slots Ry (omega (arith, between_long c y.pages ny my, full))) item
      begins

  -- a page that can't be the log's, and the tail's page, don't both come first
  not_both : (length y.pages ≤ length x.pages) → (length x.pages ≤ length y.pages) → EndsBeforeTail c ino x.pages mx → EndsAtTail c ino y.pages my → ⊥
  not_both le le' before tail = before.not_met (omega (arith, le, tail.some))
      (ap (slice_index x.pages) (let e : length x.pages - 1 ≡ length y.pages - 1 = omega (arith, le, le') in e)
      ∙ page_agrees g c ino x nx mx vx y ny my vy (length y.pages - 1) (omega (arith, le, tail.some)) (omega (arith, tail.some)) ∙ tail.met)

  not_both' : (length y.pages ≤ length x.pages) → (length x.pages ≤ length y.pages) → EndsAtTail c ino x.pages mx → EndsBeforeTail c ino y.pages my
      → ⊥
  not_both' le le' tail before = before.not_met (omega (arith, le', tail.some))
      (ap (slice_index y.pages) (let e : length y.pages - 1 ≡ length x.pages - 1 = omega (arith, le, le') in e)
      ∙ sym (page_agrees g c ino x nx mx vx y ny my vy (length x.pages - 1) (omega (arith, tail.some)) (omega (arith, le', tail.some))) ∙ tail.met)

  -- with the same items, they end at one place
  same_end : Cause g c ino x nx mx p → Cause g c ino y ny my q → mx ≤ my → nx ≡ ny → Rx ++ More ≡ Ry → p ≡ q
  same_end (of_page before part stops is) (of_page before' part' stops' is') le same rest =
      let long = at_bad_longest g c ino x nx mx vx y ny my vy before stops in
      let e : mx ≡ my = omega (arith, le, long.1) in is ∙ ap (λ (n : ℕ). Some n) e ∙ sym is'
  same_end (of_page before part stops is) (of_tail tail' part' slot' is') le same rest =
      absurd (not_both (at_bad_longest g c ino x nx mx vx y ny my vy before stops).0 (at_tail_longest g c ino y ny my vy x nx mx vx tail').0 before
      tail')
  same_end (of_page before part stops is) (of_none tail' full' slot' is') le same rest =
      absurd (not_both (at_bad_longest g c ino x nx mx vx y ny my vy before stops).0 (at_tail_longest g c ino y ny my vy x nx mx vx tail').0 before
      tail')
  same_end (of_page before part stops is) (of_item bad' lt' is') le same rest =
      let all = no_more (at_bad_longest g c ino x nx mx vx y ny my vy before stops).1 in
      absurd (bad_no_part g ino Ry bad' (subst BeginsItem (sym all ∙ rest) part))
  same_end (of_tail tail part slot is) (of_page before' part' stops' is') le same rest =
      absurd (not_both' (at_tail_longest g c ino x nx mx vx y ny my vy tail).0 (at_bad_longest g c ino y ny my vy x nx mx vx before' stops').0 tail
      before')
  same_end (of_tail tail part slot is) (of_tail tail' part' slot' is') le same rest = is ∙ ap (λ (n : ℕ). Some n) same ∙ sym is'
  same_end (of_tail tail part slot is) (of_none tail' full' slot' is') le same rest =
      let e : nx ≡ mx = omega (arith, le, same, full', n_within g c ino x nx mx vx, (at_tail_longest g c ino x nx mx vx y ny my vy tail).1) in
      absurd (slot' (slot e))
  same_end (of_tail tail part slot is) (of_item bad' lt' is') le same rest =
      let all = no_more (at_tail_longest g c ino x nx mx vx y ny my vy tail).1 in
      absurd (bad_no_part g ino Ry bad' (subst BeginsItem (sym all ∙ rest) part))
  same_end (of_item bad lt is) (of_page before' part' stops' is') le same rest =
      absurd (bad_no_part g ino Rx bad (part_front Rx More (subst BeginsItem (sym rest) part')))
  same_end (of_item bad lt is) (of_tail tail' part' slot' is') le same rest =
      absurd (bad_no_part g ino Rx bad (part_front Rx More (subst BeginsItem (sym rest) part')))
  same_end (of_item bad lt is) (of_item bad' lt' is') le same rest = is ∙ ap (λ (n : ℕ). Some n) same ∙ sym is'
  same_end (of_item bad lt is) (of_none tail' full' slot' is') le same rest = absurd (omega (arith, lt, le, same, full'))
  same_end (of_none tail full slot is) (of_page before' part' stops' is') le same rest =
      absurd (not_both' (at_tail_longest g c ino x nx mx vx y ny my vy tail).0 (at_bad_longest g c ino y ny my vy x nx mx vx before' stops').0 tail
      before')
  same_end (of_none tail full slot is) (of_tail tail' part' slot' is') le same rest =
      let e : ny ≡ my = omega (arith, le, same, full, n_within g c ino y ny my vy, (at_tail_longest g c ino x nx mx vx y ny my vy tail).1) in
      absurd (slot (slot' e))
  same_end (of_none tail full slot is) (of_none tail' full' slot' is') le same rest = is ∙ sym is'
  same_end (of_none tail full slot is) (of_item bad' lt' is') le same rest =
      absurd (omega (arith, lt', le, same, full, (at_tail_longest g c ino x nx mx vx y ny my vy tail).1))

  pub one_way : Cause g c ino x nx mx p → Cause g c ino y ny my q → mx ≤ my → p ≡ q
  one_way cx cy le = elim (meet (MayStand g ino) x.items y.items (Rx ++ More) Ry vx.front.spelled vy.front.spelled vx.front.standing vy.front.standing
      (together g c ino x nx mx vx y ny my vy le)) [
        | meets_same items rest ↦ same_end cx cy le (sym vx.counted ∙ counts x y items ∙ vy.counted) rest
        | meets_right item begins stands ↦ absurd (refuses cx item begins stands)
        | meets_left item begins stands ↦ absurd (refuses' cy item begins stands)
      ]

-- two readings that have ended
pub record Ended (g : Geometry) (c : List ℕ) (ino : ℕ) (p : Option ℕ) : Type 0 where
  pub log : Log
  pub n : ℕ
  pub m : ℕ
  pub view : View g c ino log n m
  pub cause : Cause g c ino log n m p

pub one_end : (g : Geometry) (c : List ℕ) (ino : ℕ) (p q : Option ℕ) → Ended g c ino p → Ended g c ino q → p ≡ q
one_end g c ino p q x y = elim (cases_lt x.m y.m) [
  | inl less ↦ one_way g c ino x.log x.n x.m x.view y.log y.n y.m y.view p q x.cause y.cause (omega arith)
  | inr le ↦ sym (one_way g c ino y.log y.n y.m y.view x.log x.n x.m x.view q p y.cause x.cause le)
]

-- each fault is such an end
pub fault_ends : (g : Geometry) (c : List ℕ) (ino place : ℕ) → LogFault g c ino place → Ended g c ino (Some place)
fault_ends g c ino place (bad_page log front before rest stops) = record {
  log = log;
  n = count log;
  m = place;
  view = record { front = front; ends = inr before; counted = refl };
  cause = of_page before (⊎_elim (λ (none : slots_between c log.pages (count log) place ≡ []). no_slots _ (ap length none))
      (λ (part : BeginsItem (slots_between c log.pages (count log) place)). part) rest) stops refl;
}
fault_ends g c ino place (no_slot log front tail slot full) = record {
  log = log;
  n = place;
  m = place;
  view = record { front = front; ends = inl tail; counted = full };
  cause = of_tail tail (no_slots _ (ap length (none_left c log.pages place place (omega arith)))) (λ e. slot) refl;
}
fault_ends g c ino place (cut_off log m front tail full part lt) = record {
  log = log;
  n = place;
  m = m;
  view = record { front = front; ends = inl tail; counted = full };
  cause = of_tail tail part (λ e. absurd (omega arith)) refl;
}
fault_ends g c ino place (no_item log m front ends full lt no_part no_whole) = record {
  log = log;
  n = place;
  m = m;
  view = record { front = front; ends = ends; counted = full };
  cause = of_item (inl (record { no_part = no_part; no_whole = no_whole })) lt refl;
}
fault_ends g c ino place (misplaced log m item front ends full begins refused) = record {
  log = log;
  n = place;
  m = m;
  view = record { front = front; ends = ends; counted = full };
  cause = of_item (inr (item, begins, refused)) (omega (arith, begins_some, between_long c log.pages place m)) refl;
}
  where
    begins_some : 1 ≤ length (slots_between c log.pages place m)
    begins_some = omega (arith, ap length begins.is, length-append (spelling item) begins.rest, spelling_some item)

-- and so is a log that reads, where the tail isn't 0
tail_of : (g : Geometry) (ino : ℕ) (log : Log) (k t : ℕ) → IsPaged g log → count log ≡ suc k → t ≡ tail_at log.pages (suc k)
    → (k / 63 ≡ length log.pages - 1) × (0 < length log.pages) × (t / 64 ≡ slice_index log.pages (k / 63)) × (t % 64 ≡ k % 63 + 1)
tail_of g ino log k t paged some e = (omega (arith, paged.fits, some), omega (arith, paged.fits, some), omega (arith, e), omega (arith, e))

pub log_ends : (g : Geometry) (c : List ℕ) (ino : ℕ) (log : Log) → ReadsAs g c ino log → slice_index c (inode_word ino 2) ≢ 0 → Ended g c ino None
log_ends g c ino log is not_zero = by_count (count log) refl
  where
    tail_is : slice_index c (inode_word ino 2) ≡ tail_at log.pages (count log)
    tail_is = is.reads (inode_word ino 2) (tail_at log.pages (count log)) (at_tail refl refl)

    by_count : (n : ℕ) → count log ≡ n → Ended g c ino None
    by_count zero e = absurd (not_zero (tail_is ∙ ap (tail_at log.pages) e))
    by_count (suc k) e =
        let tail = tail_of g ino log k (slice_index c (inode_word ino 2)) is.valid.paged e (tail_is ∙ ap (tail_at log.pages) e) in
        let at_end : EndsAtTail c ino log.pages (suc k) = record {
          some = tail.1;
          met = ap (slice_index log.pages) (sym tail.0) ∙ sym tail.2;
          slots = omega (arith, tail.0, tail.3);
        } in
        record {
          log = log;
          n = suc k;
          m = suc k;
          view = record {
            front = record {
              not_empty = not_zero;
              head = λ some. is.reads (inode_word ino 1) (slice_index log.pages 0) (at_head (omega (arith, e)) refl refl);
              chained = λ j lt. is.reads (512 * slice_index log.pages j + 504) (slice_index log.pages (j + 1)) (at_footer j lt refl refl);
              in_data = is.valid.paged.in_data;
              apart = is.valid.paged.apart;
              before_tail = λ j lt there.
                  let same : j ≡ k / 63 = is.valid.paged.apart j (k / 63) (omega arith) (omega (arith, tail.0, tail.1)) (there ∙ tail.2) in
                  omega (arith, same, tail.0, lt);
              filled = omega (arith, e);
              slots = λ i j lt word. is.reads _ _ (at_slot i j lt word refl refl);
              spelled = is.valid.spelled;
              standing = is.valid.standing;
            };
            ends = inl at_end;
            counted = e;
          };
          cause = of_none at_end refl (λ none. omega (arith, tail.3, none)) refl;
        }

some_one : (p q : ℕ) → Some p ≡ Some q → p ≡ q
some_one p q e = cc

some_none : (p : ℕ) → Some p ≡ None → ⊥
some_none p e = cc

pub one_fault : HasOneFault
one_fault g c ino p q x y = some_one p q (one_end g c ino (Some p) (Some q) (fault_ends g c ino p x) (fault_ends g c ino q y))

front_tail : (g : Geometry) (c : List ℕ) (ino place : ℕ) → LogFault g c ino place → slice_index c (inode_word ino 2) ≢ 0
front_tail g c ino place fault = (fault_ends g c ino place fault).view.front.not_empty

pub log_or_fault : HasLogOrFault
log_or_fault g c ino place log is fault = some_none place (one_end g c ino (Some place) None (fault_ends g c ino place fault)
    (log_ends g c ino log is (front_tail g c ino place fault)))

pub one_log : HasOneLog
one_log g c ino x y is_x is_y =
    let pages = pages_one g ino c x y is_x.valid is_y.valid is_x.reads is_y.reads in
    let items = items_one g ino c x y is_x.valid is_y.valid is_x.reads is_y.reads in
    (λ i. record { pages = pages i; items = items i })
