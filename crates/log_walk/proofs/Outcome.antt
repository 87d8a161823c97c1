-- What is read of a log is a log without a fault, or shows its first fault.
use Rattle.std.proofs.Common.{
  ◌≡◌,
  ◌≢◌,
  ◌⊎◌,
  inl,
  inr,
  ⊎_elim,
  ℕ,
  zero,
  suc,
  ◌+◌,
  ◌-◌,
  ◌*◌,
  ◌/◌,
  ◌%◌,
  ◌<◌,
  ◌≤◌,
  Bool,
  true,
  false,
  List,
  [],
  ◌∷◌,
  length,
  get_or,
  map,
  drop,
  refl,
  sym,
  ◌∙◌,
  ap,
  subst,
  arith,
  length-append,
}
use Rattle.std.specs.Prelude.{slice_index, Contains, Option, Some, None, IfSome, IfNone, nat_eq, if◌then◌else◌}
use Rattle.std.proofs.lemmas.Bool.Decides.{nat_tests}
use Rattle.std.proofs.lemmas.List.{same_lists, get_or_append_left, get_or-drop, length-drop}
use Rattle.std.proofs.lemmas.List.FromFn.{length-map-range_with_len, get_or-map-range_with_len}
use Rattle.pm_device.specs.Reading.{Reads}
use Rattle.pm_layout.specs.declared.Geometry.{Geometry}
use Rattle.pm_layout.specs.Geometry.{InData, inode_word}
use Rattle.log_entry.specs.Spelling.{spelled}
use Rattle.log_entry.specs.Fronts.{BeginsItem, BeginsWith, BeginsNothing}
use Rattle.log_entry.specs.declared.item.LogItem.{LogItem}
use Rattle.dn_model.specs.Log.{Log, LogSays, at_tail, at_head, at_footer, at_slot, count, tail_at, log_word, spelled_word}
use Rattle.dn_model.specs.LogFault.{
  LogFault,
  bad_page,
  no_slot,
  cut_off,
  no_item,
  misplaced,
  IsFront,
  EndsAtTail,
  EndsBeforeTail,
  slots_between,
  page_after,
}
use Rattle.dn_model.specs.Valid.{MayStand}
use Rattle.log_walk.specs.Way.{IsPart, IsWhole, IsStopped, EndsSo, next_page}
use Rattle.log_walk.specs.Slots.{slot_at, first_slots}
use Rattle.log_walk.specs.Items.{item_of, AreFront, IsBad, IsEnd}
use Rattle.log_walk.specs.Walk.{HasWholeLog, fault_place, slots_before}
use Rattle.log_walk.specs.declared.items.Placed.{Placed as PlacedItem}
use Rattle.log_walk.specs.declared.items.End.{End}
use Rattle.log_walk.specs.declared.items.End.TheVariants.{Filled, Cut, Bad}

-- a slot is read as it is listed
pub slot_listed : (c pages : List ℕ) (m k : ℕ) → k < m → get_or (first_slots c pages m) k [] ≡ slot_at c pages k
slot_listed c pages m k lt = get_or-map-range_with_len (slot_at c pages) 0 m k k [] lt (omega arith)

pub word_listed : (c pages : List ℕ) (k j : ℕ) → j < 8 → slice_index (slot_at c pages k) j ≡ slice_index c (log_word pages k j)
word_listed c pages k j lt = get_or-map-range_with_len (λ (i : ℕ). slice_index c (log_word pages k i)) 0 8 j j 0 lt (omega arith)

-- the slots from the n-th on
pub slots_left : (c pages : List ℕ) (n m : ℕ) → drop n (first_slots c pages m) ≡ slots_between c pages n m
slots_left c pages n m =
    same_lists (drop n (first_slots c pages m)) (slots_between c pages n m)
    (length-drop n (first_slots c pages m) ∙ ap (λ (l : ℕ). l - n) (length-map-range_with_len (slot_at c pages) 0 m) ∙ sym
    (length-map-range_with_len (slot_at c pages) n (m - n)))
    (λ k d lt.
    let near : k < m - n = omega (arith, lt, length-drop n (first_slots c pages m), length-map-range_with_len (slot_at c pages) 0 m) in
    get_or-drop n (first_slots c pages m) k d
    ∙ get_or-map-range_with_len (slot_at c pages) 0 m (n + k) (n + k) d (omega arith) (omega arith)
    ∙ sym (get_or-map-range_with_len (slot_at c pages) n (m - n) k (n + k) d near refl))

-- the answer by the place of a fault
abbrev pub Outcome : Geometry → List ℕ → ℕ → List ℕ → List PlacedItem → Option ℕ → Type 0
Outcome g c ino pages items None = HasWholeLog g c ino pages items
Outcome g c ino pages items (Some place) = LogFault g c ino place

module _ (g : Geometry) (c : List ℕ) (ino head tail : ℕ) (pages : List ℕ) (items : List PlacedItem) (n m : ℕ)
    (head_is : head ≡ slice_index c (inode_word ino 1)) (tail_is : tail ≡ slice_index c (inode_word ino 2)) (some : 0 < tail)
    (part : IsPart g c head (tail / 64) pages) (front : AreFront g ino pages (first_slots c pages m) items n) where
  abbrev its : List LogItem
  its = map item_of items

  abbrev log : Log
  log = record { pages = pages; items = its }

  count_is : count log ≡ n
  unfolding count
  count_is = sym front.fill.long

  all_slots : length (first_slots c pages m) ≡ m
  all_slots = length-map-range_with_len (slot_at c pages) 0 m

  within : n ≤ m
  within = omega (arith, ap length front.fill.front, length-append (spelled its) (drop n (first_slots c pages m)), all_slots, front.fill.long)

  filled_slot : (k j : ℕ) → k < count log → j < 8 → slice_index c (log_word pages k j) ≡ spelled_word log k j
  unfolding count spelled_word
  filled_slot k j lt word =
      let near : k < m = omega (arith, within, front.fill.long) in
      sym (word_listed c pages k j word)
      ∙ ap (λ (s : List ℕ). slice_index s j) (sym (slot_listed c pages m k near))
      ∙ ap (λ (ss : List (List ℕ)). slice_index (get_or ss k []) j) front.fill.front
      ∙ ap (λ (s : List ℕ). slice_index s j) (get_or_append_left (spelled its) (drop n (first_slots c pages m)) [] k lt)

  is_front : IsFront g c ino log m
  is_front = record {
    not_empty = λ none. omega (arith, some, tail_is, none);
    head = λ there. sym head_is ∙ part.starts there;
    chained = part.chained;
    in_data = part.in_data;
    apart = part.apart;
    before_tail = λ k lt e. part.not_last k lt (e ∙ ap (λ (t : ℕ). t / 64) (sym tail_is));
    filled = omega (arith, count_is, within);
    slots = filled_slot;
    spelled = front.fill.are_spelled;
    standing = front.fill.standing;
  }

  left_is : drop n (first_slots c pages m) ≡ slots_between c pages n m
  left_is = slots_left c pages n m

  left_long : length (drop n (first_slots c pages m)) ≡ m - n
  left_long = length-drop n (first_slots c pages m) ∙ ap (λ (l : ℕ). l - n) all_slots

  left_from_count : drop n (first_slots c pages m) ≡ slots_between c pages (count log) m
  left_from_count = left_is ∙ ap (λ (k : ℕ). slots_between c pages k m) (sym count_is)

  at_tail_end : IsWhole (tail / 64) pages → m ≡ slots_before (length pages) true tail → EndsAtTail c ino pages m
  at_tail_end whole long = record {
    some = whole.some;
    met = whole.ends ∙ ap (λ (t : ℕ). t / 64) tail_is;
    slots = long ∙ ap (λ (t : ℕ). 63 * (length pages - 1) + t % 64) tail_is;
  }

  before_tail_end : IsStopped g c head (tail / 64) pages → m ≡ slots_before (length pages) false tail → EndsBeforeTail c ino pages m
  before_tail_end stopped long = record {
    not_met = λ there e. stopped.not_met (length pages - 1) (omega arith) (e ∙ ap (λ (t : ℕ). t / 64) (sym tail_is));
    slots = long;
  }

  next_is : (ps : List ℕ) → next_page c head ps ≡ page_after c ino ps
  next_is [] = head_is
  next_is (p ∷ ps) = refl

  stopped_page : IsStopped g c head (tail / 64) pages → InData g (page_after c ino pages) → Contains pages (page_after c ino pages)
  stopped_page stopped = subst (λ (p : ℕ). InData g p → Contains pages p) (next_is pages) stopped.stops

  -- an item that isn't one, or may not stand there
  bad_item : EndsAtTail c ino pages m ⊎ EndsBeforeTail c ino pages m → IsBad g ino (drop n (first_slots c pages m))
      → 0 < length (drop n (first_slots c pages m)) → LogFault g c ino n
  bad_item ends bad more =
      let bad_there : IsBad g ino (slots_between c pages n m) = subst (IsBad g ino) left_is bad in
      ⊎_elim
      (λ (nothing : BeginsNothing (slots_between c pages n m)). no_item log m is_front ends count_is (omega (arith, more, left_long)) nothing.no_part
      nothing.no_whole)
      (λ (item : (item : LogItem) × BeginsWith item (slots_between c pages n m) × (MayStand g ino item → ⊥)). misplaced log m item.0 is_front ends
      count_is item.1 item.2)
      bad_there

  -- the tail, by its page and its slot
  tail_place : (l t k : ℕ) → l ≡ k → 0 < l → l ≡ 63 * (length pages - 1) + t % 64 → t % 64 ≢ 0 → 0 < length pages
      → slice_index pages (length pages - 1) ≡ t / 64 → t ≡ tail_at pages k
  tail_place l t zero e more long not_zero there ends = absurd (omega arith)
  tail_place l t (suc k) e more long not_zero there ends =
      let page : k / 63 ≡ length pages - 1 = omega (arith, e, long, not_zero) in
      let place : k % 63 + 1 ≡ t % 64 = omega (arith, e, long, not_zero) in
      omega (arith, ap (slice_index pages) page, ends, place)

  whole_log : IsWhole (tail / 64) pages → m ≡ slots_before (length pages) true tail → drop n (first_slots c pages m) ≡ [] → tail % 64 ≢ 0
      → HasWholeLog g c ino pages items
  whole_log whole long all not_zero =
      let full : n ≡ m = omega (arith, within, ap length all, left_long) in
      let fits : length pages ≡ (count log + 62) / 63 = omega (arith, count_is, full, long, not_zero, whole.some) in
      record {
        log = log;
        reads = reads full;
        valid = record {
          paged = record { fits = fits; in_data = part.in_data; apart = part.apart };
          spelled = front.fill.are_spelled;
          standing = front.fill.standing;
        };
        pages_are = refl;
        items_are = front.places;
      }
    where
      reads : n ≡ m → Reads (LogSays ino log) c
      reads full a v (at_tail place value) =
          ap (slice_index c) place ∙ sym tail_is
          ∙ tail_place m tail (count log) (sym full ∙ sym count_is) (omega (arith, long, not_zero)) long not_zero whole.some whole.ends ∙ sym value
      reads full a v (at_head there place value) = ap (slice_index c) place ∙ sym head_is ∙ part.starts whole.some ∙ sym value
      reads full a v (at_footer k lt place value) = ap (slice_index c) place ∙ part.chained k lt ∙ sym value
      reads full a v (at_slot k j lt word place value) = ap (slice_index c) place ∙ filled_slot k j lt word ∙ sym value

  by_slot : (b : Bool) → nat_eq (tail % 64) 0 ≡ b → IsWhole (tail / 64) pages → m ≡ slots_before (length pages) true tail
      → drop n (first_slots c pages m) ≡ []
      → Outcome g c ino pages items (if b then Some m else None)
  by_slot true test whole long all =
      let at_zero : tail % 64 ≡ 0 = grind (arith, nat_tests) in
      let full : count log ≡ m = omega (arith, count_is, within, ap length all, left_long) in
      no_slot log is_front (at_tail_end whole long) (ap (λ (t : ℕ). t % 64) (sym tail_is) ∙ at_zero) full
  by_slot false test whole long all = let not_zero : tail % 64 ≢ 0 = grind (arith, nat_tests) in whole_log whole long all not_zero

  pub outcome : (end : End) (whole : Bool) → EndsSo g c head (tail / 64) pages whole → m ≡ slots_before (length pages) whole tail
      → IsEnd g ino (drop n (first_slots c pages m)) end
      → Outcome g c ino pages items (fault_place end whole (tail % 64) n m)
  outcome Bad true ends long bad = bad_item (inl (at_tail_end ends long)) bad.0 bad.1
  outcome Bad false ends long bad = bad_item (inr (before_tail_end ends long)) bad.0 bad.1
  outcome Cut true ends long cut =
      cut_off log m is_front (at_tail_end ends long) count_is (subst BeginsItem left_is cut.0) (omega (arith, cut.1, left_long))
  outcome Cut false ends long cut = bad_page log is_front (before_tail_end ends long) (inr (subst BeginsItem left_from_count cut.0))
      (stopped_page ends)
  outcome Filled false ends long all = bad_page log is_front (before_tail_end ends long) (inl (sym left_from_count ∙ all)) (stopped_page ends)
  outcome Filled true ends long all = by_slot (nat_eq (tail % 64) 0) refl ends long all

-- the slots to be read are there
pub slots_within : (g : Geometry) (c : List ℕ) (head last tail : ℕ) (pages : List ℕ) (whole : Bool) → EndsSo g c head last pages whole
    → slots_before (length pages) whole tail ≤ 63 * length pages
slots_within g c head last tail pages true ends = omega (arith, ends.some)
slots_within g c head last tail pages false ends = omega arith

module _ (g : Geometry) (c : List ℕ) (ino : ℕ) (pages : List ℕ) (items : List PlacedItem) where
  pub log_of : (place : Option ℕ) → Outcome g c ino pages items place → IfNone place (HasWholeLog g c ino pages items)
  log_of None is = is
  log_of (Some place) is = tt

  pub fault_of : (place : Option ℕ) → Outcome g c ino pages items place → IfSome place (λ p. LogFault g c ino p)
  fault_of None is = tt
  fault_of (Some place) is = is

-- a log whose tail is 0 has no items
pub empty_log : (g : Geometry) (c : List ℕ) (ino : ℕ) → slice_index c (inode_word ino 2) ≡ 0 → HasWholeLog g c ino [] []
unfolding count
empty_log g c ino none = record {
  log = record { pages = []; items = [] };
  reads = reads;
  valid = record {
    paged = record { fits = refl; in_data = λ k lt. absurd (omega arith); apart = λ j k jl. absurd (omega arith) };
    spelled = λ k d lt. absurd (omega arith);
    standing = λ k d lt. absurd (omega arith);
  };
  pages_are = refl;
  items_are = refl;
}
  where
    reads : Reads (LogSays ino (record { pages = []; items = [] })) c
    reads a v (at_tail place value) = ap (slice_index c) place ∙ none ∙ sym value
    reads a v (at_head there place value) = absurd (omega arith)
    reads a v (at_footer k lt place value) = absurd (omega arith)
    reads a v (at_slot k j lt word place value) = absurd (omega arith)
