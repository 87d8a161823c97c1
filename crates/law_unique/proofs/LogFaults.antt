-- A log has its first fault at one place, and none where it may be read.
use Rattle.std.proofs.Common.{
  ◌≡◌,
  ◌≢◌,
  ◌⊎◌,
  inl,
  inr,
  ⊎_elim,
  ℕ,
  zero,
  suc,
  ◌+◌,
  ◌-◌,
  ◌*◌,
  ◌/◌,
  ◌%◌,
  ◌<◌,
  ◌≤◌,
  List,
  [],
  ◌∷◌,
  ◌++◌,
  length,
  get_or,
  map,
  refl,
  sym,
  ◌∙◌,
  ap,
  subst,
  arith,
  length-append,
  append_assoc,
}
use Rattle.std.specs.Prelude.{slice_index, All, Contains}
use Rattle.std.specs.List.{range_with_len}
use Rattle.std.proofs.lemmas.Bool.{cases_lt}
use Rattle.std.proofs.lemmas.Grind.{same_number_lists}
use Rattle.std.proofs.lemmas.List.{nil_from_length, get_or_default}
use Rattle.std.proofs.lemmas.List.FromFn.{length-map-range_with_len, get_or-map-range_with_len, fill_by_all}
use Rattle.std.proofs.lemmas.List.Elements.{All-contains}
use Rattle.pm_device.specs.Reading.{Reads}
use Rattle.pm_layout.specs.declared.Geometry.{Geometry}
use Rattle.pm_layout.specs.Geometry.{InData, inode_word}
use Rattle.log_entry.specs.Spelling.{spelling, spelled}
use Rattle.log_entry.specs.Fronts.{BeginsItem, BeginsWith}
use Rattle.log_entry.specs.declared.item.LogItem.{LogItem}
use Rattle.log_entry.proofs.Unique.{spelling_one}
use Rattle.log_entry.proofs.Spelled.{spelling_some}
use Rattle.log_entry.proofs.Fronts.{part_no_whole}
use Rattle.dn_model.specs.Log.{Log, LogSays, at_tail, at_head, at_footer, at_slot, count, tail_at, log_word, footer_word, spelled_word}
use Rattle.dn_model.specs.Valid.{MayStand, IsLog}
use Rattle.dn_model.specs.LogFault.{
  LogFault,
  bad_page,
  no_slot,
  cut_off,
  no_item,
  misplaced,
  slots_between,
  page_after,
  IsFront,
  EndsAtTail,
  EndsBeforeTail,
}
use Rattle.dn_model.proofs.OneLog.{spelled_width}
use Rattle.law_unique.proofs.Parsing.{front_of, same_rest, map_split, map_range-alike, NextItem, parse_next}

module _ (g : Geometry) (c : List ℕ) (ino : ℕ) where
  abbrev tail : ℕ
  tail = slice_index c (inode_word ino 2)

  abbrev Ends : List ℕ → ℕ → Type 0
  Ends pages m = EndsAtTail c ino pages m ⊎ EndsBeforeTail c ino pages m

  abbrev NoNext : List ℕ → Type 0
  NoNext pages = InData g (page_after c ino pages) → Contains pages (page_after c ino pages)

  ends_bound : (pages : List ℕ) (m : ℕ) → Ends pages m → m ≤ 63 * length pages
  ends_bound pages m (inl e) = omega (arith, e.some, e.slots)
  ends_bound pages m (inr e) = omega (arith, e.slots)

  -- the pages of two walks are the same as far as both go
  pages_agree : (x y : Log) (m n : ℕ) → IsFront g c ino x m → IsFront g c ino y n → (k : ℕ) → k < length x.pages → k < length y.pages
      → slice_index x.pages k ≡ slice_index y.pages k
  pages_agree x y m n fx fy zero kx ky = sym (fx.head kx) ∙ fy.head ky
  pages_agree x y m n fx fy (suc k) kx ky =
      let before : slice_index x.pages k ≡ slice_index y.pages k = pages_agree x y m n fx fy k (omega arith) (omega arith) in
      let one : k + 1 ≡ suc k = omega arith in
      ap (slice_index x.pages) (sym one) ∙ sym (fx.chained k (omega arith)) ∙ ap (λ (p : ℕ). slice_index c (512 * p + 504)) before ∙ fy.chained k
      (omega arith) ∙ ap (slice_index y.pages) one

  -- the page after all pages of the one walk, where the other goes on
  page_after_is : (x y : Log) (m n : ℕ) → IsFront g c ino x m → IsFront g c ino y n → length x.pages < length y.pages
      → page_after c ino x.pages ≡ slice_index y.pages (length x.pages)
  page_after_is x y m n fx fy lt = by_pages x.pages refl
    where
      by_pages : (ps : List ℕ) → x.pages ≡ ps → page_after c ino ps ≡ slice_index y.pages (length ps)
      by_pages [] e = fy.head (omega (arith, lt, ap length e))
      by_pages (p ∷ ps) e =
          let long : length x.pages ≡ length ps + 1 = ap length e ∙ omega arith in
          let last : slice_index (p ∷ ps) (length ps) ≡ slice_index y.pages (length ps) = ap (λ (qs : List ℕ). slice_index qs (length ps))
          (sym e) ∙ pages_agree x y m n fx fy (length ps) (omega (arith, long)) (omega (arith, long, lt)) in
          let one : length ps + 1 ≡ length (p ∷ ps) = omega arith in
          ap (λ (q : ℕ). slice_index c (512 * q + 504)) last ∙ fy.chained (length ps) (omega (arith, long, lt)) ∙ ap (slice_index y.pages) one

  no_longer : (x y : Log) (m n : ℕ) → IsFront g c ino x m → IsFront g c ino y n → NoNext x.pages → length x.pages < length y.pages → ⊥
  no_longer x y m n fx fy none lt =
      let next = page_after_is x y m n fx fy lt in
      let found = none (subst (InData g) (sym next) (fy.in_data (length x.pages) lt)) in
      let here : slice_index x.pages found.0 ≡ page_after c ino x.pages = get_or_default x.pages found.0 0 (page_after c ino x.pages)
      found.1 ∙ found.2 in
      let same : found.0 ≡ length x.pages = fy.apart found.0 (length x.pages) (omega (arith, found.1, lt)) lt
      (sym (pages_agree x y m n fx fy found.0 found.1 (omega (arith, found.1, lt))) ∙ here ∙ next) in
      omega (arith, found.1, same)

  -- a walk goes no further than one that has met the tail's page
  no_past_tail : (x y : Log) (m n : ℕ) → IsFront g c ino x m → IsFront g c ino y n → EndsAtTail c ino x.pages m → length x.pages < length y.pages → ⊥
  no_past_tail x y m n fx fy e lt =
      fy.before_tail (length x.pages - 1) (omega (arith, e.some, lt))
      (sym (pages_agree x y m n fx fy (length x.pages - 1) (omega (arith, e.some)) (omega (arith, e.some, lt))) ∙ e.met)

  data IsLast (pages : List ℕ) (m : ℕ) : Type 0 where
    last_at_tail : EndsAtTail c ino pages m → IsLast pages m
    last_of_all : EndsBeforeTail c ino pages m → NoNext pages → IsLast pages m

  last_ends : (pages : List ℕ) (m : ℕ) → IsLast pages m → Ends pages m
  last_ends pages m (last_at_tail e) = inl e
  last_ends pages m (last_of_all e none) = inr e

  tail_met : (x y : Log) (m n : ℕ) → IsFront g c ino x m → IsFront g c ino y n → EndsAtTail c ino x.pages m → length y.pages ≡ length x.pages
      → slice_index y.pages (length y.pages - 1) ≡ tail / 64
  tail_met x y m n fx fy e same =
      let at : length y.pages - 1 ≡ length x.pages - 1 = omega (arith, same) in
      ap (slice_index y.pages) at ∙ sym (pages_agree x y m n fx fy (length x.pages - 1) (omega (arith, e.some)) (omega (arith, e.some, same))) ∙ e.met

  -- no walk reads more slots than one whose pages are all
  last_longest : (x y : Log) (m n : ℕ) → IsFront g c ino x m → IsFront g c ino y n → IsLast x.pages m → Ends y.pages n → n ≤ m
  last_longest x y m n fx fy (last_at_tail e) ends = elim (cases_lt (length x.pages) (length y.pages)) [
    | inl lt ↦ absurd (no_past_tail x y m n fx fy e lt)
    | inr le ↦ by_ends ends le
  ]
    where
      by_ends : Ends y.pages n → length y.pages ≤ length x.pages → n ≤ m
      by_ends (inl e') le = elim (cases_lt (length y.pages) (length x.pages)) [
        | inl lt ↦ absurd (no_past_tail y x n m fy fx e' lt)
        | inr ge ↦ let same : length y.pages ≡ length x.pages = omega (arith, le, ge) in omega (arith, e.slots, e'.slots, same)
      ]
      by_ends (inr e') le = elim (cases_lt (length y.pages) (length x.pages)) [
        | inl lt ↦ omega (arith, e.slots, e'.slots, lt)
        | inr ge ↦ absurd (e'.not_met (omega (arith, e.some, ge)) (tail_met x y m n fx fy e (omega (arith, le, ge))))
      ]
  last_longest x y m n fx fy (last_of_all e none) ends = elim (cases_lt (length x.pages) (length y.pages)) [
    | inl lt ↦ absurd (no_longer x y m n fx fy none lt)
    | inr le ↦ omega (arith, le, e.slots, ends_bound y.pages n ends)
  ]

  -- not both of one walk at the tail's page, and one that never meets it
  tail_or_all : (x y : Log) (m n : ℕ) → IsFront g c ino x m → IsFront g c ino y n → EndsAtTail c ino x.pages m → EndsBeforeTail c ino y.pages n
      → NoNext y.pages → ⊥
  tail_or_all x y m n fx fy e e' none = elim (cases_lt (length x.pages) (length y.pages)) [
    | inl lt ↦ no_past_tail x y m n fx fy e lt
    | inr le ↦ elim (cases_lt (length y.pages) (length x.pages)) [
      | inl lt ↦ no_longer y x n m fy fx none lt
      | inr ge ↦ e'.not_met (omega (arith, e.some, ge)) (tail_met x y m n fx fy e (omega (arith, le, ge)))
    ]
  ]

  -- the slots of a walk
  abbrev slot : List ℕ → ℕ → List ℕ
  slot pages i = map (λ j. slice_index c (log_word pages i j)) (range_with_len 0 8)

  item_slots : (x : Log) (m : ℕ) → IsFront g c ino x m → spelled x.items ≡ map (slot x.pages) (range_with_len 0 (count x))
  unfolding count spelled_word
  item_slots x m fx = fill_by_all (slot x.pages) (spelled x.items) (length (spelled x.items)) [] refl (λ k lt.
      same_number_lists (get_or (spelled x.items) k []) (slot x.pages k)
      (spelled_width x.items k lt ∙ sym (length-map-range_with_len (λ j. slice_index c (log_word x.pages k j)) 0 8)) (λ j jl.
      let small : j < 8 = omega (arith, jl, spelled_width x.items k lt) in
      let at : 0 + j ≡ j = omega arith in
      sym (fx.slots k j lt small) ∙ sym (get_or-map-range_with_len (λ i. slice_index c (log_word x.pages k i)) 0 8 j j 0 small at)))

  abbrev rest_of : Log → ℕ → List (List ℕ)
  rest_of x m = slots_between c x.pages (count x) m

  whole_slots : (x : Log) (m : ℕ) → IsFront g c ino x m → map (slot x.pages) (range_with_len 0 m) ≡ spelled x.items ++ rest_of x m
  whole_slots x m fx =
      let long : m ≡ count x + (m - count x) = omega (arith, fx.filled) in
      let z : 0 + count x ≡ count x = omega arith in
      ap (λ (n : ℕ). map (slot x.pages) (range_with_len 0 n)) long ∙ map_split (slot x.pages) 0 (count x) (m - count x)
      ∙ ap (λ (ss : List (List ℕ)). ss ++ map (slot x.pages) (range_with_len (0 + count x) (m - count x))) (sym (item_slots x m fx))
      ∙ ap (λ (k : ℕ). spelled x.items ++ map (slot x.pages) (range_with_len k (m - count x))) z

  -- the longer of two walks goes on where the shorter ends
  longer_slots : (x y : Log) (m n : ℕ) → IsFront g c ino x m → IsFront g c ino y n → m ≤ 63 * length x.pages → n ≤ 63 * length y.pages → m ≤ n
      → (more : List (List ℕ)) × (spelled y.items ++ rest_of y n ≡ spelled x.items ++ (rest_of x m ++ more))
  longer_slots x y m n fx fy bx by le =
      let long : n ≡ m + (n - m) = omega (arith, le) in
      let more = map (slot y.pages) (range_with_len (0 + m) (n - m)) in
      let same : map (slot y.pages) (range_with_len 0 m) ≡ map (slot x.pages) (range_with_len 0 m) = map_range-alike (slot y.pages) (slot x.pages) 0 m
      (λ i low high.
      ap (λ (p : ℕ). map (λ j. slice_index c (512 * p + 8 * (i % 63) + j)) (range_with_len 0 8))
      (pages_agree y x n m fy fx (i / 63) (omega (arith, high, by, le)) (omega (arith, high, bx)))) in (
        more,
        sym (whole_slots y n fy) ∙ ap (λ (k : ℕ). map (slot y.pages) (range_with_len 0 k)) long ∙ map_split (slot y.pages) 0 m (n - m)
            ∙ ap (λ (ss : List (List ℕ)). ss ++ more) (same ∙ whole_slots x m fx) ∙ append_assoc (spelled x.items) (rest_of x m) more,
      )

  -- Why a walk stops: at slots that begin nothing, at an item that may not stand there, or at the end of all pages.
  data Halt (x : Log) (m : ℕ) : Type 0 where
    nothing_follows : count x < m → (BeginsItem (rest_of x m) → ⊥) → ((item : LogItem) → BeginsWith item (rest_of x m) → ⊥) → Halt x m
    out_of_place : (item : LogItem) → BeginsWith item (rest_of x m) → (MayStand g ino item → ⊥) → Halt x m
    ended : IsLast x.pages m → (rest_of x m ≡ []) ⊎ BeginsItem (rest_of x m) → Halt x m

  record Stop : Type 0 where
    pub log : Log
    pub m : ℕ
    pub front : IsFront g c ino log m
    pub ends : Ends log.pages m
    pub halt : Halt log m

  no_empty : (item : LogItem) (rest : List (List ℕ)) → spelling item ++ rest ≡ [] → ⊥
  no_empty item rest e = omega (arith, ap length e, length-append (spelling item) rest, spelling_some item)

  begins_with : (items : List LogItem) (ss : List (List ℕ)) → (n : NextItem items ss) → BeginsWith n.item ss
  begins_with items ss n = record { spelled = n.spelled; rest = n.rest; is = n.is }

  -- a walk does not stop before an item that may stand there
  next_not_halted : (x : Log) (m : ℕ) → Halt x m → (items : List LogItem) → All (MayStand g ino) items → NextItem items (rest_of x m) → ⊥
  next_not_halted x m (nothing_follows lt no_part no_whole) items standing n = no_whole n.item (begins_with items (rest_of x m) n)
  next_not_halted x m (out_of_place item w bad) items standing n =
      let same = spelling_one item n.item w.rest n.rest w.spelled n.spelled (sym w.is ∙ n.is) in
      bad (subst (MayStand g ino) (sym same.item) (All-contains (MayStand g ino) items n.item standing n.listed))
  next_not_halted x m (ended last (inl none)) items standing n = no_empty n.item n.rest (sym n.is ∙ none)
  next_not_halted x m (ended last (inr part)) items standing n = part_no_whole (rest_of x m) part n.item (begins_with items (rest_of x m) n)

  -- nor where the slots are the beginning of such an item, if more come
  part_not_halted : (x : Log) (m : ℕ) → Halt x m → (IsLast x.pages m → ⊥) → BeginsItem (rest_of x m) → ⊥
  part_not_halted x m (nothing_follows lt no_part no_whole) more part = no_part part
  part_not_halted x m (out_of_place item w bad) more part = part_no_whole (rest_of x m) part item w
  part_not_halted x m (ended last end) more part = more last

  -- an item that begins slots and what follows them begins the slots, or they are a part of it
  whole_or_part : (items : List LogItem) (ss more : List (List ℕ)) → NextItem items (ss ++ more) → NextItem items ss ⊎ BeginsItem ss
  whole_or_part items ss more n = elim (cases_lt (length ss) (length (spelling n.item))) [
    | inl lt ↦
        let front = front_of (spelling n.item) ss n.rest more (sym n.is) (omega arith) in
        let some : front.0 ≢ [] = λ e. omega (arith, lt, ap length front.1, length-append ss front.0, ap length e) in
        inr (record { item = n.item; spelled = n.spelled; rest = front.0; more = some; is = sym front.1 })
    | inr le ↦
        let front = front_of ss (spelling n.item) more n.rest n.is le in
        inl (record { item = n.item; listed = n.listed; spelled = n.spelled; rest = front.0; is = front.1 })
  ]

  -- so no walk reads more items than one that has stopped
  no_more : (s : Stop) (y : Log) (n : ℕ) → IsFront g c ino y n → Ends y.pages n → count s.log < count y → ⊥
  unfolding count
  no_more s y n fy ends lt = elim (cases_lt s.m n) [
    | inl before ↦
        let longer = longer_slots s.log y s.m n s.front fy (ends_bound s.log.pages s.m s.ends) (ends_bound y.pages n ends) (omega arith) in
        let next = parse_next s.log.items y.items (rest_of s.log s.m ++ longer.0) (rest_of y n) s.front.spelled fy.spelled (sym longer.1) lt in
        ⊎_elim
        (λ (whole : NextItem y.items (rest_of s.log s.m)). next_not_halted s.log s.m s.halt y.items fy.standing whole)
        (λ (part : BeginsItem (rest_of s.log s.m)). part_not_halted s.log s.m s.halt
        (λ last. omega (arith, before, last_longest s.log y s.m n s.front fy last ends)) part)
        (whole_or_part y.items (rest_of s.log s.m) longer.0 next)
    | inr after ↦
        let longer = longer_slots y s.log n s.m fy s.front (ends_bound y.pages n ends) (ends_bound s.log.pages s.m s.ends) after in
        let next = parse_next s.log.items y.items (rest_of s.log s.m) (rest_of y n ++ longer.0) s.front.spelled fy.spelled longer.1 lt in
        next_not_halted s.log s.m s.halt y.items fy.standing next
  ]

  stop_counts : (s t : Stop) → count s.log ≡ count t.log
  stop_counts s t = elim (cases_lt (count s.log) (count t.log)) [
    | inl lt ↦ absurd (no_more s t.log t.m t.front t.ends lt)
    | inr le ↦ elim (cases_lt (count t.log) (count s.log)) [
      | inl lt ↦ absurd (no_more t s.log s.m s.front s.ends lt)
      | inr ge ↦ omega (arith, le, ge)
    ]
  ]

  -- A fault at the slot after the items, or at a bad page after all slots.
  data AtItem (x : Log) (m : ℕ) : Type 0 where
    by_nothing : count x < m → (BeginsItem (rest_of x m) → ⊥) → ((item : LogItem) → BeginsWith item (rest_of x m) → ⊥) → AtItem x m
    by_item : (item : LogItem) → BeginsWith item (rest_of x m) → (MayStand g ino item → ⊥) → AtItem x m
    by_tail : EndsAtTail c ino x.pages m → (count x < m) ⊎ (tail % 64 ≡ 0) → (rest_of x m ≡ []) ⊎ BeginsItem (rest_of x m) → AtItem x m

  data Found (place : ℕ) : Type 0 where
    found_item : (x : Log) (m : ℕ) → IsFront g c ino x m → Ends x.pages m → AtItem x m → count x ≡ place → Found place
    found_page : (x : Log) → IsFront g c ino x place → EndsBeforeTail c ino x.pages place → NoNext x.pages → (rest_of x place ≡ []) ⊎ BeginsItem
        (rest_of x place) → Found place

  at_place : (x : Log) (m place : ℕ) (P : List (List ℕ) → Type 0) → count x ≡ place → P (slots_between c x.pages place m) → P (rest_of x m)
  at_place x m place P e p = subst (λ (k : ℕ). P (slots_between c x.pages k m)) (sym e) p

  none_between : (pages : List ℕ) (k m : ℕ) → m ≤ k → slots_between c pages k m ≡ []
  none_between pages k m le = nil_from_length (slots_between c pages k m) (length-map-range_with_len (slot pages) k (m - k) ∙ omega (arith, le))

  find : (place : ℕ) → LogFault g c ino place → Found place
  find place (bad_page x front ends part none) = found_page x front ends none part
  find place (no_slot x front ends zero_slot e) =
      found_item x place front (inl ends) (by_tail ends (inr zero_slot) (inl (none_between x.pages (count x) place (omega (arith, e))))) e
  find place (cut_off x m front ends e part lt) = found_item x m front (inl ends)
      (by_tail ends (inl (omega (arith, e, lt))) (inr (at_place x m place BeginsItem e part))) e
  find place (no_item x m front ends e lt no_part no_whole) =
      found_item x m front ends (by_nothing (omega (arith, e, lt))
      (at_place x m place (λ ss. BeginsItem ss → ⊥) e no_part)
      (at_place x m place (λ ss. (item : LogItem) → BeginsWith item ss → ⊥) e no_whole)) e
  find place (misplaced x m item front ends e w bad) = found_item x m front ends (by_item item (at_place x m place (BeginsWith item) e w) bad) e

  halt_of : (x : Log) (m : ℕ) → AtItem x m → Halt x m
  halt_of x m (by_nothing lt no_part no_whole) = nothing_follows lt no_part no_whole
  halt_of x m (by_item item w bad) = out_of_place item w bad
  halt_of x m (by_tail ends more part) = ended (last_at_tail ends) part

  item_stop : (x : Log) (m : ℕ) → IsFront g c ino x m → Ends x.pages m → AtItem x m → Stop
  item_stop x m front ends at = record { log = x; m = m; front = front; ends = ends; halt = halt_of x m at }

  page_stop : (x : Log) (m : ℕ) → IsFront g c ino x m → EndsBeforeTail c ino x.pages m → NoNext x.pages → (rest_of x m ≡ []) ⊎ BeginsItem
      (rest_of x m) → Stop
  page_stop x m front ends none part = record { log = x; m = m; front = front; ends = inr ends; halt = ended (last_of_all ends none) part }

  -- not both a fault at a page and one at an item
  module _ (x y : Log) (m n : ℕ) (fx : IsFront g c ino x m) (fy : IsFront g c ino y n) (before : EndsBeforeTail c ino x.pages m)
      (none : NoNext x.pages)
      (part : (rest_of x m ≡ []) ⊎ BeginsItem (rest_of x m)) (ends : Ends y.pages n) (same : count x ≡ count y) where
    shorter : n ≤ m
    shorter = last_longest x y m n fx fy (last_of_all before none) ends

    goes_on : (more : List (List ℕ)) × (rest_of x m ≡ rest_of y n ++ more)
    unfolding count
    goes_on =
        let longer = longer_slots y x n m fy fx (ends_bound y.pages n ends) (ends_bound x.pages m (inr before)) shorter in
        (longer.0, same_rest (spelled x.items) (spelled y.items) (rest_of x m) (rest_of y n ++ longer.0) longer.1 same)

    page_or_item : AtItem y n → ⊥
    page_or_item (by_nothing lt no_part no_whole) = ⊎_elim
        (λ (e : rest_of x m ≡ []). omega (
          arith,
          lt,
          ap length e,
          ap length goes_on.1,
          length-append (rest_of y n) goes_on.0,
          length-map-range_with_len (slot y.pages) (count y) (n - count y),
        ))
        (λ (p : BeginsItem (rest_of x m)). no_part (record {
          item = p.item;
          spelled = p.spelled;
          rest = goes_on.0 ++ p.rest;
          more = λ e. p.more (nil_from_length p.rest (omega (arith, ap length e, length-append goes_on.0 p.rest)));
          is = sym (append_assoc (rest_of y n) goes_on.0 p.rest) ∙ ap (λ (ss : List (List ℕ)). ss ++ p.rest) (sym goes_on.1) ∙ p.is;
        }))
        part
    page_or_item (by_item item w bad) =
        let whole : BeginsWith item (rest_of x m) = record {
          spelled = w.spelled;
          rest = w.rest ++ goes_on.0;
          is = goes_on.1 ∙ ap (λ (ss : List (List ℕ)). ss ++ goes_on.0) w.is ∙ append_assoc (spelling item) w.rest goes_on.0;
        } in
        ⊎_elim
        (λ (e : rest_of x m ≡ []). no_empty item whole.rest (sym whole.is ∙ e))
        (λ (p : BeginsItem (rest_of x m)). part_no_whole (rest_of x m) p item whole)
        part
    page_or_item (by_tail e more p) = tail_or_all y x n m fy fx e before none

  found_one : (p q : ℕ) → Found p → Found q → p ≡ q
  unfolding item_stop page_stop
  found_one p q (found_item x m fx ends at e) (found_item y n fy ends' at' e') = sym e ∙ stop_counts (item_stop x m fx ends at)
      (item_stop y n fy ends' at') ∙ e'
  found_one p q (found_item x m fx ends at e) (found_page y fy ends' none part) =
      absurd (page_or_item y x q m fy fx ends' none part ends (stop_counts (page_stop y q fy ends' none part) (item_stop x m fx ends at)) at)
  found_one p q (found_page x fx ends none part) (found_item y n fy ends' at' e') =
      absurd (page_or_item x y p n fx fy ends none part ends' (stop_counts (page_stop x p fx ends none part) (item_stop y n fy ends' at')) at')
  found_one p q (found_page x fx ends none part) (found_page y fy ends' none' part') =
      let le = last_longest x y p q fx fy (last_of_all ends none) (inr ends') in
      let ge = last_longest y x q p fy fx (last_of_all ends' none') (inr ends) in
      omega (arith, le, ge)

  pub log_fault_one : (p q : ℕ) → LogFault g c ino p → LogFault g c ino q → p ≡ q
  log_fault_one p q x y = found_one p q (find p x) (find q y)

  -- A log that may be read has no fault.
  module _ (x : Log) (is : IsLog g ino x) (reads : Reads (LogSays ino x) c) where
    tail_is : tail ≡ tail_at x.pages (count x)
    tail_is = reads (inode_word ino 2) (tail_at x.pages (count x)) (at_tail refl refl)

    module _ (n : ℕ) (some : count x ≡ suc n) where
      tail_some : tail ≡ slice_index x.pages (n / 63) * 64 + n % 63 + 1
      tail_some = tail_is ∙ ap (tail_at x.pages) some

      last_page : length x.pages - 1 ≡ n / 63
      last_page = omega (arith, is.paged.fits, some)

      met : slice_index x.pages (length x.pages - 1) ≡ tail / 64
      met = ap (slice_index x.pages) last_page ∙ omega (arith, tail_some)

      good_front : IsFront g c ino x (count x)
      good_front = record {
        not_empty = λ e. omega (arith, e, tail_some);
        head = λ lt. reads (inode_word ino 1) (slice_index x.pages 0) (at_head (omega (arith, some)) refl refl);
        chained = λ k lt. reads (footer_word x.pages k) (slice_index x.pages (k + 1)) (at_footer k lt refl refl);
        in_data = is.paged.in_data;
        apart = is.paged.apart;
        before_tail = λ k lt e. let same = is.paged.apart k (length x.pages - 1) (omega (arith, lt)) (omega (arith, lt)) (e ∙ sym met) in
            omega (arith, lt, same);
        filled = omega arith;
        slots = λ k j kl jl. reads (log_word x.pages k j) (spelled_word x k j) (at_slot k j kl jl refl refl);
        spelled = is.spelled;
        standing = is.standing;
      }

      good_ends : EndsAtTail c ino x.pages (count x)
      good_ends = record {
        some = omega (arith, is.paged.fits, some);
        met = met;
        slots = omega (arith, some, last_page, tail_some);
      }

      good_stop : Stop
      good_stop = record {
        log = x;
        m = count x;
        front = good_front;
        ends = inl good_ends;
        halt = ended (last_at_tail good_ends) (inl (none_between x.pages (count x) (count x) (omega arith)));
      }

      at_item_none : (y : Log) (m : ℕ) → IsFront g c ino y m → Ends y.pages m → AtItem y m → ⊥
      unfolding item_stop good_stop
      at_item_none y m fy ends at = by_cause at
        where
          same : count y ≡ count x
          same = stop_counts (item_stop y m fy ends at) good_stop

          no_rest : m ≤ count y
          no_rest = omega (arith, same, last_longest x y (count x) m good_front fy (last_at_tail good_ends) ends)

          by_cause : AtItem y m → ⊥
          by_cause (by_nothing lt no_part no_whole) = omega (arith, lt, no_rest)
          by_cause (by_item item w bad) = no_empty item w.rest (sym w.is ∙ none_between y.pages (count y) m no_rest)
          by_cause (by_tail e (inl lt) part) = omega (arith, lt, no_rest)
          by_cause (by_tail e (inr zero_slot) part) = omega (arith, zero_slot, tail_some)

      found_none : (p : ℕ) → Found p → ⊥
      found_none p (found_item y m fy ends at e) = at_item_none y m fy ends at
      found_none p (found_page y fy ends none part) = tail_or_all x y (count x) p good_front fy good_ends ends none

    not_empty_of : (p : ℕ) → Found p → tail ≢ 0
    not_empty_of p (found_item y m fy ends at e) = fy.not_empty
    not_empty_of p (found_page y fy ends none part) = fy.not_empty

    pub log_fault_none : (p : ℕ) → LogFault g c ino p → ⊥
    log_fault_none p fault = by_count (count x) refl
      where
        by_count : (n : ℕ) → count x ≡ n → ⊥
        by_count zero none = not_empty_of p (find p fault) (tail_is ∙ ap (tail_at x.pages) none)
        by_count (suc n) some = found_none n some p (find p fault)
