-- Two readings of one log, each as far as it goes.
use Rattle.std.proofs.Common.{
  ◌≡◌,
  ◌≢◌,
  ◌⊎◌,
  inl,
  inr,
  ⊎_elim,
  ℕ,
  zero,
  suc,
  ◌+◌,
  ◌-◌,
  ◌*◌,
  ◌/◌,
  ◌%◌,
  ◌<◌,
  ◌≤◌,
  List,
  [],
  ◌∷◌,
  ◌++◌,
  length,
  get_or,
  map,
  refl,
  sym,
  ◌∙◌,
  ap,
  subst,
  arith,
  length-append,
  append_assoc,
}
use Rattle.std.specs.Prelude.{slice_index, Contains, Option, Some, None}
use Rattle.std.specs.List.{range_with_len}
use Rattle.std.proofs.lemmas.Bool.{cases_lt}
use Rattle.std.proofs.lemmas.Grind.{same_number_lists}
use Rattle.std.proofs.lemmas.List.{same_lists, get_or_append_left, get_or-append-add, get_or_default}
use Rattle.std.proofs.lemmas.List.FromFn.{length-map-range_with_len, get_or-map-range_with_len}
use Rattle.pm_layout.specs.declared.Geometry.{Geometry}
use Rattle.pm_layout.specs.Geometry.{InData, inode_word}
use Rattle.log_entry.specs.Spelling.{spelled}
use Rattle.log_entry.specs.Fronts.{BeginsItem}
use Rattle.dn_model.specs.Log.{Log, count, log_word, spelled_word}
use Rattle.dn_model.specs.LogFault.{IsFront, EndsAtTail, EndsBeforeTail, slots_between, page_after}
use Rattle.log_walk.specs.Slots.{slot_at, first_slots}
use Rattle.log_walk.specs.Items.{IsBad}
use Rattle.log_walk.proofs.Outcome.{word_listed}
use Rattle.log_walk.proofs.Widths.{spelled_width}

-- n slots of m are filled with items
pub record View (g : Geometry) (c : List ℕ) (ino : ℕ) (log : Log) (n m : ℕ) : Type 0 where
  pub front : IsFront g c ino log m
  pub ends : EndsAtTail c ino log.pages m ⊎ EndsBeforeTail c ino log.pages m
  pub counted : count log ≡ n

-- Why no more are: the place of the fault, or none where the log has no fault.
pub data Cause (g : Geometry) (c : List ℕ) (ino : ℕ) (log : Log) (n m : ℕ) (p : Option ℕ) : Type 0 where
  of_page : EndsBeforeTail c ino log.pages m → BeginsItem (slots_between c log.pages n m)
      → (InData g (page_after c ino log.pages) → Contains log.pages (page_after c ino log.pages)) → p ≡ Some m → Cause g c ino log n m p
  of_tail : EndsAtTail c ino log.pages m → BeginsItem (slots_between c log.pages n m) → (n ≡ m → slice_index c (inode_word ino 2) % 64 ≡ 0)
      → p ≡ Some n → Cause g c ino log n m p
  of_item : IsBad g ino (slots_between c log.pages n m) → n < m → p ≡ Some n → Cause g c ino log n m p
  of_none : EndsAtTail c ino log.pages m → n ≡ m → slice_index c (inode_word ino 2) % 64 ≢ 0 → p ≡ None → Cause g c ino log n m p

pub between_long : (c pages : List ℕ) (n m : ℕ) → length (slots_between c pages n m) ≡ m - n
between_long c pages n m = length-map-range_with_len (slot_at c pages) n (m - n)

pub between_at : (c pages : List ℕ) (n m k : ℕ) (d : List ℕ) → n + k < m → get_or (slots_between c pages n m) k d ≡ slot_at c pages (n + k)
between_at c pages n m k d lt = get_or-map-range_with_len (slot_at c pages) n (m - n) k (n + k) d (omega arith) refl

first_at : (c pages : List ℕ) (m k : ℕ) (d : List ℕ) → k < m → get_or (first_slots c pages m) k d ≡ slot_at c pages k
first_at c pages m k d lt = get_or-map-range_with_len (slot_at c pages) 0 m k k d lt (omega arith)

first_long : (c pages : List ℕ) (m : ℕ) → length (first_slots c pages m) ≡ m
first_long c pages m = length-map-range_with_len (slot_at c pages) 0 m

slot_long : (c pages : List ℕ) (k : ℕ) → length (slot_at c pages k) ≡ 8
slot_long c pages k = length-map-range_with_len (λ (j : ℕ). slice_index c (log_word pages k j)) 0 8

-- all slots are those of the items and what is left
module _ (g : Geometry) (c : List ℕ) (ino : ℕ) (log : Log) (n m : ℕ) (view : View g c ino log n m) where
  n_is : n ≡ length (spelled log.items)
  unfolding count
  n_is = sym view.counted

  pub n_within : n ≤ m
  n_within = omega (arith, view.counted, view.front.filled)

  item_slot : (k : ℕ) → k < length (spelled log.items) → slot_at c log.pages k ≡ get_or (spelled log.items) k []
  unfolding count spelled_word
  item_slot k lt = same_number_lists (slot_at c log.pages k) (get_or (spelled log.items) k [])
      (slot_long c log.pages k ∙ sym (spelled_width log.items k lt))
      (λ j jl. let word : j < 8 = omega (arith, jl, slot_long c log.pages k) in word_listed c log.pages k j word ∙ view.front.slots k j lt word)

  pub slots_split : first_slots c log.pages m ≡ spelled log.items ++ slots_between c log.pages n m
  slots_split =
      same_lists (first_slots c log.pages m) (spelled log.items ++ slots_between c log.pages n m)
      (omega (
        arith,
        first_long c log.pages m,
        length-append (spelled log.items) (slots_between c log.pages n m),
        between_long c log.pages n m,
        n_is,
        n_within,
      ))
      (λ k d lt.
      let near : k < m = omega (arith, lt, first_long c log.pages m) in
      first_at c log.pages m k d near ∙ elim (cases_lt k (length (spelled log.items))) [
        | inl low ↦ item_slot k low ∙ get_or_default (spelled log.items) k [] d low ∙ sym
            (get_or_append_left (spelled log.items) (slots_between c log.pages n m) d k low)
        | inr high ↦
            let e : length (spelled log.items) + (k - length (spelled log.items)) ≡ k = omega arith in
            let e' : n + (k - length (spelled log.items)) ≡ k = omega (arith, n_is, high) in
            ap (slot_at c log.pages) (sym e')
            ∙ sym (between_at c log.pages n m (k - length (spelled log.items)) d (omega (arith, e', near)))
            ∙ sym (get_or-append-add (spelled log.items) (slots_between c log.pages n m) (k - length (spelled log.items)) d)
            ∙ ap (λ (i : ℕ). get_or (spelled log.items ++ slots_between c log.pages n m) i d) e
      ])

  -- these are slots of the pages
  pub m_within : m ≤ 63 * length log.pages
  m_within = ⊎_elim
      (λ (tail : EndsAtTail c ino log.pages m). omega (arith, tail.slots, tail.some))
      (λ (before : EndsBeforeTail c ino log.pages m). omega (arith, before.slots)) view.ends

  pub m_least : 63 * (length log.pages - 1) ≤ m
  m_least = ⊎_elim
      (λ (tail : EndsAtTail c ino log.pages m). omega (arith, tail.slots))
      (λ (before : EndsBeforeTail c ino log.pages m). omega (arith, before.slots)) view.ends

-- two readings have the same pages as far as both go
module _ (g : Geometry) (c : List ℕ) (ino : ℕ) (x : Log) (nx mx : ℕ) (vx : View g c ino x nx mx) (y : Log) (ny my : ℕ) (vy : View g c ino y ny my)
  where
    pub page_agrees : (k : ℕ) → k < length x.pages → k < length y.pages → slice_index x.pages k ≡ slice_index y.pages k
    page_agrees zero kx ky = sym (vx.front.head kx) ∙ vy.front.head ky
    page_agrees (suc k) kx ky =
        let before : slice_index x.pages k ≡ slice_index y.pages k = page_agrees k (omega arith) (omega arith) in
        let one : k + 1 ≡ suc k = omega arith in
        ap (slice_index x.pages) (sym one) ∙ sym (vx.front.chained k (omega arith)) ∙ ap (λ (p : ℕ). slice_index c (512 * p + 504))
        before ∙ vy.front.chained k (omega arith) ∙ ap (slice_index y.pages) one

    -- and the same slots
    pub slots_go_on : mx ≤ my → first_slots c y.pages my ≡ first_slots c x.pages mx ++ slots_between c y.pages mx my
    slots_go_on le =
        same_lists (first_slots c y.pages my) (first_slots c x.pages mx ++ slots_between c y.pages mx my)
        (omega (
          arith,
          le,
          first_long c y.pages my,
          first_long c x.pages mx,
          length-append (first_slots c x.pages mx) (slots_between c y.pages mx my),
          between_long c y.pages mx my,
        ))
        (λ k d lt.
        let near : k < my = omega (arith, lt, first_long c y.pages my) in
        first_at c y.pages my k d near ∙ elim (cases_lt k mx) [
          | inl low ↦
              let page = page_agrees (k / 63) (omega (arith, low, m_within g c ino x nx mx vx)) (omega (arith, near, m_within g c ino y ny my vy)) in
              ap (λ (p : ℕ). map (λ (j : ℕ). slice_index c (512 * p + 8 * (k % 63) + j)) (range_with_len 0 8)) (sym page)
              ∙ sym (first_at c x.pages mx k d low)
              ∙ sym (get_or_append_left (first_slots c x.pages mx) (slots_between c y.pages mx my) d k (omega (arith, low, first_long c x.pages mx)))
          | inr high ↦
              let e : mx + (k - mx) ≡ k = omega arith in
              let e' : length (first_slots c x.pages mx) + (k - mx) ≡ k = omega (arith, first_long c x.pages mx, e) in
              ap (slot_at c y.pages) (sym e)
              ∙ sym (between_at c y.pages mx my (k - mx) d (omega (arith, e, near)))
              ∙ sym (get_or-append-add (first_slots c x.pages mx) (slots_between c y.pages mx my) (k - mx) d)
              ∙ ap (λ (i : ℕ). get_or (first_slots c x.pages mx ++ slots_between c y.pages mx my) i d) e'
        ])

    pub together : mx ≤ my → spelled x.items ++ (slots_between c x.pages nx mx ++ slots_between c y.pages mx my) ≡ spelled y.items ++ slots_between c
        y.pages ny my
    together le =
        sym (append_assoc (spelled x.items) (slots_between c x.pages nx mx) (slots_between c y.pages mx my))
        ∙ ap (λ (ss : List (List ℕ)). ss ++ slots_between c y.pages mx my) (sym (slots_split g c ino x nx mx vx))
        ∙ sym (slots_go_on le) ∙ slots_split g c ino y ny my vy

    -- no reading goes on past the tail's page
    pub at_tail_longest : EndsAtTail c ino x.pages mx → (length y.pages ≤ length x.pages) × (my ≤ mx)
    at_tail_longest tail = (
      long,
      elim (cases_lt (length y.pages) (length x.pages)) [
        | inl less ↦ omega (arith, less, m_within g c ino y ny my vy, tail.slots)
        | inr same ↦ ⊎_elim
            (λ (tail' : EndsAtTail c ino y.pages my). omega (arith, long, same, tail.slots, tail'.slots))
            (λ (before : EndsBeforeTail c ino y.pages my). absurd (before.not_met (omega (arith, tail.some, same))
            (ap (slice_index y.pages) (let e : length y.pages - 1 ≡ length x.pages - 1 = omega (arith, long, same) in e)
            ∙ sym (page_agrees (length x.pages - 1) (omega (arith, tail.some)) (omega (arith, tail.some, same))) ∙ tail.met)))
            vy.ends
      ],
    )
      where
        long : length y.pages ≤ length x.pages
        long = elim (cases_lt (length x.pages) (length y.pages)) [
          | inl more ↦ absurd (vy.front.before_tail (length x.pages - 1) (omega (arith, tail.some, more))
              (sym (page_agrees (length x.pages - 1) (omega (arith, tail.some)) (omega (arith, more))) ∙ tail.met))
          | inr le ↦ le
        ]

    -- nor past a page that can't be the log's
    after_is : (ps : List ℕ) → ((k : ℕ) → k < length ps → slice_index ps k ≡ slice_index y.pages k) → length ps < length y.pages
        → page_after c ino ps ≡ slice_index y.pages (length ps)
    after_is [] agrees more = vy.front.head more
    after_is (p ∷ ps) agrees more =
        let one : length ps + 1 ≡ suc (length ps) = omega arith in
        ap (λ (q : ℕ). slice_index c (512 * q + 504)) (agrees (length ps) (omega arith)) ∙ vy.front.chained (length ps) (omega arith) ∙ ap
        (slice_index y.pages) one

    pub at_bad_longest : EndsBeforeTail c ino x.pages mx → (InData g (page_after c ino x.pages) → Contains x.pages (page_after c ino x.pages))
        → (length y.pages ≤ length x.pages) × (my ≤ mx)
    at_bad_longest before stops =
        let long : length y.pages ≤ length x.pages = elim (cases_lt (length x.pages) (length y.pages)) [
          | inl more ↦
              let next = after_is x.pages (λ k lt. page_agrees k lt (omega (arith, lt, more))) more in
              let met = stops (subst (InData g) (sym next) (vy.front.in_data (length x.pages) more)) in
              let here : slice_index y.pages met.0 ≡ slice_index y.pages (length x.pages) =
              sym (page_agrees met.0 met.1 (omega (arith, met.1, more))) ∙ sym (get_or_default x.pages met.0 (page_after c ino x.pages) 0 met.1) ∙ met.2
              ∙ next in
              let same : met.0 ≡ length x.pages = vy.front.apart met.0 (length x.pages) (omega (arith, met.1, more)) more here in
              absurd (omega (arith, same, met.1))
          | inr le ↦ le
        ] in
        (long, omega (arith, long, m_within g c ino y ny my vy, before.slots))
