-- How many slots names take, and what edits of their entries make of it.
use Rattle.std.proofs.Common.{◌≡◌, ℕ, zero, suc, ◌+◌, ◌-◌, ◌/◌, ◌^◌, ◌<◌, ◌≤◌, List, [], ◌∷◌, cond, length, get_or, set, Some, None, refl, sym, ap, ◌∙◌, inl, inr, arith}
use Rattle.std.specs.List.{insert, remove}
use Rattle.std.specs.Ordering.{is_eq, nat_cmp}
use Rattle.std.specs.declared.cmp.Ordering.{Ordering}
use Rattle.std.specs.declared.cmp.Ordering.TheVariants.{Less, Equal, Greater}
use Rattle.std.specs.Cmp.Lexicographic.{slice_cmp, nat_list_cmp_total}
use Rattle.std.specs.FinMap as maps
use Rattle.std.specs.FinMap.{FinMap, get, find, put, entries, empty, from_entries, entries-insert, get-entries, get-from_entries, len-empty, len-entries, nat_cmp-IsAntisymmetric, slice_cmp-IsAntisymmetric}
use Rattle.std.specs.FinMap.Entries.{by_order}
use Rattle.std.proofs.lemmas.Option.{none-some}
use Rattle.std.proofs.lemmas.Bool.{cases_eq}
use Rattle.std.proofs.lemmas.List.{get_or-set_same, get_or-set_other, length-set}
use Rattle.std.proofs.lemmas.List.Quantifiers.{all_pairs_remove}
use Rattle.std.proofs.lemmas.List.Sums.{sum_by-cons, sum_by-set, sum_by-remove, sum_by-insert}
use Rattle.file_index.specs.Entries.{IsRising, HasKey, IsGap}
use Rattle.file_index.specs.Slots.{slots_of_add, entry_slots, add_slots_of, names_room, AreCounted}
use Rattle.file_index.proofs.Lookups.{find-free, other_below}
use Rattle.file_index.proofs.Placed.{rising_inserted}

-- the order of names
abbrev by_bytes : List ℕ → List ℕ → Ordering
by_bytes = slice_cmp nat_cmp

-- an entry and what it takes
abbrev entry : Type 0
entry = List ℕ × ℕ

abbrev takes : List ℕ × ℕ → ℕ
takes e = slots_of_add e.0

swap_sum : (a b c n : ℕ) → n ≡ a + c → b + n ≡ a + (b + c)
swap_sum a b c n same = omega arith

-- a name that wasn't there is put
pub put_slots : (name : List ℕ) (value : ℕ) (es : List (List ℕ × ℕ)) → find by_bytes name es ≡ None
    → entry_slots (put by_bytes name value es) ≡ slots_of_add name + entry_slots es
put_slots name value [] none = sum_by-cons takes (name, value) []
put_slots name value (e ∷ es) none =
    elim (by_bytes name e.0) as (λ r. cond (is_eq r) (Some e.1) (find by_bytes name es) ≡ None
    → entry_slots (by_order r ((name, value) ∷ e ∷ es) ((e.0, value) ∷ es) (e ∷ put by_bytes name value es)) ≡ slots_of_add name + entry_slots (e ∷ es)) [
      | Less ↦ λ _. sum_by-cons takes (name, value) (e ∷ es)
      | Equal ↦ λ some. absurd (none-some e.1 (sym some))
      | Greater ↦ λ rest.
          sum_by-cons takes e (put by_bytes name value es)
          ∙ swap_sum (slots_of_add name) (takes e) (entry_slots es) (entry_slots (put by_bytes name value es)) (put_slots name value es rest)
          ∙ ap (λ n. slots_of_add name + n) (sym (sum_by-cons takes e es))
    ] none

pub insert_slots : (names : FinMap by_bytes ℕ) (name : List ℕ) (value : ℕ) → get names name ≡ None
    → add_slots_of (maps.insert names name value) ≡ slots_of_add name + add_slots_of names
unfolding add_slots_of
insert_slots names name value none =
    ap entry_slots (entries-insert nat_list_cmp_total names name value)
    ∙ put_slots name value (entries names) (sym (get-entries names name) ∙ none)

no_entries : (es : List (List ℕ × ℕ)) → length es ≡ 0 → entry_slots es ≡ 0
no_entries [] none = refl
no_entries (e ∷ es) none = absurd (omega arith)

pub empty_slots : add_slots_of empty ≡ 0
unfolding add_slots_of
empty_slots = no_entries (entries empty) (sym (len-entries empty) ∙ len-empty by_bytes ℕ)

-- no name stands twice
abbrev pub NoneTwice : List (List ℕ × ℕ) → Type 0
NoneTwice [] = Unit {0}
NoneTwice (e ∷ es) = (find by_bytes e.0 es ≡ None) × NoneTwice es

pub slots_of_entries : (es : List (List ℕ × ℕ)) → NoneTwice es → add_slots_of (from_entries es) ≡ entry_slots es
slots_of_entries [] once = empty_slots
slots_of_entries (e ∷ es) once =
    insert_slots (from_entries es) e.0 e.1 (get-from_entries nat_list_cmp_total es e.0 ∙ once.0)
    ∙ ap (λ n. slots_of_add e.0 + n) (slots_of_entries es once.1) ∙ sym (sum_by-cons takes e es)

rising_once : (es : List (List ℕ × ℕ)) → IsRising by_bytes es → NoneTwice es
rising_once [] rising = tt
rising_once (e ∷ es) rising = (
  find-free by_bytes e.0 es (λ k d lt. other_below by_bytes e.0 (get_or es k d).0 (rising zero (suc k) d (omega arith) (omega arith))),
  rising_once es (λ i j d lt within. rising (suc i) (suc j) d (omega arith) (omega arith)),
)

pub slots_of_map : (es : List (List ℕ × ℕ)) (slots : ℕ) → AreCounted es slots → slots ≡ add_slots_of (from_entries es)
slots_of_map es slots is = is.counted ∙ sym (slots_of_entries es (rising_once es is.rising))

-- edits
module _ (es : List (List ℕ × ℕ)) (at : ℕ) where
  pub slots_inserted : (name : List ℕ) (value : ℕ) → entry_slots (insert es at (name, value)) ≡ entry_slots es + slots_of_add name
  slots_inserted name value = sum_by-insert takes es at (name, value)

  pub slots_removed : (d : List ℕ × ℕ) → at < length es → entry_slots (remove es at) + slots_of_add (get_or es at d).0 ≡ entry_slots es
  slots_removed d within = sum_by-remove takes es at d within

  pub slots_set : (name : List ℕ) (value : ℕ) → HasKey es name at → (e : List ℕ × ℕ) → e.0 ≡ name → entry_slots (set es at e) ≡ entry_slots es
  slots_set name value has e is =
      let same : slots_of_add (get_or es at e).0 ≡ slots_of_add e.0 = ap slots_of_add (has.key_is e ∙ sym is) in
      less (entry_slots (set es at e)) (entry_slots es) (slots_of_add (get_or es at e).0) (slots_of_add e.0) same (sum_by-set takes es at e e has.within)
    where
      less : (a b c d : ℕ) → c ≡ d → a + c ≡ b + d → a ≡ b
      less a b c d same sums = omega arith

-- what is kept of entries after each edit
module _ (es : List (List ℕ × ℕ)) (slots : ℕ) (is : AreCounted es slots) (name : List ℕ) (at : ℕ) where
  set_key : (e : List ℕ × ℕ) → e.0 ≡ name → HasKey es name at → (k : ℕ) (d : List ℕ × ℕ) → (get_or (set es at e) k d).0 ≡ (get_or es k d).0
  set_key e key has k d =
      elim (cases_eq k at) [
        | inl same ↦
            ap (λ i. (get_or (set es at e) i d).0) same ∙ ap (λ (x : List ℕ × ℕ). x.0) (get_or-set_same es at e d has.within)
            ∙ key ∙ sym (ap (λ i. (get_or es i d).0) same ∙ has.key_is d)
        | inr other ↦ ap (λ (x : List ℕ × ℕ). x.0) (get_or-set_other es at k e d other)
      ]

  pub set_counted : (e : List ℕ × ℕ) → e.0 ≡ name → HasKey es name at → AreCounted (set es at e) slots
  set_counted e key has = record {
    rising = λ i j d lt within.
        let first = set_key e key has i d in
        let second = set_key e key has j d in
        (λ t. by_bytes (first t) (second t)) ∙ is.rising i j d lt (omega (arith, within, length-set es at e));
    counted = is.counted ∙ sym (slots_set es at name e.1 has e key);
  }

  pub removed_counted : (gone : List ℕ × ℕ) (took : ℕ) → HasKey es name at → gone ≡ get_or es at gone → took ≡ slots_of_add gone.0
      → (took ≤ slots) × AreCounted (remove es at) (slots - took)
  removed_counted gone took has read took_is =
      let key : gone.0 ≡ (get_or es at gone).0 = ap (λ (x : List ℕ × ℕ). x.0) read in
      let sums = slots_removed es at gone has.within in
      let parts = taken (entry_slots (remove es at)) (slots_of_add (get_or es at gone).0) (entry_slots es) took (slots_of_add gone.0) sums is.counted took_is
      (ap slots_of_add key) in (
        parts.0,
        record { rising = all_pairs_remove (λ a b. by_bytes a.0 b.0 ≡ Less) es at has.within is.rising; counted = parts.1 },
      )
    where
      taken : (rest one all took key : ℕ) → rest + one ≡ all → slots ≡ all → took ≡ key → key ≡ one → (took ≤ slots) × (slots - took ≡ rest)
      taken rest one all took key sums all_is took_is key_is = (omega arith, omega arith)

  pub inserted_counted : (value took : ℕ) → IsGap by_bytes es name at → took ≡ slots_of_add name
      → AreCounted (insert es at (name, value)) (slots + took)
  inserted_counted value took gap took_is = record {
    rising = rising_inserted nat_list_cmp_total (slice_cmp-IsAntisymmetric nat_cmp-IsAntisymmetric) es name at gap value is.rising;
    counted = more (entry_slots es) (slots_of_add name) (entry_slots (insert es at (name, value))) (slots_inserted es at name value) is.counted
        took_is;
  }
    where
      more : (all one sum : ℕ) → sum ≡ all + one → slots ≡ all → took ≡ one → slots + took ≡ sum
      more all one sum sums all_is one_is = omega arith

-- the room
pub room_for_one : (capacity len slots : ℕ) → 0 < names_room capacity len slots → (len < capacity) × (slots + 5 < 2 ^ 64)
room_for_one capacity len slots some = (omega arith, omega arith)

pub room_after_one : (capacity len slots new took : ℕ) → capacity ≤ new → took ≤ 5 → 0 < names_room capacity len slots
    → names_room capacity len slots ≤ names_room new (len + 1) (slots + took) + 1
room_after_one capacity len slots new took grows few some = omega arith

pub room_grows : (capacity len slots new_capacity new_len new_slots : ℕ) → capacity - len ≤ new_capacity - new_len → new_slots ≤ slots
    → names_room capacity len slots ≤ names_room new_capacity new_len new_slots
room_grows capacity len slots new_capacity new_len new_slots more fewer = omega arith

pub room_for : (capacity len slots more : ℕ) → more ≤ (2 ^ 64 - 1 - slots) / 5 → len + more ≤ capacity → more ≤ names_room capacity len slots
room_for capacity len slots more fits holds = omega arith

pub room_short : (capacity len slots more : ℕ) → (2 ^ 64 - 1 - slots) / 5 < more → names_room capacity len slots < more
room_short capacity len slots more short = omega arith
