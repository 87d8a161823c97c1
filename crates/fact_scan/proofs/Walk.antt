-- A chain is read: a row is taken, or the table has its fault there, and at its end it is one of the chains.
use Rattle.std.proofs.Common.{
  ◌≡◌,
  ◌≢◌,
  ◌⊎◌,
  inl,
  inr,
  ℕ,
  suc,
  ◌+◌,
  ◌-◌,
  ◌<◌,
  ◌≤◌,
  Bool,
  true,
  false,
  List,
  [],
  ◌∷◌,
  ◌++◌,
  length,
  refl,
  sym,
  ◌∙◌,
  ap,
  subst,
  arith,
  length-append,
  append-nil,
  append_assoc,
}
use Rattle.std.specs.Prelude.{slice_index, slice_get, Some, Contains, if◌then◌else◌, ◌==◌}
use Rattle.std.specs.List.{list_any}
use Rattle.std.specs.Ordering.{nat_cmp, is_eq}
use Rattle.std.specs.Cmp.Lexicographic.{slice_cmp}
use Rattle.std.specs.BTreeMap.{is_at}
use Rattle.std.proofs.lemmas.Bool.{cases_lt, cases_eq, false≢true}
use Rattle.std.proofs.lemmas.Bool.Decides.{nat_tests}
use Rattle.std.proofs.lemmas.List.{nil_from_length}
use Rattle.std.proofs.lemmas.List.Elements.{Contains-append_cases}
use Rattle.std.specs.Cmp.{Equal-is}
use Rattle.std.proofs.lemmas.Cmp.{tied_itself, nat_list_cmp_total}
use Rattle.std.proofs.lemmas.Map.Lookups.{exact_bytes}
use Rattle.pm_device.specs.Reading.{Reads}
use Rattle.pm_layout.specs.declared.Geometry.{Geometry}
use Rattle.pm_layout.specs.Geometry.{directs, slot_word, first_data}
use Rattle.page_alloc.specs.Free.{FreePages}
use Rattle.dn_model.specs.Table.{
  Row,
  RowsSay,
  ChainSays,
  at_direct_page,
  at_direct_next,
  at_row,
  rows_from,
  prefix_of,
  first_slot,
  chained,
  direct_page_word,
}
use Rattle.dn_model.specs.Valid.{IsRow, AreApart}
use Rattle.dn_model.specs.Faults.{
  RowStands,
  IsTableFront,
  ComesNext,
  direct_row,
  first_chained,
  after_row,
  IsDirectNext,
  IsIndirect,
  StartsAt,
  starts_direct,
  starts_chained,
  IsReached,
  TableFault,
  no_row,
  no_next,
}
use Rattle.fact_scan.specs.declared.found.Found.{Found}
use Rattle.fact_scan.specs.declared.scan.ScanFault.{ScanFault}
use Rattle.fact_scan.specs.declared.scan.ScanFault.TheVariants.{BadTable, NoMemory}
use Rattle.fact_scan.specs.Scan.{IsFaultOf}
use Rattle.fact_scan.specs.Found.{IsRefusal, rows_of, has_print, IsMarked, IsFoundTo, MayCome, Adds, TakesRow, IsAt, IsOnChain}
use Rattle.fact_scan.proofs.Listed.{chain_of}
use Rattle.fact_scan.proofs.Pushed.{
  get-push_cases,
  in-push_cases,
  in-push_old,
  in-push_new,
  in-append_right,
  last_differs,
  apart-push,
  rows_read,
  put_chain,
  put_here,
  put_other,
  rows_from-put,
}

first_data-some : (g : Geometry) → 0 < first_data g
unfolding first_data
first_data-some g = omega arith

-- a list that ends in a row isn't empty
not_empty : (xs : List Row) (x : Row) → [] ≡ xs ++ x ∷ [] → ⊥
not_empty xs x e = omega (arith, ap length e, length-append xs (x ∷ []))

-- a number is a set's, where one more is in it
module _ (n : ℕ) (old new : List ℕ) (there : Contains new n) (others : (q : ℕ) → q ≢ n → (Contains new q → Contains old q) × (Contains old q
    → Contains new q)) where
  old_in : (q : ℕ) → Contains old q → Contains new q
  old_in q has = elim (cases_eq q n) [
    | inl e ↦ subst (Contains new) (sym e) there
    | inr ne ↦ (others q ne).1 has
  ]

  in_old : (q : ℕ) → Contains new q → (q ≡ n) ⊎ Contains old q
  in_old q has = elim (cases_eq q n) [
    | inl e ↦ inl e
    | inr ne ↦ inr ((others q ne).0 has)
  ]

-- one row more is marked
marked-add : (g : Geometry) (row : Row) (f f' : Found) → IsMarked g f → Adds g row f f' → IsMarked g f'
marked-add g row f f' marked adds = record {
  all_slots = all_slots;
  all_pages = adds.pages.pages ∙ marked.all_pages;
  slot_marked = λ s there far. slot_marked s (in-push_cases (rows_of f) row s (subst (λ (rs : List Row). Contains rs s) adds.rows there)) far;
  marked_slot = marked_slot;
  page_marked = λ s there. page_marked s (in-push_cases (rows_of f) row s (subst (λ (rs : List Row). Contains rs s) adds.rows there));
  marked_page = marked_page;
}
  where
    into : (s : Row) → Contains (rows_of f) s → Contains (rows_of f') s
    into s there = subst (λ (rs : List Row). Contains rs s) (sym adds.rows) (in-push_old (rows_of f) row s there)

    here : Contains (rows_of f') row
    here = subst (λ (rs : List Row). Contains rs row) (sym adds.rows) (in-push_new (rows_of f) row)

    all_slots : f'.slots.pages ≡ g.pages
    all_slots = elim (cases_lt row.slot (directs g)) [
      | inl direct ↦ ap (λ (s : FreePages). s.pages) (adds.same_slots direct) ∙ marked.all_slots
      | inr far ↦ (adds.slots far).pages ∙ marked.all_slots
    ]

    old_slot : (k : ℕ) → Contains f.slots.free k → Contains f'.slots.free k
    old_slot k has = elim (cases_lt row.slot (directs g)) [
      | inl direct ↦ subst (λ (s : FreePages). Contains s.free k) (sym (adds.same_slots direct)) has
      | inr far ↦ let gives = adds.slots far in old_in (row.slot - directs g) f.slots.free f'.slots.free gives.there gives.others k has
    ]

    slot_marked : (s : Row) → Contains (rows_of f) s ⊎ (row ≡ s) → directs g ≤ s.slot → Contains f'.slots.free (s.slot - directs g)
    slot_marked s (inl old) far = old_slot (s.slot - directs g) (marked.slot_marked s old far)
    slot_marked s (inr same) far =
        let e : row.slot ≡ s.slot = ap (λ (r : Row). r.slot) same in
        let gives = adds.slots (omega (arith, far, e)) in
        subst (λ (n : ℕ). Contains f'.slots.free (n - directs g)) e gives.there

    marked_slot : (k : ℕ) → Contains f'.slots.free k → (s : Row) × Contains (rows_of f') s × (s.slot ≡ directs g + k)
    marked_slot k has = elim (cases_lt row.slot (directs g)) [
      | inl direct ↦ let old = marked.marked_slot k (subst (λ (s : FreePages). Contains s.free k) (adds.same_slots direct) has) in
          (old.0, into old.0 old.1, old.2)
      | inr far ↦
          let gives = adds.slots far in
          elim (in_old (row.slot - directs g) f.slots.free f'.slots.free gives.there gives.others k has) [
            | inl e ↦ (row, here, omega (arith, e, far))
            | inr has_old ↦ let old = marked.marked_slot k has_old in (old.0, into old.0 old.1, old.2)
          ]
    ]

    page_marked : (s : Row) → Contains (rows_of f) s ⊎ (row ≡ s) → Contains f'.pages.free s.page
    page_marked s (inl old) = old_in row.page f.pages.free f'.pages.free adds.pages.there adds.pages.others s.page (marked.page_marked s old)
    page_marked s (inr same) = subst (λ (r : Row). Contains f'.pages.free r.page) same adds.pages.there

    marked_page : (p : ℕ) → Contains f'.pages.free p → (s : Row) × Contains (rows_of f') s × (s.page ≡ p)
    marked_page p has = elim (in_old row.page f.pages.free f'.pages.free adds.pages.there adds.pages.others p has) [
      | inl e ↦ (row, here, sym e)
      | inr has_old ↦ let old = marked.marked_page p has_old in (old.0, into old.0 old.1, old.2)
    ]

-- a print is that of its own look-up
same_print : (print : List ℕ) → is_at (slice_cmp nat_cmp print) print ≡ true
same_print print = ap is_eq (tied_itself nat_list_cmp_total print)

print_found : (print q : List ℕ) → is_at (slice_cmp nat_cmp print) q ≡ true → print ≡ q
print_found print q e = exact_bytes print q ((Equal-is (slice_cmp nat_cmp print q)).0 e)

module _ (g : Geometry) (words : List ℕ) (prefix : ℕ) (chain : ℕ → List Row) (own : List Row) (f : Found) (at : IsAt g words prefix chain own f) where
  abbrev front : IsTableFront g words chain prefix own
  front = at.reached.front

  abbrev before : List Row
  before = rows_from chain 0 prefix

  in_found : (s : Row) → Contains (before ++ own) s → Contains (rows_of f) s
  in_found s there = subst (λ (rs : List Row). Contains rs s) (sym at.rows_are) there

  from_found : (s : Row) → Contains (rows_of f) s → Contains (before ++ own) s
  from_found s there = subst (λ (rs : List Row). Contains rs s) at.rows_are there

  -- a row of a chain before
  earlier : (s : Row) → Contains before s → (q : ℕ) × (k : ℕ) × (q < prefix) × IsRow g q k s
  earlier s there =
      let found = chain_of chain 0 prefix s there in
      let lt : found.prefix < prefix = omega (arith, found.lt) in
      (found.prefix, found.place, lt, front.before found.prefix found.place s lt found.got)

  module _ (holder slot : ℕ) (comes : ComesNext g words prefix own holder slot) (place : IsDirectNext g words prefix own ⊎ IsIndirect g slot) where
    direct_slot : IsDirectNext g words prefix own → slot ≡ prefix
    direct_slot direct = by_next comes
      where
        by_next : ComesNext g words prefix own holder slot → slot ≡ prefix
        by_next (direct_row none some h e) = e
        by_next (first_chained none page h e) = absurd (direct.1 page)
        by_next (after_row fr r is h e) = absurd (not_empty fr r (sym direct.0 ∙ is))

    -- no row may come, so the table has its fault here
    refuses : ((row : Row) → MayCome g words prefix slot f row → ⊥) → TableFault g words slot
    refuses none = no_row chain prefix own holder at.reached comes place bad
      where
        bad : (row : Row) → RowStands g words slot row → IsRow g prefix (length own) row → AreApart (before ++ own ++ row ∷ []) → ⊥
        bad row stands is apart = none row (record {
          stands = stands;
          data_page = is.data_page;
          print = record { twenty = is.twenty; bytes = is.bytes };
          prefix_is = is.prefix;
          rfc = is.rfc;
          uc = is.uc;
          new = record {
            new_slot = λ far has.
                let met = at.marked.marked_slot (slot - directs g) has in
                last_differs (λ (r : Row). r.slot) (before ++ own) row apart.slot met.0 (from_found met.0 met.1)
                (omega (arith, met.2, far, stands.0));
            new_page = λ has. let met = at.marked.marked_page row.page has in last_differs (λ (r : Row). r.page) (before ++ own) row apart.page met.0
                (from_found met.0 met.1) met.2;
            new_print = λ has.
                let met = at.known_print row.print has in
                last_differs (λ (r : Row). r.print) (before ++ own) row apart.print met.0 (in-append_right before own met.0 met.1) met.2;
          };
        })

    pub refusal : (fault : ScanFault) → IsRefusal g words prefix slot f fault → IsFaultOf g words fault
    refusal (BadTable s) refused = subst (TableFault g words) (sym refused.0) (refuses refused.1)
    refusal NoMemory refused = tt

    -- a row comes
    module _ (next : ℕ) (f' : Found) (takes : TakesRow g words prefix slot f f') (next_is : next ≡ slice_index words (slot_word g slot 5)) where
      abbrev row : Row
      row = takes.row

      slot_is : row.slot ≡ slot
      slot_is = takes.may.stands.0

      row_is : IsRow g prefix (length own) row
      row_is = record {
        place = elim place [
          | inl direct ↦ inl (slot_is ∙ direct_slot direct, ap length direct.0)
          | inr far ↦ inr (
            omega (arith, far.0, slot_is),
            omega (arith, far.1, slot_is),
          )
        ];
        data_page = takes.may.data_page;
        twenty = takes.may.print.twenty;
        bytes = takes.may.print.bytes;
        prefix = takes.may.prefix_is;
        rfc = takes.may.rfc;
        uc = takes.may.uc;
      }

      stands : RowStands g words row.slot row
      stands = (refl, λ j lt. ap (λ (s : ℕ). slice_index words (slot_word g s j)) slot_is ∙ takes.may.stands.1 j lt)

      fresh_slot : (s : Row) → Contains (before ++ own) s → s.slot ≡ row.slot → ⊥
      fresh_slot s there same = elim place [
        | inl direct ↦
            let found = earlier s (subst (λ (rs : List Row). Contains rs s) (ap (λ (rs : List Row). before ++ rs) direct.0 ∙ append-nil before) there)
            in
            elim found.3.place [
              | inl own_slot ↦ omega (arith, own_slot.0, same, slot_is, direct_slot direct, found.2)
              | inr far ↦ omega (arith, far.0, same, slot_is, direct_slot direct, front.direct)
            ]
        | inr far ↦
            let e : s.slot - directs g ≡ slot - directs g = ap (λ (n : ℕ). n - directs g) (same ∙ slot_is) in
            takes.may.new.new_slot far.0
            (subst (Contains f.slots.free) e (at.marked.slot_marked s (in_found s there) (omega (arith, far.0, same, slot_is))))
      ]

      fresh_page : (s : Row) → Contains (before ++ own) s → s.page ≡ row.page → ⊥
      fresh_page s there same = takes.may.new.new_page (subst (Contains f.pages.free) same (at.marked.page_marked s (in_found s there)))

      fresh_print : (s : Row) → Contains (before ++ own) s → s.print ≡ row.print → ⊥
      fresh_print s there same = elim (Contains-append_cases before own s there) [
        | inl old ↦ let found = earlier s old in omega (arith, found.2, found.3.prefix, ap (prefix_of g) same, takes.may.prefix_is)
        | inr new ↦ takes.may.new.new_print (ap (has_print f) (sym same) ∙ at.print_known s new)
      ]

      last_leads : (k : ℕ) (r : Row) → slice_get own k ≡ Some r → length own ≡ k + 1 → slice_index words (slot_word g r.slot 5) ≡ slot
      last_leads k r got long = by_next comes
        where
          by_next : ComesNext g words prefix own holder slot → slice_index words (slot_word g r.slot 5) ≡ slot
          by_next (direct_row none some h e) = absurd (omega (arith, ap length none, long))
          by_next (first_chained none page h e) = absurd (omega (arith, ap length none, long))
          by_next (after_row fr l is h e) =
              let got' : slice_get (fr ++ l ∷ []) k ≡ Some r = ap (λ (rs : List Row). slice_get rs k) (sym is) ∙ got in
              elim (get-push_cases fr l k r got') [
                | inl old ↦ absurd (omega (arith, old.0, ap length is, length-append fr (l ∷ []), long))
                | inr last ↦ ap (λ (x : Row). slice_index words (slot_word g x.slot 5)) (sym last.1) ∙ sym e
              ]

      starts : own ≡ [] → StartsAt g words prefix row.slot
      starts none' = by_next comes
        where
          by_next : ComesNext g words prefix own holder slot → StartsAt g words prefix row.slot
          by_next (direct_row none some h e) = starts_direct some (slot_is ∙ e)
          by_next (first_chained none page h e) = starts_chained page (slot_is ∙ e)
          by_next (after_row fr l is h e) = absurd (not_empty fr l (sym none' ∙ is))

      grown : IsReached g words chain prefix (own ++ row ∷ [])
      grown = record {
        front = record {
          direct = front.direct;
          before = front.before;
          read_before = front.read_before;
          own = λ k r got. elim (get-push_cases own row k r got) [
            | inl old ↦ front.own k r old.1
            | inr last ↦ subst (λ (x : Row). IsRow g prefix k x × RowStands g words x.slot x) last.1
                (subst (λ (n : ℕ). IsRow g prefix n row) (sym last.0) row_is, stands)
          ];
          apart = subst AreApart (append_assoc before own (row ∷ [])) (apart-push (before ++ own) row front.apart fresh_slot fresh_print fresh_page);
          linked = λ k r n got after. elim (get-push_cases own row (k + 1) n after) [
            | inl old_n ↦ elim (get-push_cases own row k r got) [
              | inl old ↦ front.linked k r n old.1 old_n.1
              | inr last ↦ absurd (omega (arith, old_n.0, last.0))
            ]
            | inr last_n ↦ elim (get-push_cases own row k r got) [
              | inl old ↦ last_leads k r old.1 (sym last_n.0) ∙ sym slot_is ∙ ap (λ (x : Row). x.slot) last_n.1
              | inr last ↦ absurd (omega (arith, last_n.0, last.0))
            ]
          ];
        };
        first = λ r got. elim (get-push_cases own row 0 r got) [
          | inl old ↦ at.reached.first r old.1
          | inr last ↦ subst (λ (x : Row). StartsAt g words prefix x.slot) last.1 (starts (nil_from_length own (sym last.0)))
        ];
      }

      known_after : (print : List ℕ) (b : Bool) → is_at (slice_cmp nat_cmp row.print) print ≡ b
          → has_print f' print ≡ (if b then true else has_print f print)
      known_after print b e = takes.adds.prints print ∙ ap (λ (t : Bool). if t then true else has_print f print) e

      print_known : (s : Row) → Contains (own ++ row ∷ []) s → has_print f' s.print ≡ true
      print_known s there = elim (in-push_cases own row s there) [
        | inl old ↦ by_test (is_at (slice_cmp nat_cmp row.print) s.print) refl (at.print_known s old)
        | inr same ↦ subst (λ (x : Row). has_print f' x.print ≡ true) same (known_after row.print true (same_print row.print))
      ]
        where
          by_test : (b : Bool) → is_at (slice_cmp nat_cmp row.print) s.print ≡ b → has_print f s.print ≡ true → has_print f' s.print ≡ true
          by_test true e has = known_after s.print true e
          by_test false e has = known_after s.print false e ∙ has

      known_print : (print : List ℕ) → has_print f' print ≡ true → (s : Row) × Contains (own ++ row ∷ []) s × (s.print ≡ print)
      known_print print has = by_test (is_at (slice_cmp nat_cmp row.print) print) refl
        where
          by_test : (b : Bool) → is_at (slice_cmp nat_cmp row.print) print ≡ b → (s : Row) × Contains (own ++ row ∷ []) s × (s.print ≡ print)
          by_test true e = (row, in-push_new own row, print_found row.print print e)
          by_test false e = let old = at.known_print print (sym (known_after print false e) ∙ has) in (old.0, in-push_old own row old.0 old.1, old.2)

      pub goes_on : IsOnChain g words prefix f' slot next
      goes_on = record {
        chain = chain;
        own = own ++ row ∷ [];
        at = record {
          reached = grown;
          rows_are = takes.adds.rows ∙ ap (λ (rs : List Row). rs ++ row ∷ []) at.rows_are ∙ append_assoc before own (row ∷ []);
          marked = marked-add g row f f' at.marked takes.adds;
          print_known = print_known;
          known_print = known_print;
        };
        comes = after_row own row refl (sym slot_is) (next_is ∙ ap (λ (s : ℕ). slice_index words (slot_word g s 5)) (sym slot_is));
        begun = λ direct. not_empty own row (sym direct.0);
      }

  -- the slot that comes next is no indirect one
  pub strays : (holder next : ℕ) → ComesNext g words prefix own holder next → (IsDirectNext g words prefix own → ⊥) → next ≢ 0
      → (IsIndirect g next → ⊥) → TableFault g words holder
  strays holder next comes begun some far = no_next chain prefix own next at.reached comes begun some far

  -- no slot comes next: the chain is read
  module _ (holder next : ℕ) (comes : ComesNext g words prefix own holder next) (begun : IsDirectNext g words prefix own → ⊥) (none : next ≡ 0) where
    -- the last row leads to none
    last_none : (k : ℕ) (r : Row) → slice_get own k ≡ Some r → length own ≡ k + 1 → slice_index words (slot_word g r.slot 5) ≡ 0
    last_none k r got long = by_next comes
      where
        by_next : ComesNext g words prefix own holder next → slice_index words (slot_word g r.slot 5) ≡ 0
        by_next (direct_row empty some h e) = absurd (omega (arith, ap length empty, long))
        by_next (first_chained empty page h e) = absurd (omega (arith, ap length empty, long))
        by_next (after_row fr l is h e) =
            let got' : slice_get (fr ++ l ∷ []) k ≡ Some r = ap (λ (rs : List Row). slice_get rs k) (sym is) ∙ got in
            elim (get-push_cases fr l k r got') [
              | inl old ↦ absurd (omega (arith, old.0, ap length is, length-append fr (l ∷ []), long))
              | inr last ↦ ap (λ (x : Row). slice_index words (slot_word g x.slot 5)) (sym last.1) ∙ sym e ∙ none
            ]

    rows_say : Reads (RowsSay g own) words
    rows_say = rows_read g words own (λ k r got. (front.own k r got).1) front.linked last_none

    abbrev page_here : ℕ
    page_here = slice_index words (slot_word g prefix 0)

    abbrev next_here : ℕ
    next_here = slice_index words (slot_word g prefix 5)

    -- what the direct slot says, by the rows of the chain
    direct_says : (rs : List Row) → rs ≡ own → (page_here ≡ direct_page_word prefix rs) × (next_here ≡ first_slot (chained prefix rs))
    direct_says [] e = by_next comes
      where
        by_next : ComesNext g words prefix own holder next → (page_here ≡ 0) × (next_here ≡ 0)
        by_next (direct_row empty some h n) = absurd (begun (empty, some))
        by_next (first_chained empty page h n) = (page, sym n ∙ none)
        by_next (after_row fr l is h n) = absurd (not_empty fr l (e ∙ is))
    direct_says (r ∷ rs) e = by_test (r.slot == prefix) refl (at.reached.first r first)
      where
        first : slice_get own 0 ≡ Some r
        first = ap (λ (xs : List Row). slice_get xs 0) (sym e)

        is_row : IsRow g prefix 0 r
        is_row = (front.own 0 r first).0

        page_of : r.slot ≡ prefix → page_here ≡ r.page
        page_of here = ap (λ (s : ℕ). slice_index words (slot_word g s 0)) (sym here) ∙ (front.own 0 r first).1.1 0 (omega arith)

        after : (xs : List Row) → xs ≡ rs → slice_index words (slot_word g r.slot 5) ≡ first_slot xs
        after [] is = last_none 0 r first (omega (arith, ap length e, ap length is))
        after (s ∷ xs) is = front.linked 0 r s first (ap (λ (ys : List Row). slice_get ys 1) (sym e) ∙ ap (λ (ys : List Row). slice_get ys 0)
            (sym is))

        by_test : (b : Bool) → (r.slot == prefix) ≡ b → StartsAt g words prefix r.slot → (page_here ≡ (if b then r.page else 0)) ×
            (next_here ≡ first_slot (if b then rs else r ∷ rs))
        by_test true t (starts_direct some here) = (page_of here, ap (λ (s : ℕ). slice_index words (slot_word g s 5)) (sym here) ∙ after rs refl)
        by_test true t (starts_chained page here) =
            let own_slot : r.slot ≡ prefix = grind (arith, nat_tests) in
            let low = is_row.data_page.low in
            let some = first_data-some g in
            absurd (omega (arith, page, page_of own_slot, low, some))
        by_test false t (starts_direct some here) = absurd (grind (arith, nat_tests))
        by_test false t (starts_chained page here) = (page, sym here)

    own_says : Reads (ChainSays g prefix own) words
    own_says a v (at_direct_page place value) = ap (slice_index words) place ∙ (direct_says own refl).0 ∙ sym value
    own_says a v (at_direct_next place value) = ap (slice_index words) place ∙ (direct_says own refl).1 ∙ sym value
    own_says a v (at_row says) = rows_say a v says

    abbrev chains : ℕ → List Row
    chains = put_chain chain prefix own

    one_more : prefix + 1 ≡ suc prefix
    one_more = omega arith

    all_rows : rows_from chains 0 (prefix + 1) ≡ before ++ own
    all_rows = ap (rows_from chains 0) one_more ∙ rows_from-put chain prefix own 0 prefix (omega arith)

    pub ends : IsFoundTo g words (prefix + 1) f
    ends = record {
      rows = record {
        chain = chains;
        read = record { reads = reads; valid = valid; apart = subst AreApart (sym all_rows) front.apart };
        rows_are = at.rows_are ∙ sym all_rows;
      };
      marked = at.marked;
    }
      where
        reads : (q : ℕ) → q < prefix + 1 → Reads (ChainSays g q (chains q)) words
        reads q lt = elim (cases_eq q prefix) [
          | inl e ↦ subst (λ (rs : List Row). Reads (ChainSays g q rs) words) (sym (put_here chain prefix own q e))
              (subst (λ (p : ℕ). Reads (ChainSays g p own) words) (sym e) own_says)
          | inr ne ↦ subst (λ (rs : List Row). Reads (ChainSays g q rs) words) (sym (put_other chain prefix own q ne))
              (front.read_before q (omega (arith, lt, ne)))
        ]

        valid : (q k : ℕ) (row : Row) → q < prefix + 1 → slice_get (chains q) k ≡ Some row → IsRow g q k row
        valid q k row lt got = elim (cases_eq q prefix) [
          | inl e ↦ subst (λ (p : ℕ). IsRow g p k row) (sym e)
              (front.own k row (ap (λ (rs : List Row). slice_get rs k) (sym (put_here chain prefix own q e)) ∙ got)).0
          | inr ne ↦ front.before q k row (omega (arith, lt, ne)) (ap (λ (rs : List Row). slice_get rs k) (sym (put_other chain prefix own q ne)) ∙
              got)
        ]

-- a chain begins without a row
pub starts_none : (g : Geometry) (words : List ℕ) (prefix : ℕ) (f : Found) → prefix < directs g → (found : IsFoundTo g words prefix f) → (f' : Found)
    → rows_of f' ≡ rows_of f → f'.slots ≡ f.slots → f'.pages ≡ f.pages → f'.prints.keys ≡ []
    → IsAt g words prefix found.rows.chain [] f'
starts_none g words prefix f direct found f' same_rows same_slots same_pages no_prints = record {
  reached = record {
    front = record {
      direct = direct;
      before = λ q k row lt got. found.rows.read.valid q k row lt got;
      read_before = found.rows.read.reads;
      own = λ k row got. cc;
      apart = subst AreApart (sym (append-nil (rows_from found.rows.chain 0 prefix))) found.rows.read.apart;
      linked = λ k row next got after. cc;
    };
    first = λ row got. cc;
  };
  rows_are = same_rows ∙ found.rows.rows_are ∙ sym (append-nil (rows_from found.rows.chain 0 prefix));
  marked = record {
    all_slots = ap (λ (s : FreePages). s.pages) same_slots ∙ found.marked.all_slots;
    all_pages = ap (λ (s : FreePages). s.pages) same_pages ∙ found.marked.all_pages;
    slot_marked = λ row there far. subst (λ (s : FreePages). Contains s.free (row.slot - directs g)) (sym same_slots)
        (found.marked.slot_marked row (old row there) far);
    marked_slot = λ k has. let met = found.marked.marked_slot k (subst (λ (s : FreePages). Contains s.free k) same_slots has) in
        (met.0, new met.0 met.1, met.2);
    page_marked = λ row there. subst (λ (s : FreePages). Contains s.free row.page) (sym same_pages) (found.marked.page_marked row (old row there));
    marked_page = λ p has. let met = found.marked.marked_page p (subst (λ (s : FreePages). Contains s.free p) same_pages has) in
        (met.0, new met.0 met.1, met.2);
  };
  print_known = λ row there. absurd (omega (arith, there.1));
  known_print = λ print has. absurd (false≢true (sym (ap (λ (ks : List (List ℕ)). list_any (is_at (slice_cmp nat_cmp print)) ks) no_prints) ∙ has));
}
  where
    old : (row : Row) → Contains (rows_of f') row → Contains (rows_of f) row
    old row there = subst (λ (rs : List Row). Contains rs row) same_rows there

    new : (row : Row) → Contains (rows_of f) row → Contains (rows_of f') row
    new row there = subst (λ (rs : List Row). Contains rs row) (sym same_rows) there

-- no rows are found at first
pub found_none : (g : Geometry) (words : List ℕ) (f : Found) → rows_of f ≡ [] → f.slots ≡ record { pages = g.pages; free = [] }
    → f.pages ≡ record { pages = g.pages; free = [] } → IsFoundTo g words 0 f
found_none g words f no_rows no_slots no_pages = record {
  rows = record {
    chain = λ q. [];
    read = record {
      reads = λ q lt. absurd (omega (arith, lt));
      valid = λ q k row lt got. absurd (omega (arith, lt));
      apart = record { slot = λ j k r s is_r is_s e. cc; print = λ j k r s is_r is_s e. cc; page = λ j k r s is_r is_s e. cc };
    };
    rows_are = no_rows;
  };
  marked = record {
    all_slots = ap (λ (s : FreePages). s.pages) no_slots;
    all_pages = ap (λ (s : FreePages). s.pages) no_pages;
    slot_marked = λ row there. absurd (none_there row there);
    marked_slot = λ k has. absurd (none_in k (subst (λ (s : FreePages). Contains s.free k) no_slots has));
    page_marked = λ row there. absurd (none_there row there);
    marked_page = λ p has. absurd (none_in p (subst (λ (s : FreePages). Contains s.free p) no_pages has));
  };
}
  where
    none_there : (row : Row) → Contains (rows_of f) row → ⊥
    none_there row there = let none = subst (λ (rs : List Row). Contains rs row) no_rows there in omega (arith, none.1)

    none_in : (k : ℕ) → Contains [] k → ⊥
    none_in k has = omega (arith, has.1)
