-- A row goes: what the table then says, and that its rows make sense.
use Rattle.std.proofs.Common.{◌≡◌, ◌≢◌, ◌⊎◌, inl, inr, ⊎_elim, ℕ, ◌+◌, ◌*◌, ◌<◌, List, [], ◌∷◌, refl, sym, ◌∙◌, ap, subst, arith}
use Rattle.std.specs.Prelude.{slice_get, Some, All, Contains}
use Rattle.std.proofs.lemmas.Bool.{cases_eq}
use Rattle.std.proofs.lemmas.List.Elements.{All-contains, All-head, All-tail}
use Rattle.pm_layout.specs.declared.Geometry.{Geometry}
use Rattle.pm_layout.specs.Geometry.{slot_word, directs, slots, first_data}
use Rattle.dn_model.specs.Table.{
  Row,
  RowsSay,
  at_field,
  at_next,
  at_later,
  ChainSays,
  at_direct_page,
  at_direct_next,
  at_row,
  first_slot,
  chained,
  direct_page_word,
}
use Rattle.pm_device.specs.Reading.{Said}
use Rattle.dn_model.specs.Disk.{Disk, TableSays, rows}
use Rattle.dn_model.specs.Valid.{IsRow, HasGoodRows}
use Rattle.law_write.proofs.Unread.{slot_word_low}
use Rattle.law_table.specs.Changes.{without, removed, slot_before, slot_after}
use Rattle.pm_device.specs.Pages.{SaysRun}
use Rattle.law_table.specs.Words.{IsOneTableWord}
use Rattle.law_table.specs.Rows.{MayTakeRow, MayPoint, TakesRow}
use Rattle.law_table.proofs.Rows.{
  all_listed,
  listed_at,
  at_listed,
  listed_later,
  listed_cases,
  IsDistinct,
  distinct_tail,
  distinct_head,
  distinct_chain,
}
use Rattle.law_table.proofs.TableRows.{in_table, is_row, one_chain, row_slot_small}
use Rattle.law_table.proofs.Slots.{
  AreElsewhere,
  HasSlot,
  next_of,
  slot_word_one,
  rows_elsewhere,
  chained_none,
  chained_row,
  direct_page_row,
  direct_page_none,
  behind_first,
  chains_differ,
  pointer_above,
  pointers_kept,
  table_differs,
}
use Rattle.law_table.proofs.Put.{IsPut, put_kept, put_listed, taken_distinct, put_other}
use Rattle.law_table.proofs.Taken.{
  without_here,
  without_other,
  without_none,
  without_at,
  without_put,
  rows_removed,
  before_owned,
  before_here,
  before_other,
  after_here,
  after_other,
  taken_found,
}
use Rattle.law_table.proofs.Linked.{chain_cases}
use Rattle.law_table.proofs.Pointed.{stale_may_clear}

-- the row of the direct slot goes
module _ (g : Geometry) (p : ℕ) (first : Row) (rest : List Row) (here : first.slot ≡ p) (others : AreElsewhere p rest) where
  closed_differs : (a v : ℕ) → ChainSays g p rest a v → ((a ≡ slot_word g p 0) × (v ≡ 0))
      ⊎ ((a ≢ slot_word g p 0) × (ChainSays g p (first ∷ rest) a v ⊎ SaysRun 0 [] a v))
  closed_differs a v (at_direct_page place value) = inl (place, value ∙ direct_page_none p rest others)
  closed_differs a v (at_direct_next place value) =
      inr (λ e. omega arith, inl (at_direct_next place (value ∙ ap first_slot (chained_none p rest others ∙ sym (chained_row p first rest here)))))
  closed_differs a v (at_row says) = inr (rows_elsewhere g p 0 rest a v (omega arith) others says, inl (at_row (at_later says)))

-- the row of another slot goes
module _ (g : Geometry) (slot : ℕ) where
  -- word 5 of slot t becomes this value, or what is said was said before
  abbrev Unlinks : ℕ → ℕ → Type 0 → ℕ → ℕ → Type 0
  Unlinks t value Said a v = ((a ≡ slot_word g t 5) × (v ≡ value)) ⊎ ((a ≢ slot_word g t 5) × Said)

  -- so where the row isn't the first
  later_unlinks : (b : ℕ) (x : Row) (rs : List Row) (Said : Type 0) (a v : ℕ) → x.slot ≢ slot → Unlinks (slot_before x.slot rs slot)
      (slot_after rs slot) Said a v
      → Unlinks (slot_before b (x ∷ rs) slot) (slot_after (x ∷ rs) slot) Said a v
  later_unlinks b x rs Said a v ne is =
      subst (λ (t : ℕ). Unlinks t (slot_after (x ∷ rs) slot) Said a v) (sym (before_other slot b x rs ne))
      (subst (λ (n : ℕ). Unlinks (slot_before x.slot rs slot) n Said a v) (sym (after_other slot x rs ne)) is)

  -- the rest has no other row of this slot
  rest_without : (x : Row) (rs : List Row) → IsDistinct (λ (r : Row). r.slot) (x ∷ rs) → x.slot ≡ slot → without slot (x ∷ rs) ≡ rs
  rest_without x rs apart e = without_here slot x rs e
      ∙ without_none slot rs (all_listed (λ (r : Row). r.slot ≢ slot) rs (λ r listed same. distinct_head (λ (y : Row). y.slot) x rs apart r listed
      (same ∙ sym e)))

  has_later : (x : Row) (rs : List Row) → HasSlot (x ∷ rs) slot → x.slot ≢ slot → HasSlot rs slot
  has_later x rs has ne = ⊎_elim (λ (e : x ≡ has.0). absurd (ne (ap (λ (r : Row). r.slot) e ∙ has.2)))
      (λ (later : Contains rs has.0). (has.0, later, has.2)) (listed_cases x rs has.0 has.1)

  -- the slot before isn't one that no row has
  before_not : (b : ℕ) (x : Row) (rs : List Row) → AreElsewhere b (x ∷ rs) → slot_before x.slot rs slot ≢ b
  before_not b x rs others e = ⊎_elim
      (λ (own : slot_before x.slot rs slot ≡ x.slot). All-head (λ (r : Row). r.slot ≢ b) x rs others (sym own ∙ e))
      (λ (has : HasSlot rs (slot_before x.slot rs slot)). All-contains (λ (r : Row). r.slot ≢ b) rs has.0
      (All-tail (λ (r : Row). r.slot ≢ b) x rs others) has.1 (has.2 ∙ e))
      (before_owned slot x.slot rs)

  next_differs : (b : ℕ) (rs : List Row) → HasSlot rs slot → IsDistinct (λ (r : Row). r.slot) rs → AreElsewhere b rs → (a v : ℕ) → a ≡ slot_word g b 5
      → v ≡ first_slot (without slot rs)
      → Unlinks (slot_before b rs slot) (slot_after rs slot) (v ≡ first_slot rs) a v
  next_differs b [] has apart others a v place value = absurd (omega (arith, has.1.1))
  next_differs b (x ∷ rs) has apart others a v place value = elim (cases_eq x.slot slot) [
    | inl e ↦ inl (
      place ∙ ap (λ (s : ℕ). slot_word g s 5) (sym (before_here slot b x rs e)),
      value ∙ ap first_slot (rest_without x rs apart e) ∙ sym
          (after_here slot x rs e),
    )
    | inr ne ↦ later_unlinks b x rs (v ≡ x.slot) a v ne (inr (
      λ e. before_not b x rs others (sym (slot_word_one g b (slot_before x.slot rs slot) 5 5 (omega arith) (omega arith) (sym place ∙ e)).0),
      value ∙ ap first_slot (without_other slot x rs ne),
    ))
  ]

  rows_differ : (b : ℕ) (rs : List Row) → HasSlot rs slot → IsDistinct (λ (r : Row). r.slot) rs
      → ((x : Row) (xs : List Row) → rs ≡ x ∷ xs → AreElsewhere b xs) → (a v : ℕ)
      → RowsSay g (without slot rs) a v → Unlinks (slot_before b rs slot) (slot_after rs slot) (RowsSay g rs a v) a v
  rows_differ b [] has apart others a v says = absurd (omega (arith, has.1.1))
  rows_differ b (x ∷ rs) has apart others a v says = elim (cases_eq x.slot slot) [
    | inl e ↦
        let told : RowsSay g rs a v = subst (λ (ys : List Row). RowsSay g ys a v) (rest_without x rs apart e) says in
        inr (
          subst (λ (t : ℕ). a ≢ slot_word g t 5) (sym (before_here slot b x rs e)) (rows_elsewhere g b 5 rs a v (omega arith) (others x rs refl)
              told),
          at_later told,
        )
    | inr ne ↦ later_unlinks b x rs (RowsSay g (x ∷ rs) a v) a v ne
        (by_row (subst (λ (ys : List Row). RowsSay g ys a v) (without_other slot x rs ne) says)
        (λ at_place value. next_differs x.slot rs (has_later x rs has ne) (distinct_tail (λ (r : Row). r.slot) x rs apart) (elsewhere x rs apart)
        a v at_place value)
        (λ later. rows_differ x.slot rs (has_later x rs has ne) (distinct_tail (λ (r : Row). r.slot) x rs apart)
        (λ y ys is. All-tail (λ (r : Row). r.slot ≢ x.slot) y ys (subst (AreElsewhere x.slot) is (elsewhere x rs apart))) a v later))
  ]
    where
      elsewhere : (y : Row) (ys : List Row) → IsDistinct (λ (r : Row). r.slot) (y ∷ ys) → AreElsewhere y.slot ys
      elsewhere y ys distinct = all_listed (λ (r : Row). r.slot ≢ y.slot) ys (λ r listed. distinct_head (λ (z : Row). z.slot) y ys distinct r listed)

      by_row : RowsSay g (x ∷ without slot rs) a v
          → (a ≡ slot_word g x.slot 5 → v ≡ first_slot (without slot rs) → Unlinks (slot_before x.slot rs slot) (slot_after rs slot)
          (v ≡ first_slot rs) a v)
          → (RowsSay g (without slot rs) a v → Unlinks (slot_before x.slot rs slot) (slot_after rs slot) (RowsSay g rs a v) a v)
          → Unlinks (slot_before x.slot rs slot) (slot_after rs slot) (RowsSay g (x ∷ rs) a v) a v
      by_row (at_field j lt place value) next later = inr (λ e. omega arith, at_field j lt place value)
      by_row (at_next place value) next later = ⊎_elim (λ here. inl here)
          (λ (there : (a ≢ slot_word g (slot_before x.slot rs slot) 5) × (v ≡ first_slot rs)). inr (there.0, at_next place there.1))
          (next place value)
      by_row (at_later says) next later = ⊎_elim (λ here. inl here)
          (λ (there : (a ≢ slot_word g (slot_before x.slot rs slot) 5) × RowsSay g rs a v). inr (there.0, at_later there.1)) (later says)

-- the rows that are left have other slots, where all had
left_elsewhere : (slot p : ℕ) (rs : List Row) → AreElsewhere p rs → AreElsewhere p (without slot rs)
left_elsewhere slot p rs others = all_listed (λ (r : Row). r.slot ≢ p) (without slot rs)
    (λ r has. let was = without_at slot rs has.0 r (at_listed (without slot rs) r has) in All-contains (λ (x : Row). x.slot ≢ p) rs r others
    (listed_at rs was.0 r was.1))

-- in a chain, behind its direct slot
module _ (g : Geometry) (p slot : ℕ) (other : slot ≢ p) where
  -- where a row has the direct slot
  unlinked_behind : (x : Row) (rs : List Row) → x.slot ≡ p → AreElsewhere p rs → HasSlot rs slot → IsDistinct (λ (r : Row). r.slot) (x ∷ rs)
      → (a v : ℕ) → ChainSays g p (without slot (x ∷ rs)) a v
      → Unlinks g slot (slot_before p (x ∷ rs) slot) (slot_after (x ∷ rs) slot) (ChainSays g p (x ∷ rs) a v) a v
  unlinked_behind x rs here others has apart a v says = by_part (subst (λ (ys : List Row). ChainSays g p ys a v) (without_other slot x rs ne) says)
      (λ place value. later_unlinks g slot p x rs (v ≡ first_slot rs) a v ne
      (next_differs g slot x.slot rs has (distinct_tail (λ (r : Row). r.slot) x rs apart) (subst (λ (s : ℕ). AreElsewhere s rs) (sym here) others) a v
      (place ∙ ap (λ (s : ℕ). slot_word g s 5) (sym here)) value))
      (λ told. rows_differ g slot p (x ∷ rs) (has.0, listed_later x rs has.0 has.1, has.2) apart (λ y ys is. tails y ys is) a v
      (subst (λ (ys : List Row). RowsSay g ys a v) (sym (without_other slot x rs ne)) told))
    where
      ne : x.slot ≢ slot
      ne e = other (sym e ∙ here)

      tails : (y : Row) (ys : List Row) → x ∷ rs ≡ y ∷ ys → AreElsewhere p ys
      tails y ys is = let same : rs ≡ ys = cc in subst (AreElsewhere p) same others

      by_part : ChainSays g p (x ∷ without slot rs) a v
          → (a ≡ slot_word g p 5 → v ≡ first_slot (without slot rs) → Unlinks g slot (slot_before p (x ∷ rs) slot) (slot_after (x ∷ rs) slot)
          (v ≡ first_slot rs) a v)
          → (RowsSay g (x ∷ without slot rs) a v → Unlinks g slot (slot_before p (x ∷ rs) slot) (slot_after (x ∷ rs) slot) (RowsSay g (x ∷ rs) a v) a
          v)
          → Unlinks g slot (slot_before p (x ∷ rs) slot) (slot_after (x ∷ rs) slot) (ChainSays g p (x ∷ rs) a v) a v
      by_part (at_direct_page place value) next rows = inr
          (λ e. omega arith, at_direct_page place (value ∙ direct_page_row p x (without slot rs) here ∙ sym (direct_page_row p x rs here)))
      by_part (at_direct_next place value) next rows = ⊎_elim (λ found. inl found)
          (λ (there : (a ≢ slot_word g (slot_before p (x ∷ rs) slot) 5) × (v ≡ first_slot rs)). inr
          (there.0, at_direct_next place (there.1 ∙ ap first_slot (sym (chained_row p x rs here)))))
          (next place (value ∙ ap first_slot (chained_row p x (without slot rs) here)))
      by_part (at_row told) next rows = ⊎_elim (λ found. inl found)
          (λ (there : (a ≢ slot_word g (slot_before p (x ∷ rs) slot) 5) × RowsSay g (x ∷ rs) a v). inr (there.0, at_row there.1)) (rows told)

  -- where none has
  unlinked_first : (rs : List Row) → AreElsewhere p rs → HasSlot rs slot → IsDistinct (λ (r : Row). r.slot) rs → (a v : ℕ)
      → ChainSays g p (without slot rs) a v
      → Unlinks g slot (slot_before p rs slot) (slot_after rs slot) (ChainSays g p rs a v) a v
  unlinked_first rs others has apart a v (at_direct_page place value) =
      inr (
        λ e. omega arith,
        at_direct_page place (value ∙ direct_page_none p (without slot rs) (left_elsewhere slot p rs others) ∙ sym
            (direct_page_none p rs others)),
      )
  unlinked_first rs others has apart a v (at_direct_next place value) = ⊎_elim (λ found. inl found)
      (λ (there : (a ≢ slot_word g (slot_before p rs slot) 5) × (v ≡ first_slot rs)). inr
      (there.0, at_direct_next place (there.1 ∙ ap first_slot (sym (chained_none p rs others)))))
      (next_differs g slot p rs has apart others a v place
      (value ∙ ap first_slot (chained_none p (without slot rs) (left_elsewhere slot p rs others))))
  unlinked_first rs others has apart a v (at_row told) = ⊎_elim (λ found. inl found)
      (λ (there : (a ≢ slot_word g (slot_before p rs slot) 5) × RowsSay g rs a v). inr (there.0, at_row there.1))
      (rows_differ g slot p rs has apart (λ x xs is. All-tail (λ (r : Row). r.slot ≢ p) x xs (subst (AreElsewhere p) is others)) a v told)

module _ (g : Geometry) (p slot : ℕ) (other : slot ≢ p) (a v : ℕ) where
  unlinked_differs : (rs : List Row) → ((x : Row) (xs : List Row) → rs ≡ x ∷ xs → AreElsewhere p xs) → HasSlot rs slot
      → IsDistinct (λ (r : Row). r.slot) rs → ChainSays g p (without slot rs) a v
      → Unlinks g slot (slot_before p rs slot) (slot_after rs slot) (ChainSays g p rs a v) a v
  unlinked_differs rs behind has apart says = ⊎_elim
      (λ (direct : (x : Row) × (xs : List Row) × (rs ≡ x ∷ xs) × (x.slot ≡ p) × AreElsewhere p xs).
      subst (λ (ys : List Row). Unlinks g slot (slot_before p ys slot) (slot_after ys slot) (ChainSays g p ys a v) a v) (sym direct.2)
      (unlinked_behind g p slot other direct.0 direct.1 direct.3 direct.4
      (has_later g slot direct.0 direct.1 (subst (λ (ys : List Row). HasSlot ys slot) direct.2 has) (λ e. other (sym e ∙ direct.3)))
      (subst (IsDistinct (λ (r : Row). r.slot)) direct.2 apart) a v (subst (λ (ys : List Row). ChainSays g p (without slot ys) a v) direct.2 says)))
      (λ (none : AreElsewhere p rs). unlinked_first g p slot other rs none has apart a v says) (chain_cases p rs behind)

-- the rows that are left
module _ (d : Disk) (row : Row) (good : HasGoodRows d) (has : Contains (rows d) row) where
  abbrev news : List Row
  news = rows (removed d row.slot)

  rows_taken : IsPut row news (rows d)
  rows_taken = subst (λ (rs : List Row). IsPut row rs (rows d)) (sym (rows_removed row.slot d)) (without_put row.slot (rows d) row good.apart.slot has
      refl)

  still_listed : (r : Row) → Contains news r → Contains (rows d) r
  still_listed = put_kept row news (rows d) rows_taken

  other_page : (r : Row) → Contains news r → r.page ≢ row.page
  other_page = put_other (λ (r : Row). r.page) row news (rows d) rows_taken good.apart.page

  other_slot : (r : Row) → Contains news r → r.slot ≢ row.slot
  other_slot = put_other (λ (r : Row). r.slot) row news (rows d) rows_taken good.apart.slot

  pub takes_row : TakesRow row (rows d) news
  takes_row = record {
    kept = put_listed row news (rows d) rows_taken;
    only = λ r listed. (
      still_listed r listed,
      other_slot r listed,
      put_other (λ (x : Row). x.print) row news (rows d) rows_taken good.apart.print r listed,
      other_page r listed,
    );
    found = taken_found row (rows d) news rows_taken other_page;
  }

  left : (P : Row → Type 0) → All P (rows d) → All P news
  left P was = all_listed P news (λ r listed. All-contains P (rows d) r was (still_listed r listed))

  table : (p k : ℕ) (r : Row) → p < directs d.geometry → slice_get (without row.slot (d.chain p)) k ≡ Some r → IsRow d.geometry p k r
  table p k r lt is =
      let at = without_at row.slot (d.chain p) k r is in
      let was : IsRow d.geometry p at.0 r = good.table p at.0 r lt at.1 in
      record {
        place = ⊎_elim (λ (direct : (r.slot ≡ p) × (at.0 ≡ 0)). inl (direct.0, omega (arith, direct.1, at.2))) (λ high. inr high) was.place;
        data_page = was.data_page;
        twenty = was.twenty;
        bytes = was.bytes;
        prefix = was.prefix;
        rfc = was.rfc;
        uc = was.uc;
      }

  pub taken_good : HasGoodRows (removed d row.slot)
  taken_good = record {
    table = table;
    apart = record {
      slot = taken_distinct (λ (r : Row). r.slot) row news (rows d) rows_taken good.apart.slot;
      print = taken_distinct (λ (r : Row). r.print) row news (rows d) rows_taken good.apart.print;
      page = taken_distinct (λ (r : Row). r.page) row news (rows d) rows_taken good.apart.page;
    };
    pointers = good.pointers;
    leads = left (λ (r : Row). d.pointer r.page ≡ r.slot + 1) good.leads;
  }

module _ (d : Disk) (prefix : ℕ) (row : Row) (may : MayTakeRow d prefix row) where
  abbrev chain' : ℕ → List Row
  chain' p = without row.slot (d.chain p)

  listed : Contains (rows d) row
  listed = in_table d prefix row may.direct may.has

  pub taken_may_clear : MayPoint (removed d row.slot) row.page 0
  taken_may_clear = stale_may_clear (removed d row.slot) row.page may.accepted (taken_good d row may.good listed)
      (is_row d may.good prefix row may.direct may.has).data_page.high
      (λ r has. ((takes_row d row may.good listed).only r has).3)

  -- no other chain has the slot
  same : (p : ℕ) → p < directs d.geometry → p ≢ prefix → chain' p ≡ d.chain p
  same p lt ne = without_none row.slot (d.chain p) (all_listed (λ (r : Row). r.slot ≢ row.slot) (d.chain p)
      (λ r has e. ne (one_chain d may.good p prefix r row lt may.direct has may.has e)))

  behind : (x : Row) (xs : List Row) → d.chain prefix ≡ x ∷ xs → AreElsewhere prefix xs
  behind x xs is = behind_first d may.good prefix x xs may.direct is

  -- a word of slot s of this chain is one of the table, and no pointer
  one_word : (s i value : ℕ) → Said (TableSays d) (slot_word d.geometry s i) → i < 8 → s < slots d.geometry → (s ≡ prefix) ⊎ HasSlot (d.chain prefix)
      s
      → ((a v : ℕ) → ChainSays d.geometry prefix (chain' prefix) a v
      → ((a ≡ slot_word d.geometry s i) × (v ≡ value)) ⊎ ((a ≢ slot_word d.geometry s i) × (ChainSays d.geometry prefix (d.chain prefix) a v ⊎ SaysRun
      0 [] a v)))
      → IsOneTableWord d (removed d row.slot) 0 [] (slot_word d.geometry s i) value
  one_word s i value said small in_slots owned differs =
      let high : slot_word d.geometry s i < 512 * first_data d.geometry = slot_word_low d.geometry s i in_slots small in
      record {
        geometry = refl;
        good = taken_good d row may.good listed;
        inside = omega (arith, high, may.accepted.room);
        said = said;
        differs = table_differs d (removed d row.slot) (slot_word d.geometry s i) value 0 []
            (chains_differ d may.good prefix may.direct chain' same s i small owned value 0 [] differs)
            (pointers_kept d chain' (slot_word d.geometry s i) value 0 [] (λ page e. omega (
              arith,
              pointer_above d.geometry page s i in_slots small,
              e,
            )));
      }

  module _ (own_slot : row.slot ≡ prefix) where
    closed : (rs : List Row) → (first : Row) (rest : List Row) → rs ≡ first ∷ rest → first.slot ≡ prefix → AreElsewhere prefix rest → (a v : ℕ)
        → ChainSays d.geometry prefix (without row.slot rs) a v
        → ((a ≡ slot_word d.geometry prefix 0) × (v ≡ 0)) ⊎ ((a ≢ slot_word d.geometry prefix 0) × (ChainSays d.geometry prefix rs a v ⊎ SaysRun 0 []
        a v))
    closed rs first rest is here others a v says =
        let gone : without row.slot rs ≡ rest = ap (without row.slot) is ∙ without_here row.slot first rest (here ∙ sym own_slot)
        ∙ without_none row.slot rest (subst (λ (s : ℕ). AreElsewhere s rest) (sym own_slot) others) in
        subst (λ (xs : List Row). ((a ≡ slot_word d.geometry prefix 0) × (v ≡ 0))
        ⊎ ((a ≢ slot_word d.geometry prefix 0) × (ChainSays d.geometry prefix xs a v ⊎ SaysRun 0 [] a v))) (sym is)
        (closed_differs d.geometry prefix first rest here others a v (subst (λ (xs : List Row). ChainSays d.geometry prefix xs a v) gone says))

    page_said : Said (TableSays d) (slot_word d.geometry prefix 0)
    page_said = record {
      value = direct_page_word prefix (d.chain prefix);
      told = inl (record { prefix = prefix; direct = may.direct; says = at_direct_page refl refl });
    }

    pub closing_decides : IsOneTableWord d (removed d row.slot) 0 [] (slot_word d.geometry prefix 0) 0
    closing_decides = one_word prefix 0 0 page_said (omega arith) (omega (arith, may.direct)) (inl refl) (λ a v says. ⊎_elim
        (λ (direct : (x : Row) × (xs : List Row) × (d.chain prefix ≡ x ∷ xs) × (x.slot ≡ prefix) × AreElsewhere prefix xs). closed (d.chain prefix)
        direct.0 direct.1 direct.2 direct.3 direct.4 a v says)
        (λ (none : AreElsewhere prefix (d.chain prefix)). absurd (All-contains (λ (r : Row). r.slot ≢ prefix) (d.chain prefix) row none may.has
        own_slot)) (chain_cases prefix (d.chain prefix) behind))

  module _ (other : row.slot ≢ prefix) where
    abbrev before : ℕ
    before = slot_before prefix (d.chain prefix) row.slot

    before_small : before < slots d.geometry
    before_small = ⊎_elim (λ (own : before ≡ prefix). omega (arith, own, may.direct))
        (λ (has : HasSlot (d.chain prefix) before). omega (arith, row_slot_small d may.good has.0 (in_table d prefix has.0 may.direct has.1), has.2))
        (before_owned row.slot prefix (d.chain prefix))

    next_said : Said (TableSays d) (slot_word d.geometry before 5)
    next_said = ⊎_elim
        (λ (own : before ≡ prefix). record {
          value = first_slot (chained prefix (d.chain prefix));
          told = inl (record { prefix = prefix; direct = may.direct; says = at_direct_next (ap (λ (s : ℕ). slot_word d.geometry s 5) own) refl });
        })
        (λ (has : HasSlot (d.chain prefix) before).
        let says = next_of d.geometry has.0 (d.chain prefix) has.1 in
        record {
          value = says.0;
          told = inl (record {
            prefix = prefix;
            direct = may.direct;
            says = at_row (subst (λ (s : ℕ). RowsSay d.geometry (d.chain prefix) (slot_word d.geometry s 5) says.0) has.2 says.1);
          });
        })
        (before_owned row.slot prefix (d.chain prefix))

    chain_distinct : IsDistinct (λ (r : Row). r.slot) (d.chain prefix)
    unfolding rows
    chain_distinct = distinct_chain (λ (r : Row). r.slot) d.chain 0 (directs d.geometry) prefix (omega arith) (omega (arith, may.direct))
        may.good.apart.slot

    pub unlink_decides : IsOneTableWord d (removed d row.slot) 0 [] (slot_word d.geometry before 5) (slot_after (d.chain prefix) row.slot)
    unlink_decides = one_word before 5 (slot_after (d.chain prefix) row.slot) next_said (omega arith) before_small
        (before_owned row.slot prefix (d.chain prefix)) (λ a v says. ⊎_elim (λ here. inl here)
        (λ (there : (a ≢ slot_word d.geometry before 5) × ChainSays d.geometry prefix (d.chain prefix) a v). inr (there.0, inl there.1))
        (unlinked_differs d.geometry prefix row.slot other a v (d.chain prefix) behind (row, may.has, refl) chain_distinct says))
