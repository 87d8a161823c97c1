-- A row comes in for a page that is mapped: the disk of after, and that of the pointer alone.
use Rattle.std.proofs.Common.{◌≡◌, ◌≢◌, ◌⊎◌, inl, inr, ⊎_elim, ℕ, ◌+◌, ◌<◌, ◌≤◌, Bool, List, [], ◌∷◌, refl, sym, ◌∙◌, ap, subst, arith}
use Rattle.std.specs.Prelude.{Some, IsSome, IsNone, Contains, if◌then◌else◌, ◌==◌}
use Rattle.std.proofs.lemmas.Bool.{cases_eq}
use Rattle.pm_device.specs.State.{State}
use Rattle.pm_layout.specs.declared.Geometry.{Geometry}
use Rattle.pm_layout.specs.Geometry.{InData, directs, slots}
use Rattle.fingerprint.specs.Count.{count_word}
use Rattle.fingerprint.specs.Print.{IsPrint}
use Rattle.dn_model.specs.Table.{Row, row_of, prefix_of}
use Rattle.dn_model.specs.Disk.{Disk, IsMapped, rows}
use Rattle.dn_model.specs.Own.{Print, IsOwn, page_bytes}
use Rattle.dn_model.specs.Valid.{IsValid}
use Rattle.law_write.specs.Events.{IsReadPage}
use Rattle.law_write.proofs.Unread.{read_in_data}
use Rattle.law_table.specs.Changes.{with_table, opened, linked}
use Rattle.law_table.specs.Rows.{PutsRow}
use Rattle.law_table.proofs.Rows.{same_test, other_test, none_listed, listed_here, listed_later, listed_cases, distinct_same}
use Rattle.law_table.proofs.Pointed.{rows_repointed}
use Rattle.law_table_on_disk.specs.RowLaws.{IsNewRow, MayPut}
use Rattle.law_table_on_disk.specs.TableLaws.{IsNextDisk}
use Rattle.law_table_on_disk.proofs.Repointed.{repoint_own, repoint_one_word}
use Rattle.law_table_on_disk.proofs.PutPointers.{may_point, pointed_puts}
use Rattle.law_table_on_disk.proofs.PutRows.{open_one_word, open_own, link_one_word, link_own}
use Rattle.fact_table.specs.Chained.{HasNoRow}
use Rattle.fact_table.specs.Table.{Table, IsTable, HasNoneAt, HasNoneOf}
use Rattle.fact_rows.specs.Put.{new_row, pointed}
use Rattle.fact_changes.specs.Insertion.{MayInsert, Inserts, opens, links}
use Rattle.fact_changes.proofs.Slotted.{prefix_lt, rows_direct, none_taken, slot_small, rows_chained}
use Rattle.dn_volume.specs.Events.{word_in, word_at, word_after}

bytes_pointed : (d : Disk) (row : Row) (page : ℕ) → page_bytes (pointed d row) page ≡ page_bytes d page
unfolding page_bytes
bytes_pointed d row page = refl

-- the disk with the row, and what leads to it
pub record HasPut (d : Disk) (row : Row) (e : Disk) : Type 0 where
  pub same : e ≡ with_table d e.chain e.pointer
  pub puts : PutsRow row (rows d) (rows e)
  pub new_slot : HasNoneAt d row.slot
  pub small : row.slot < slots d.geometry
  pub next : IsNextDisk d e
  pub middle : IsNextDisk d (pointed d row)
  pub own : (print : Print) → row.print ≡ print (page_bytes d row.page) → IsOwn print d → IsOwn print e
  pub middle_own : (print : Print) → IsOwn print d → IsOwn print (pointed d row)
  pub pointer_is : (p : ℕ) → e.pointer p ≡ (if p == row.page then row.slot + 1 else d.pointer p)

module _ (d : Disk) (s : State) (t : Table) (fp : List ℕ) (page : ℕ) (valid : IsValid d) (table : IsTable d s.now t) (twenty : IsPrint fp)
    (mapped : IsMapped d page) (new_print : HasNoRow (rows d) fp) (no_row : IsNone (row_of (rows d) page)) where
  abbrev prefix : ℕ
  prefix = prefix_of t.geometry fp

  new_page : HasNoneOf d page
  new_page = none_listed (rows d) page no_row

  pub may_insert : MayInsert d s.now t fp page
  may_insert = record {
    table = table;
    twenty_bytes = twenty;
    data_page = subst (λ (g : Geometry). InData g page) table.geometry (read_in_data d valid page (inl mapped));
    new_print = new_print;
    new_page = new_page;
  }

  is_new : (slot : ℕ) → HasNoneAt d slot → IsNewRow d prefix (new_row slot fp page)
  is_new slot none = record {
    twenty = twenty.twenty;
    bytes = twenty.bytes;
    prefix_is = ap (λ (g : Geometry). prefix_of g fp) table.geometry;
    rfc_fits = omega arith;
    uc_fits = omega arith;
    some = omega arith;
    few = omega arith;
    mapped = mapped;
    new_slot = none;
    new_print = new_print;
    new_page = new_page;
  }

  module _ (slot : ℕ) (none : HasNoneAt d slot) (small : slot < slots d.geometry) where
    abbrev row : Row
    row = new_row slot fp page

    pointing : MayPut (pointed d row) prefix row
    pointing = pointed_puts d prefix row valid (is_new slot none) small

    middle : IsNextDisk d (pointed d row)
    middle = record {
      same = refl;
      valid = (repoint_one_word d page (slot + 1) (may_point d prefix row valid (is_new slot none) small)).new_valid;
      read = λ p some. inr (subst (λ (rs : List Row). IsSome (row_of rs p)) (rows_repointed d page (slot + 1)) some);
    }

    put_read : (e : Disk) → PutsRow row (rows d) (rows e) → (p : ℕ) → IsSome (row_of (rows e) p) → IsReadPage d p
    put_read e puts p some = elim (cases_eq page p) [
      | inl here ↦ inl (subst (IsMapped d) here mapped)
      | inr other ↦ inr (subst (λ r. IsSome r) (puts.found p ∙ ap (λ (t : Bool). if t then Some row else row_of (rows d) p)
          (other_test page p other)) some)
    ]

    print_still : (print : Print) → fp ≡ print (page_bytes d page) → fp ≡ print (page_bytes (pointed d row) page)
    print_still print is = is ∙ ap print (sym (bytes_pointed d row page))

    middle_own : (print : Print) → IsOwn print d → IsOwn print (pointed d row)
    middle_own print own = repoint_own d page (slot + 1) print own

    opened_put : slot ≡ prefix → PutsRow row (rows d) (rows (opened (pointed d row) prefix row)) → HasPut d row (opened (pointed d row) prefix row)
    opened_put own puts = record {
      same = refl;
      puts = puts;
      new_slot = none;
      small = small;
      next = record {
        same = refl;
        valid = (open_one_word (pointed d row) prefix row pointing own).new_valid;
        read = put_read (opened (pointed d row) prefix row) puts;
      };
      middle = middle;
      own = λ print is has. open_own (pointed d row) prefix row pointing print (print_still print is) (middle_own print has);
      middle_own = middle_own;
      pointer_is = λ p. refl;
    }

    linked_put : directs d.geometry ≤ slot → PutsRow row (rows d) (rows (linked (pointed d row) prefix row))
        → HasPut d row (linked (pointed d row) prefix row)
    linked_put above puts = record {
      same = refl;
      puts = puts;
      new_slot = none;
      small = small;
      next = record {
        same = refl;
        valid = (link_one_word (pointed d row) prefix row pointing above small).new_valid;
        read = put_read (linked (pointed d row) prefix row) puts;
      };
      middle = middle;
      own = λ print is has. link_own (pointed d row) prefix row pointing print (print_still print is) (middle_own print has);
      middle_own = middle_own;
      pointer_is = λ p. refl;
    }

  pub has_put : (slot : ℕ) (e : Disk) (t' : Table) → Inserts d t fp page slot e t' → HasPut d (new_row slot fp page) e
  has_put slot e t' (opens none) = opened_put prefix none
      (subst (λ (g : Geometry). prefix < slots g) (sym table.geometry) (omega (arith, prefix_lt d s.now t fp page may_insert))) refl
      (rows_direct d s.now t fp page may_insert none)
  has_put slot e t' (links first takes) = linked_put slot (none_taken d s.now t fp page may_insert slot t' takes)
      (slot_small d s.now t fp page may_insert slot t' takes)
      (subst (λ (g : Geometry). directs g ≤ slot) (sym table.geometry) takes.indirect) (rows_chained d s.now t fp page may_insert slot t' takes)

-- the count words, with one row more
word_listed : (rs : List Row) (r : Row) → ((x y : Row) → Contains rs x → Contains rs y → x.slot ≡ y.slot → x ≡ y) → Contains rs r
    → word_in rs r.slot ≡ count_word r.rfc r.uc
word_listed [] r one has = absurd (omega (arith, has.1))
word_listed (x ∷ rs) r one has = elim (cases_eq x.slot r.slot) [
  | inl here ↦
      ap (λ (t : Bool). if t then count_word x.rfc x.uc else word_in rs r.slot) (same_test x.slot r.slot here)
      ∙ ap (λ (y : Row). count_word y.rfc y.uc) (one x r (listed_here x rs) has here)
  | inr there ↦
      ap (λ (t : Bool). if t then count_word x.rfc x.uc else word_in rs r.slot) (other_test x.slot r.slot there)
      ∙ word_listed rs r (λ y z at_y at_z. one y z (listed_later x rs y at_y) (listed_later x rs z at_z))
      (⊎_elim (λ (first : x ≡ r). absurd (there (ap (λ (y : Row). y.slot) first))) (λ later. later) (listed_cases x rs r has))
]

word_none : (rs : List Row) (slot : ℕ) → ((x : Row) → Contains rs x → x.slot ≢ slot) → word_in rs slot ≡ 0
word_none [] slot none = refl
word_none (x ∷ rs) slot none =
    ap (λ (t : Bool). if t then count_word x.rfc x.uc else word_in rs slot) (other_test x.slot slot (none x (listed_here x rs)))
    ∙ word_none rs slot (λ y has. none y (listed_later x rs y has))

slot_listed : (rs : List Row) (slot : ℕ) → ((r : Row) × Contains rs r × (r.slot ≡ slot)) ⊎ ((x : Row) → Contains rs x → x.slot ≢ slot)
slot_listed [] slot = inr (λ x has. absurd (omega (arith, has.1)))
slot_listed (x ∷ rs) slot = elim (cases_eq x.slot slot) [
  | inl here ↦ inl (x, listed_here x rs, here)
  | inr there ↦ ⊎_elim (λ found. inl (found.0, listed_later x rs found.0 found.1, found.2))
      (λ none. inr (λ y has. ⊎_elim (λ (first : x ≡ y). λ at. there (ap (λ (z : Row). z.slot) first ∙ at)) (λ later. none y later)
      (listed_cases x rs y has))) (slot_listed rs slot)
]

module _ (d e : Disk) (row : Row) (put : HasPut d row e) (valid : IsValid d) where
  one_at : (x y : Row) → Contains (rows e) x → Contains (rows e) y → x.slot ≡ y.slot → x ≡ y
  one_at = distinct_same (λ (x : Row). x.slot) (rows e) put.next.valid.rows_apart.slot

  one_was : (x y : Row) → Contains (rows d) x → Contains (rows d) y → x.slot ≡ y.slot → x ≡ y
  one_was = distinct_same (λ (x : Row). x.slot) (rows d) valid.rows_apart.slot

  pub put_words : (word : ℕ) → word ≡ count_word row.rfc row.uc → (other : ℕ)
      → word_at e other ≡ word_after (record { slot = row.slot; word = word } ∷ []) other (word_at d other)
  put_words word is other = elim (cases_eq row.slot other) [
    | inl here ↦
        ap (word_in (rows e)) (sym here) ∙ word_listed (rows e) row one_at put.puts.here ∙ sym is
        ∙ sym (ap (λ (t : Bool). if t then word else word_at d other) (same_test row.slot other here))
    | inr there ↦
        same other there (slot_listed (rows d) other)
        ∙ sym (ap (λ (t : Bool). if t then word else word_at d other) (other_test row.slot other there))
  ]
    where
      same : (x : ℕ) → row.slot ≢ x → ((r : Row) × Contains (rows d) r × (r.slot ≡ x)) ⊎ ((y : Row) → Contains (rows d) y → y.slot ≢ x)
          → word_in (rows e) x ≡ word_in (rows d) x
      same x ne (inl found) =
          ap (word_in (rows e)) (sym found.2) ∙ word_listed (rows e) found.0 one_at (put.puts.kept found.0 found.1)
          ∙ sym (word_listed (rows d) found.0 one_was found.1) ∙ ap (word_in (rows d)) found.2
      same x ne (inr none) = word_none (rows e) x (λ y has. ⊎_elim (λ (new : y ≡ row). λ at. ne (sym (ap (λ (z : Row). z.slot) new) ∙ at))
          (λ old. none y old) (put.puts.only y has)) ∙ sym (word_none (rows d) x none)
