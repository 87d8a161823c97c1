-- A row gets a slot, and the table with it.
use Rattle.std.proofs.Common.{◌≡◌, ◌≢◌, inl, inr, ⊎_elim, ℕ, ◌+◌, ◌-◌, ◌*◌, ◌<◌, ◌≤◌, List, [], length, refl, sym, ◌∙◌, ap, subst, arith}
use Rattle.std.specs.Prelude.{slice_index, Contains}
use Rattle.std.proofs.lemmas.Bool.{cases_eq}
use Rattle.pm_device.specs.State.{State}
use Rattle.pm_device.specs.Reading.{Stands}
use Rattle.pm_layout.specs.declared.Geometry.{Geometry}
use Rattle.pm_layout.specs.Geometry.{InData, IsAccepted, slot_word, directs, slots, first_data}
use Rattle.dn_model.specs.Table.{Row, prefix_of, at_row}
use Rattle.dn_model.specs.Disk.{Disk, TableSays, rows}
use Rattle.dn_model.specs.Valid.{HasGoodRows}
use Rattle.law_table.specs.Words.{HoldsTable}
use Rattle.law_table.specs.Rows.{IsFreshRow, MayPutRow, PutsRow}
use Rattle.law_table.proofs.Rows.{distinct_same}
use Rattle.law_table.proofs.TableRows.{of_chain, is_row, prefix_small}
use Rattle.law_table.proofs.Slots.{field_said}
use Rattle.law_table.proofs.Pointed.{rows_repointed, pointed_may_put}
use Rattle.law_table.proofs.Opened.{opening_decides, opening_puts_row}
use Rattle.law_table.proofs.Linked.{link_decides, link_puts_row}
use Rattle.fact_table.specs.Table.{Table, IsTable, HasRow, HasNoneAt, TakesSlot}
use Rattle.fact_table.proofs.Tables.{page_word, head_of, in_rows}
use Rattle.fact_rows.specs.Put.{
  new_row,
  pointed,
  opened_with,
  linked_with,
  MayPutAt,
  CanPutAt,
  LeavesOpened,
  MakesOpened,
  SettlesOpened,
  LeavesLinked,
  MakesLinked,
  SettlesLinked,
}
use Rattle.fact_changes.specs.Insertion.{MayInsert, HasInserted, IsInserting, opens, links}
use Rattle.fact_changes.proofs.Pigeons.{Hits, pigeons}

-- page 0 isn't one of the data area
first_some : (g : Geometry) → 0 < first_data g
unfolding first_data
first_some g = omega arith

-- a row at the k-th indirect slot, whose page is v + 1
record IsAt (d : Disk) (t : Table) (k v : ℕ) : Type 0 where
  row : Row
  there : Contains (rows d) row
  slot_is : row.slot ≡ directs t.geometry + k
  page_is : row.page ≡ v + 1

-- words that hold the table of a disk with good rows have this table, where its set is right
pub table_of : (e : Disk) (words : List ℕ) (t : Table) → e.geometry ≡ t.geometry → IsAccepted t.geometry → length words ≡ 512 * t.geometry.pages
    → HoldsTable words e → HasGoodRows e → t.free.pages ≡ t.geometry.pages
    → ((k : ℕ) → Contains t.free.free k → HasNoneAt e (directs t.geometry + k)) → ((k : ℕ) → k < t.geometry.pages → ¬ Contains t.free.free k
    → HasRow e (directs t.geometry + k)) → IsTable e words t
table_of e words t geometry accepted size holds good set free taken = record {
  geometry = geometry;
  accepted = accepted;
  size = size;
  says = holds;
  good = good;
  set = set;
  free = free;
  taken = taken;
}

-- the geometry of the disk of a table is accepted
pub accepted_disk : (d : Disk) (words : List ℕ) (t : Table) → IsTable d words t → IsAccepted d.geometry
accepted_disk d words t is = subst IsAccepted (sym is.geometry) is.accepted

module _ (d : Disk) (words : List ℕ) (t : Table) (print : List ℕ) (page : ℕ) (may : MayInsert d words t print page) where
  abbrev is : IsTable d words t
  is = may.table

  pub prefix_lt : prefix_of t.geometry print < directs t.geometry
  prefix_lt = prefix_small t.geometry print may.twenty_bytes.twenty may.twenty_bytes.bytes

  pub is_fresh : (prefix slot : ℕ) → prefix ≡ prefix_of t.geometry print → HasNoneAt d slot → IsFreshRow d prefix (new_row slot print page)
  is_fresh prefix slot prefix_is none = record {
    data_page = subst (λ (g : Geometry). InData g page) (sym is.geometry) may.data_page;
    twenty = may.twenty_bytes.twenty;
    bytes = may.twenty_bytes.bytes;
    prefix_is = ap (λ (k : Geometry). prefix_of k print) is.geometry ∙ sym prefix_is;
    rfc_fits = omega arith;
    uc_fits = omega arith;
    new_slot = none;
    new_print = may.new_print;
    new_page = may.new_page;
  }

  pub put_at : (prefix slot : ℕ) → prefix ≡ prefix_of t.geometry print → HasNoneAt d slot → MayPutAt d words t.geometry prefix slot print page
  put_at prefix slot prefix_is none = record { geometry = is.geometry; good = is.good; holds = is.says; fresh = is_fresh prefix slot prefix_is none }

  -- the direct slot has a row where its page word isn't 0
  pub none_direct : slice_index words (slot_word t.geometry (prefix_of t.geometry print) 0) ≡ 0 → HasNoneAt d (prefix_of t.geometry print)
  none_direct zero row has at =
      let in_chain = of_chain d row has in
      let valid = is_row d is.good in_chain.0 row in_chain.1 in_chain.2 in
      let told : TableSays d (slot_word d.geometry row.slot 0) row.page = inl (record {
        prefix = in_chain.0;
        direct = in_chain.1;
        says = at_row (field_said d.geometry row (d.chain in_chain.0) 0 (omega arith) in_chain.2);
      }) in
      let read : slice_index words (slot_word t.geometry (prefix_of t.geometry print) 0) ≡ row.page =
      subst (λ (k : Geometry). slice_index words (slot_word k (prefix_of t.geometry print) 0) ≡ row.page) is.geometry
      (subst (λ (p : ℕ). slice_index words (slot_word d.geometry p 0) ≡ row.page) at (is.says _ _ told)) in
      let some = first_some d.geometry in
      let low = valid.data_page.low in
      omega (arith, zero, read, some, low)

  pub row_direct : slice_index words (slot_word t.geometry (prefix_of t.geometry print) 0) ≢ 0 → HasRow d (prefix_of t.geometry print)
  row_direct some =
      let p = prefix_of t.geometry print in
      let head = head_of p (d.chain p) (λ none. some (page_word d words t is p prefix_lt ∙ none)) in
      record { row = head.0; is = record { there = in_rows d words t is p prefix_lt 0 head.0 head.1; slot_is = head.2 } }

  -- an indirect slot is free: the rows have different pages of the data area, so that they are fewer than the slots
  pub never_full : t.free.free ≡ [] → ⊥
  never_full none = pigeons (t.geometry.pages - 1) (IsAt d t) one hits
    where
      one : (j k v : ℕ) → IsAt d t j v → IsAt d t k v → j ≡ k
      one j k v a b =
          let same : a.row ≡ b.row = distinct_same (λ (r : Row). r.page) (rows d) is.good.apart.page a.row b.row a.there b.there
          (a.page_is ∙ sym b.page_is) in
          let slot : a.row.slot ≡ b.row.slot = ap (λ (r : Row). r.slot) same in
          omega (arith, slot, a.slot_is, b.slot_is)

      hits : (k : ℕ) → k < t.geometry.pages - 1 + 1 → Hits (t.geometry.pages - 1) (IsAt d t) k
      hits k lt =
          let has = is.taken k (omega arith) (λ (c : Contains t.free.free k). omega (arith, c.1, ap (λ (xs : List ℕ). length xs) none)) in
          let in_chain = of_chain d has.row has.is.there in
          let valid = is_row d is.good in_chain.0 has.row in_chain.1 in_chain.2 in
          let low = valid.data_page.low in
          let some = first_some d.geometry in
          let high = subst (λ (g : Geometry). has.row.page < g.pages) is.geometry valid.data_page.high in
          record {
            value = has.row.page - 1;
            small = omega (arith, low, some, high);
            related = record {
              row = has.row;
              there = has.is.there;
              slot_is = has.is.slot_is;
              page_is = omega (arith, low, some);
            };
          }

  -- the row in its direct slot
  module _ (none : HasNoneAt d (prefix_of t.geometry print)) where
    abbrev direct : ℕ
    direct = prefix_of t.geometry print

    abbrev direct_row : Row
    direct_row = new_row direct print page

    direct_small : direct < slots d.geometry
    direct_small = subst (λ (g : Geometry). direct < slots g) (sym is.geometry) (omega (arith, prefix_lt))

    pub put_direct : MayPutRow (pointed d direct_row) direct direct_row
    put_direct = pointed_may_put d direct direct_row (accepted_disk d words t is) is.good (is_fresh direct direct refl none) direct_small

    pub rows_direct : PutsRow direct_row (rows d) (rows (opened_with d direct print page))
    rows_direct = subst (λ (rs : List Row). PutsRow direct_row rs (rows (opened_with d direct print page))) (rows_repointed d page (direct + 1))
        (opening_puts_row (pointed d direct_row) direct direct_row put_direct)

    pub opened_table : (news : List ℕ) → length news ≡ 512 * t.geometry.pages → HoldsTable news (opened_with d direct print page)
        → IsTable (opened_with d direct print page) news t
    opened_table news size holds = table_of (opened_with d direct print page) news t is.geometry is.accepted size holds
        (opening_decides (pointed d direct_row) direct direct_row put_direct refl).good is.set
        (λ k has r there at. ⊎_elim (λ (e : r ≡ direct_row). let here : r.slot ≡ direct = ap (λ (x : Row). x.slot) e in
        omega (arith, here, at, prefix_lt))
        (λ (old : Contains (rows d) r). is.free k has r old at) (rows_direct.only r there))
        (λ k lt not. let has = is.taken k lt not in
        record { row = has.row; is = record { there = rows_direct.kept has.row has.is.there; slot_is = has.is.slot_is } })

  -- behind it
  module _ (slot : ℕ) (t' : Table) (takes : TakesSlot slot t t') where
    abbrev chained : Row
    chained = new_row slot print page

    abbrev holder : ℕ
    holder = prefix_of t.geometry print

    place : directs t.geometry + (slot - directs t.geometry) ≡ slot
    place = omega (arith, takes.indirect)

    listed_free : Contains t.free.free (slot - directs t.geometry)
    listed_free = subst (λ (xs : List ℕ). Contains xs (slot - directs t.geometry)) (sym takes.takes.rest) (0, omega arith, refl)

    pub none_taken : HasNoneAt d slot
    none_taken = subst (HasNoneAt d) place (is.free (slot - directs t.geometry) listed_free)

    pub slot_small : slot < slots d.geometry
    slot_small = subst (λ (g : Geometry). slot < slots g) (sym is.geometry) takes.small

    pub put_chained : MayPutRow (pointed d chained) holder chained
    put_chained = pointed_may_put d holder chained (accepted_disk d words t is) is.good (is_fresh holder slot refl none_taken) slot_small

    pub rows_chained : PutsRow chained (rows d) (rows (linked_with d holder slot print page))
    rows_chained = subst (λ (rs : List Row). PutsRow chained rs (rows (linked_with d holder slot print page))) (rows_repointed d page (slot + 1))
        (link_puts_row (pointed d chained) holder chained put_chained)

    free_now : (k : ℕ) → Contains t'.free.free k → HasNoneAt (linked_with d holder slot print page) (directs t.geometry + k)
    free_now k has r there at =
        let ne : k ≢ slot - directs t.geometry = λ e. takes.takes.gone (subst (Contains t'.free.free) e has) in
        ⊎_elim (λ (e : r ≡ chained). let here : r.slot ≡ slot = ap (λ (x : Row). x.slot) e in ne (omega (arith, here, at)))
        (λ (old : Contains (rows d) r). is.free k ((takes.takes.others k ne).0 has) r old at) (rows_chained.only r there)

    taken_now : (k : ℕ) → k < t.geometry.pages → ¬ Contains t'.free.free k → HasRow (linked_with d holder slot print page) (directs t.geometry + k)
    taken_now k lt not = elim (cases_eq k (slot - directs t.geometry)) [
      | inl e ↦ record { row = chained; is = record { there = rows_chained.here; slot_is = omega (arith, e, place) } }
      | inr ne ↦
          let has = is.taken k lt (λ c. not ((takes.takes.others k ne).1 c)) in
          record { row = has.row; is = record { there = rows_chained.kept has.row has.is.there; slot_is = has.is.slot_is } }
    ]

    pub linked_table : (news : List ℕ) → length news ≡ 512 * t.geometry.pages → HoldsTable news (linked_with d holder slot print page)
        → IsTable (linked_with d holder slot print page) news t'
    linked_table news size holds =
        let same = takes.geometry in
        table_of (linked_with d holder slot print page) news t' (is.geometry ∙ sym same) (subst IsAccepted (sym same) is.accepted)
        (size ∙ ap (λ (g : Geometry). 512 * g.pages) (sym same)) holds
        (link_decides (pointed d chained) holder chained put_chained (subst (λ (g : Geometry). directs g ≤ slot) (sym is.geometry) takes.indirect)
        slot_small).good
        (takes.takes.pages ∙ is.set ∙ ap (λ (g : Geometry). g.pages) (sym same))
        (λ k. subst (λ (g : Geometry). Contains t'.free.free k → HasNoneAt (linked_with d holder slot print page) (directs g + k)) (sym same)
        (free_now k))
        (λ k. subst (λ (g : Geometry). k < g.pages → ¬ Contains t'.free.free k → HasRow (linked_with d holder slot print page) (directs g + k))
        (sym same) (taken_now k))

-- the clauses, where the code holds the geometry and the direct slot
module _ (d : Disk) (s : State) (t : Table) (print : List ℕ) (page : ℕ) (may : MayInsert d s.now t print page) (direct : ℕ) (k : Geometry)
    (direct_is : direct ≡ prefix_of t.geometry print) (same : k ≡ t.geometry) where
  abbrev prefix : ℕ
  prefix = prefix_of t.geometry print

  word_here : (v : ℕ) → slice_index s.now (slot_word k direct 0) ≡ v → slice_index s.now (slot_word t.geometry prefix 0) ≡ v
  word_here v read = subst (λ (p : ℕ). slice_index s.now (slot_word t.geometry p 0) ≡ v) direct_is
      (subst (λ (g : Geometry). slice_index s.now (slot_word g direct 0) ≡ v) same read)

  put_here : (slot : ℕ) → HasNoneAt d slot → MayPutAt d s.now k direct slot print page
  put_here slot none = subst (λ (g : Geometry). MayPutAt d s.now g direct slot print page) (sym same) (put_at d s.now t print page may direct slot
      direct_is none)

  -- in the direct slot
  module _ (zero : slice_index s.now (slot_word k direct 0) ≡ 0) where
    none : HasNoneAt d prefix
    none = none_direct d s.now t print page may (word_here 0 zero)

    open_at : MayPutAt d s.now t.geometry prefix prefix print page
    open_at = put_at d s.now t print page may prefix prefix refl none

    pub can_open : CanPutAt s.now k direct direct print page
    can_open = record { disk = d; may = put_here direct (subst (HasNoneAt d) (sym direct_is) none) }

    pub insert_opens : (u : State) → LeavesOpened k direct print page s u → Stands (TableSays d) s → IsInserting d t t print page s u
    insert_opens u leaves =
        let here : LeavesOpened t.geometry prefix print page s u = subst (λ (p : ℕ). LeavesOpened t.geometry p print page s u) direct_is
        (subst (λ (g : Geometry). LeavesOpened g direct print page s u) same leaves) in
        λ stands. record { slot = prefix; disk = opened_with d prefix print page; inserts = opens none; leaves = here d open_at stands }

    pub made_opens : (u : State) → length u.now ≡ length s.now → MakesOpened k direct print page s u → SettlesOpened k direct print page s u
        → HasInserted d t t print page direct s u
    made_opens u long makes settles =
        let here : MakesOpened t.geometry prefix print page s u = subst (λ (p : ℕ). MakesOpened t.geometry p print page s u) direct_is
        (subst (λ (g : Geometry). MakesOpened g direct print page s u) same makes) in
        let settled : SettlesOpened t.geometry prefix print page s u = subst (λ (p : ℕ). SettlesOpened t.geometry p print page s u) direct_is
        (subst (λ (g : Geometry). SettlesOpened g direct print page s u) same settles) in
        subst (λ (p : ℕ). HasInserted d t t print page p s u) (sym direct_is) (record {
          disk = opened_with d prefix print page;
          inserts = opens none;
          table = opened_table d s.now t print page may none u.now (long ∙ may.table.size) (here d open_at);
          settled = settled d open_at;
        })

  -- behind it
  module _ (some : slice_index s.now (slot_word t.geometry direct 0) ≢ 0) (slot : ℕ) (t' : Table) (takes : TakesSlot slot t t') where
    has_row : HasRow d prefix
    has_row = row_direct d s.now t print page may (λ zero. some (subst (λ (p : ℕ). slice_index s.now (slot_word t.geometry p 0) ≡ 0) (sym direct_is)
        zero))

    none_there : HasNoneAt d slot
    none_there = none_taken d s.now t print page may slot t' takes

    link_at : MayPutAt d s.now t.geometry prefix slot print page
    link_at = put_at d s.now t print page may prefix slot refl none_there

    pub can_link : CanPutAt s.now k direct slot print page
    can_link = record { disk = d; may = put_here slot none_there }

    pub insert_links : (u : State) → LeavesLinked k direct slot print page s u → Stands (TableSays d) s → IsInserting d t t' print page s u
    insert_links u leaves =
        let here : LeavesLinked t.geometry prefix slot print page s u = subst (λ (p : ℕ). LeavesLinked t.geometry p slot print page s u) direct_is
        (subst (λ (g : Geometry). LeavesLinked g direct slot print page s u) same leaves) in
        λ stands. record { slot = slot; disk = linked_with d prefix slot print page; inserts = links has_row takes; leaves = here d link_at stands }

    pub made_links : (u : State) → length u.now ≡ length s.now → MakesLinked k direct slot print page s u → SettlesLinked k direct slot print page s u
        → HasInserted d t t' print page slot s u
    made_links u long makes settles =
        let here : MakesLinked t.geometry prefix slot print page s u = subst (λ (p : ℕ). MakesLinked t.geometry p slot print page s u) direct_is
        (subst (λ (g : Geometry). MakesLinked g direct slot print page s u) same makes) in
        let settled : SettlesLinked t.geometry prefix slot print page s u = subst (λ (p : ℕ). SettlesLinked t.geometry p slot print page s u)
        direct_is (subst (λ (g : Geometry). SettlesLinked g direct slot print page s u) same settles) in
        record {
          disk = linked_with d prefix slot print page;
          inserts = links has_row takes;
          table = linked_table d s.now t print page may slot t' takes u.now (long ∙ may.table.size) (here d link_at);
          settled = settled d link_at;
        }
