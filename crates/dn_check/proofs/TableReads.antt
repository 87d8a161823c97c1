-- An image that is read up to its links, and the table of which is read, passes the rules up to its pointers.
use Rattle.std.proofs.Common.{◌≡◌, inl, inr, ℕ, ◌+◌, ◌<◌, ◌≤◌, List, map, get_or, Vec, Global, refl, sym, ◌∙◌, ap, subst, arith}
use Rattle.std.specs.Prelude.{slice_index, Contains, All, Bool, true, false, not, ◌==◌, Option, Some, None, is_some, IsSome, IsNone}
use Rattle.std.proofs.lemmas.Bool.{cases_eq, cases_lt}
use Rattle.std.proofs.lemmas.List.Elements.{Contains-get_or}
use Rattle.pm_device.specs.Reading.{Reads}
use Rattle.pm_layout.specs.declared.Geometry.{Geometry}
use Rattle.pm_layout.specs.Geometry.{directs, slots, pointer_word}
use Rattle.dn_model.specs.Rolled.{rolled}
use Rattle.dn_model.specs.Table.{Row as TableRow, row_of}
use Rattle.dn_model.specs.Disk.{Disk, PagesSay, rows}
use Rattle.dn_model.specs.Faults.{IsLeast, HasLinks, HasTable, HasPointers, FaultOf, bad_table, bad_pointer, TableFault}
use Rattle.dn_model.specs.declared.fault.ImageFault.TheVariants.{BadPointer}
use Rattle.law_table.proofs.Rows.{same_test, other_test, none_found, row_found}
use Rattle.law_table_read.specs.Tables.{HasChains}
use Rattle.law_image_fault.proofs.ReadDisk.{read_disk, has_table, pointers_read}
use Rattle.fact_scan.specs.declared.row.Row.{Row}
use Rattle.fact_scan.specs.declared.scan.ScanFault.{ScanFault}
use Rattle.fact_scan.specs.declared.scan.ScanFault.TheVariants.{BadTable as BadRows, NoMemory as NoMemoryForRows}
use Rattle.fact_scan.specs.Seen.{as_row}
use Rattle.fact_scan.specs.Scan.{HasRows, IsFaultOf}
use Rattle.fact_table.specs.Loaded.{ArePointers, IsWrong}
use Rattle.fact_table.proofs.Whole.{page_small, disk_of, wrong_bad, bad_wrong, all_found}
use Rattle.image_logs.specs.declared.logs.LogsRead.{LogsRead}
use Rattle.image_logs.specs.Logs.{AreRead, IsSaid}
use Rattle.dn_check.specs.Halting.{halt_of_scan}
use Rattle.dn_check.specs.declared.read.TableRead.{TableRead}
use Rattle.dn_check.specs.Passing.{IsRolled, IsTableHalt, IsMisled, IsTableRead, Marks, Passes, AreLinked, IsReadOfEach}
use Rattle.dn_check.proofs.Reading.{along, said}

-- the fault of the rows is the image's, where it passes the rules before
pub rows_halt : (g : Geometry) (r : List ℕ) (fault : ScanFault) → IsFaultOf g r fault → IsTableHalt g r (halt_of_scan fault)
rows_halt g r (BadRows slot) is = λ c d rolled_is links.
    bad_table d slot links (subst (λ (h : Geometry). TableFault h (rolled c) slot) (sym links.logs.inodes.geometry)
    (along c g r rolled_is (λ h words. TableFault h words slot) is))
rows_halt g r NoMemoryForRows is = tt

-- a pointer is wrong where the page is misled
module _ (g : Geometry) (r : List ℕ) (rs : List TableRow) (has : HasRows g r (directs g) rs) (wanted : List ℕ) (are : ArePointers g rs wanted) where
  abbrev seen : Disk
  seen = disk_of g r has.chain

  rows_are : rows seen ≡ rs
  unfolding rows
  rows_are = sym has.rows_are

  pub misled_from : (page : ℕ) → IsWrong g r wanted page → IsMisled g r rs page
  misled_from page wrong = elim (wrong_bad g r rs has wanted are page wrong) [
    | inl past ↦ inl past
    | inr bad ↦ inr (bad.0, subst (λ (xs : List TableRow). Contains xs bad.0) rows_are bad.1, bad.2, bad.3)
  ]

  pub wrong_from : (page : ℕ) → IsMisled g r rs page → IsWrong g r wanted page
  wrong_from page (inl past) = inl past
  wrong_from page (inr bad) = bad_wrong g r rs has wanted are page
      (inr (bad.0, subst (λ (xs : List TableRow). Contains xs bad.0) (sym rows_are) bad.1, bad.2, bad.3))

  some_row : (o : Option TableRow) → IsSome o → is_some o ≡ true
  some_row None some = cc
  some_row (Some row) some = refl

  no_row : (o : Option TableRow) → IsNone o → is_some o ≡ false
  no_row None none = refl
  no_row (Some row) none = cc

  -- a pointer is wanted of a page with a row
  pub marked_rows : (page : ℕ) → not (slice_index wanted page == 0) ≡ is_some (row_of rs page)
  marked_rows page = elim (cases_eq (slice_index wanted page) 0) [
    | inl none ↦ ap not (same_test (slice_index wanted page) 0 none)
        ∙ sym (no_row (row_of rs page) (none_found rs page (λ row there e. are.some row there (ap (slice_index wanted) e ∙ none))))
    | inr some ↦ ap not (other_test (slice_index wanted page) 0 some)
        ∙ sym (let row = are.leads page some in some_row (row_of rs page) (subst (λ (p : ℕ). IsSome (row_of rs p)) row.2 (row_found rs row.0 row.1)))
  ]

-- what a table's words hold, as it is read
pub table_is_read : (g : Geometry) (r : List ℕ) (found : Vec Row Global) (has : HasRows g r (directs g) (map as_row found.items)) (wanted : List ℕ)
    → ArePointers g (map as_row found.items) wanted
    → ((page : ℕ) → page < g.pages → IsWrong g r wanted page → ⊥) → (marks : Vec Bool Global) → Marks wanted marks.items
    → IsTableRead g r (record { rows = found; has_row = marks })
table_is_read g r found has wanted are right marks marked = record {
  has = has;
  long = marked.long ∙ are.all;
  marked = λ page lt. marked.marked page (omega (arith, lt, are.all)) ∙ marked_rows g r (map as_row found.items) has wanted are page;
  led = λ page lt misled. right page lt (wrong_from g r (map as_row found.items) has wanted are page misled);
}

-- the state of an image whose links and rows are read
module _ (c : List ℕ) (d : Disk) (links : HasLinks c d) (rs : List TableRow) (has : HasRows d.geometry (rolled c) (directs d.geometry) rs) where
  abbrev chains : HasChains d.geometry (rolled c)
  chains = record { chain = has.chain; reads = has.read.reads; are_rows = has.read.valid; apart = has.read.apart }

  abbrev e : Disk
  e = read_disk (rolled c) d has.chain

  table : HasTable c e
  table = has_table c d links chains

  e_rows : rs ≡ rows e
  unfolding rows
  e_rows = has.rows_are

  abbrev IsBadPointer : ℕ → Type 0
  IsBadPointer page = IsMisled d.geometry (rolled c) rs page

  abbrev IsBadIn : ℕ → Type 0
  IsBadIn p = IsMisled d.geometry (rolled c) (rows e) p

  same_bad : (page : ℕ) → IsBadPointer page → IsBadIn page
  same_bad page = subst (λ (xs : List TableRow). IsMisled d.geometry (rolled c) rs page → IsMisled d.geometry (rolled c) xs page) e_rows (λ bad. bad)

  bad_same : (page : ℕ) → IsBadIn page → IsBadPointer page
  bad_same page = subst (λ (xs : List TableRow). IsMisled d.geometry (rolled c) xs page → IsMisled d.geometry (rolled c) rs page) e_rows (λ bad. bad)

  pub pointer_halts : (page : ℕ) → IsLeast d.geometry.pages IsBadPointer page → FaultOf c (BadPointer page)
  pointer_halts page least = bad_pointer e page table (pointers_read (rolled c) d has.chain)
      (record { below = least.below; has = same_bad page least.has; least = λ m lt bad. least.least m lt (bad_same m bad) })

  module _ (led : (page : ℕ) → page < d.geometry.pages → IsBadPointer page → ⊥) where
    small : (page : ℕ) → page < d.geometry.pages → slice_index (rolled c) (pointer_word d.geometry page) ≤ slots d.geometry
    small page lt = elim (cases_lt (slots d.geometry) (slice_index (rolled c) (pointer_word d.geometry page))) [
      | inl past ↦ absurd (led page lt (inl past))
      | inr le ↦ le
    ]

    page_inside : (row : TableRow) → Contains (rows e) row → row.page < d.geometry.pages
    page_inside row there = page_small d.geometry (rolled c) rs has row (subst (λ (xs : List TableRow). Contains xs row) (sym e_rows) there)

    leads : (row : TableRow) → Contains (rows e) row → slice_index (rolled c) (pointer_word d.geometry row.page) ≡ row.slot + 1
    leads row there = elim (cases_eq (slice_index (rolled c) (pointer_word d.geometry row.page)) (row.slot + 1)) [
      | inl same ↦ same
      | inr ne ↦ absurd (led row.page (page_inside row there) (bad_same row.page (inr (row, there, refl, ne))))
    ]

    pub pointers : HasPointers c e
    pointers = record {
      table = table;
      reads = pointers_read (rolled c) d has.chain;
      pointers = small;
      leads = λ k default lt. leads (get_or (rows e) k default) (Contains-get_or (rows e) k default lt);
    }

    pub pages : Reads (PagesSay e) (rolled c)
    pages a v says = ap (slice_index (rolled c)) says.place ∙ sym says.value

-- what is read of each image
module _ (c : List ℕ) (g : Geometry) (r : List ℕ) (is : IsRolled c g r) (d : Disk) (links : HasLinks c d) where
  same : g ≡ d.geometry
  same = is.geometry ∙ sym links.logs.inodes.geometry

  -- so of the state's geometry and the image's words
  here : (P : Geometry → List ℕ → Type 0) → P g r → P d.geometry (rolled c)
  here P p = subst (P d.geometry) is.words (subst (λ (h : Geometry). P h r) same p)

  module _ (rs : List TableRow) (has : HasRows g r (directs g) rs) where
    abbrev IsMisledAt : Geometry → List ℕ → ℕ → Type 0
    IsMisledAt h words page = IsLeast h.pages (IsMisled h words rs) page

    pub misled_halts : (page : ℕ) → IsLeast g.pages (IsMisled g r rs) page → FaultOf c (BadPointer page)
    misled_halts page least = pointer_halts c d links rs (here (λ h words. HasRows h words (directs h) rs) has) page
        (here (λ h words. IsMisledAt h words page) least)

  module _ (logs : LogsRead) (logs_read : AreRead g r logs) (read : TableRead) (table_read : IsTableRead g r read) where
    t : IsTableRead d.geometry (rolled c) read
    t = here (λ h words. IsTableRead h words read) table_read

    l : AreRead d.geometry (rolled c) logs
    l = here (λ h words. AreRead h words logs) logs_read

    has_pointers : HasPointers c (e c d links (map as_row read.rows.items) t.has)
    has_pointers = pointers c d links (map as_row read.rows.items) t.has t.led

    pub passes : Passes c g (record { logs = logs; table = read })
    passes = record {
      disk = e c d links (map as_row read.rows.items) t.has;
      geometry = sym same;
      pointers = has_pointers;
      pages = pages c d links (map as_row read.rows.items) t.has t.led;
      counted = l.counted (e c d links (map as_row read.rows.items) t.has)
          (subst (λ (h : Geometry). IsSaid h (rolled c) (e c d links (map as_row read.rows.items) t.has)) (sym links.logs.inodes.geometry)
          (said c (e c d links (map as_row read.rows.items) t.has) has_pointers.table.links.logs));
      rows_are = e_rows c d links (map as_row read.rows.items) t.has;
      marks = λ page lt. t.marked page lt ∙ ap (λ (xs : List TableRow). is_some (row_of xs page)) (e_rows c d links (map as_row read.rows.items)
          t.has);
    }

pub read_of_each : (g : Geometry) (r : List ℕ) (logs : LogsRead) (read : TableRead) → AreLinked g r → AreRead g r logs → IsTableRead g r read
    → IsReadOfEach g r (record { logs = logs; table = read })
read_of_each g r logs read linked logs_read table_read c is = let d = linked c is in passes c g r is d.0 d.1 logs logs_read read table_read

-- the least wrong pointer is the image's fault
pub pointer_fault_halts : (g : Geometry) (r : List ℕ) (rs : List TableRow) (has : HasRows g r (directs g) rs) (wanted : List ℕ)
    → ArePointers g rs wanted → (page : ℕ) → IsLeast g.pages (IsWrong g r wanted) page
    → (c : List ℕ) (d : Disk) → IsRolled c g r → HasLinks c d → FaultOf c (BadPointer page)
pointer_fault_halts g r rs has wanted are page least c d is links = misled_halts c g r is d links rs has page (record {
  below = least.below;
  has = misled_from g r rs has wanted are page least.has;
  least = λ m lt misled. least.least m lt (wrong_from g r rs has wanted are m misled);
})

-- each row's page is one of the image
pub pages_inside : (g : Geometry) (r : List ℕ) (found : List Row) → HasRows g r (directs g) (map as_row found)
    → All (λ (row : Row). row.page < g.pages) found
pages_inside g r found has = all_found found (λ row. row.page < g.pages) (page_small g r (map as_row found) has)
