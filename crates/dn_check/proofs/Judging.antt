-- What the numbers of an image that passes the rules up to the pointers tell.
use Rattle.std.proofs.Common.{◌≡◌, ◌≢◌, ℕ, ◌+◌, ◌<◌, ◌≤◌, Bool, List, ◌∷◌, ◌++◌, map, sym, ◌∙◌, ap, subst, arith}
use Rattle.std.specs.Prelude.{Contains, All}
use Rattle.std.proofs.lemmas.List.{map-append, length-map, get_or-map}
use Rattle.std.proofs.lemmas.List.Elements.{All-contains, All-map, Contains-append_left, Contains-append_right}
use Rattle.pm_layout.specs.declared.Geometry.{Geometry}
use Rattle.dn_model.specs.Table.{Row as TableRow}
use Rattle.dn_model.specs.Disk.{Disk, IsMapped, rows}
use Rattle.dn_model.specs.Counts.{mappings, IsNear, Near, Exact}
use Rattle.dn_model.specs.Image.{StandsFor}
use Rattle.dn_model.specs.Faults.{IsLeast, IsDouble, HasFree, FaultOf, double_mapped, bad_count, crowded}
use Rattle.dn_model.specs.declared.fault.ImageFault.TheVariants.{DoubleMapped, BadCount, Crowded}
use Rattle.law_unique.proofs.Counted.{free_one}
use Rattle.law_image_read.proofs.Stands.{passing}
use Rattle.law_image_fault.specs.Rules.{FreePages, are_few, are_two}
use Rattle.law_image_fault.proofs.Pages.{mapped_in_data, single_from}
use Rattle.law_image_fault.proofs.Frees.{free_pages_are_counted}
use Rattle.law_table.proofs.Rows.{all_listed, listed_here}
use Rattle.fact_scan.specs.declared.row.Row.{Row}
use Rattle.fact_scan.specs.Seen.{as_row}
use Rattle.image_uses.specs.Uses.{IsCounted, HasReadLogs, MarksRows}
use Rattle.dn_check.specs.declared.finding.Finding.{Finding}
use Rattle.dn_check.specs.declared.read.ImageRead.{ImageRead}
use Rattle.dn_check.specs.Finding.{Tells}
use Rattle.dn_check.specs.RowCounts.{IsNearBy, IsFirstFar, IsExactBy}
use Rattle.dn_check.specs.Passing.{IsWhole, Passes, IsStanding, AreNumbersRead}
use Rattle.dn_check.proofs.Sorting.{rows_sorted}
use Rattle.dn_check.proofs.Counts.{mapped_total}

-- counts and marks of the same lists
pub counted_as : (d : Disk) (xs ys xs' ys' : List ℕ) → xs' ≡ xs → ys' ≡ ys → IsCounted d xs ys → IsCounted d xs' ys'
counted_as d xs ys xs' ys' same_xs same_ys is = subst (λ (zs : List ℕ). IsCounted d zs ys') (sym same_xs) (subst (IsCounted d xs) (sym same_ys) is)

pub marks_as : (d : Disk) (xs xs' : List Bool) → xs' ≡ xs → MarksRows d xs → MarksRows d xs'
marks_as d xs xs' same is = subst (MarksRows d) (sym same) is

-- a row that is seen is one of those that are seen
map_there : (found : List Row) (row : Row) → Contains found row → Contains (map as_row found) (as_row row)
map_there found row there =
    let long = length-map found as_row in
    (there.0, omega (arith, long, there.1), get_or-map as_row found there.0 row (as_row row) there.1 ∙ ap as_row there.2)

module _ (c : List ℕ) (g : Geometry) (read : ImageRead) (whole : IsWhole g read) (p : Passes c g read) where
  abbrev d : Disk
  d = p.disk

  abbrev found : List Row
  found = read.table.rows.items

  abbrev mapped : List ℕ
  mapped = read.logs.mapped.items

  pages_are : d.geometry.pages ≡ g.pages
  pages_are = ap (λ (h : Geometry). h.pages) p.geometry

  pub counted : IsCounted d read.logs.in_logs.items read.logs.mapped.items
  counted = record {
    long_logs = whole.long_logs ∙ sym pages_are;
    long_mapped = whole.long_mapped ∙ sym pages_are;
    logs = p.counted.in_logs;
    places = p.counted.mapped;
  }

  logs_read : HasReadLogs d
  logs_read = p.pointers.table.links.logs.logs

  -- pages
  pub double_is : (page : ℕ) → ((e : Disk) → IsCounted e read.logs.in_logs.items read.logs.mapped.items → MarksRows e read.table.has_row.items
      → IsLeast e.geometry.pages (IsDouble e) page) → FaultOf c (DoubleMapped page)
  double_is page least = double_mapped d page p.pointers (least d counted p.marks)

  module _ (single : (e : Disk) → IsCounted e read.logs.in_logs.items read.logs.mapped.items → MarksRows e read.table.has_row.items → HasReadLogs e
      → (page : ℕ) → IsDouble e page → ⊥) where
    none : (page : ℕ) → IsDouble d page → ⊥
    none = single d counted p.marks logs_read

    -- counts
    inside : (row : Row) → Contains found row → row.page < d.geometry.pages
    inside row there = let lt = All-contains (λ (r : Row). r.page < g.pages) found row whole.pages there in omega (arith, lt, pages_are)

    near_is : (row : Row) → Contains found row → IsNearBy mapped row → IsNear d (as_row row)
    near_is row there near = subst (λ (n : ℕ). (n ≤ row.count.rfc + row.count.uc) × (row.count.rfc ≤ n + row.count.uc))
        (p.counted.mapped row.page (inside row there)) near

    is_near : (row : Row) → Contains found row → IsNear d (as_row row) → IsNearBy mapped row
    is_near row there near = subst (λ (n : ℕ). (n ≤ row.count.rfc + row.count.uc) × (row.count.rfc ≤ n + row.count.uc))
        (sym (p.counted.mapped row.page (inside row there))) near

    all_near : (rs : List Row) → ((row : Row) → Contains rs row → Contains found row) → All (IsNearBy mapped) rs → All (IsNear d) (map as_row rs)
    all_near rs there near = All-map (IsNear d) as_row rs (all_listed (λ row. IsNear d (as_row row)) rs
        (λ row at. near_is row (there row at) (All-contains (IsNearBy mapped) rs row near at)))

    pub far_is : (slot : ℕ) → IsFirstFar mapped found slot → FaultOf c (BadCount slot)
    far_is slot far =
        let rest = far.row ∷ far.rest in
        let in_front : (row : Row) → Contains far.front row → Contains found row =
        λ row there. subst (λ (rs : List Row). Contains rs row) (sym far.split) (Contains-append_left far.front rest row there) in
        let here : Contains found far.row = subst (λ (rs : List Row). Contains rs far.row) (sym far.split) (in_rest far.front far.row far.rest) in
        let split : rows d ≡ map as_row far.front ++ as_row far.row ∷ map as_row far.rest = sym p.rows_are ∙ ap (map as_row) far.split ∙ map-append
        as_row far.front rest in
        subst (λ (n : ℕ). FaultOf c (BadCount n)) (sym far.slot_is)
        (bad_count d (map as_row far.front) (map as_row far.rest) (as_row far.row) p.pointers none split (all_near far.front in_front far.near)
        (λ near. far.far (is_near far.row here near)))
      where
        in_rest : (front : List Row) (row : Row) (rest : List Row) → Contains (front ++ row ∷ rest) row
        in_rest front row rest = Contains-append_right front (row ∷ rest) row (listed_here row rest)

    module _ (near : All (IsNearBy mapped) found) where
      near_d : Near d
      near_d = subst (All (IsNear d)) p.rows_are (all_near found (λ row there. there) near)

      -- free pages
      pub crowded_is : (free : ℕ) → ((e : Disk) → e.geometry ≡ g → IsCounted e read.logs.in_logs.items read.logs.mapped.items → HasFree e free)
          → free < 2 → FaultOf c (Crowded free)
      crowded_is free has few = crowded d free p.pointers none near_d (has d p.geometry counted) few

      module _ (free : ℕ) (has : (e : Disk) → e.geometry ≡ g → IsCounted e read.logs.in_logs.items read.logs.mapped.items → HasFree e free)
          (many : 2 ≤ free) where
        has_free : HasFree d free
        has_free = has d p.geometry counted

        by_free : FreePages d → StandsFor c d
        by_free (are_few n is few) = let same = free_one d n free is has_free in absurd (omega (arith, same, few, many))
        by_free (are_two one other ne free_one free_other) = passing c d p.pointers p.pages (single_from d none) near_d one other ne free_one
            free_other

        pub standing : IsStanding c d free
        standing = record { stands = by_free (free_pages_are_counted d); single = none; free_is = has_free }

  module _ (free : ℕ) (is : IsStanding c d free) where
    inside_row : (row : Row) → Contains found row → row.page < d.geometry.pages
    inside_row row there = let lt = All-contains (λ (r : Row). r.page < g.pages) found row whole.pages there in omega (arith, lt, pages_are)

    -- exactness
    abbrev IsExactRow : TableRow → Type 0
    IsExactRow row = (row.uc ≡ 0) × (row.rfc ≡ mappings d row.page) × (row.rfc ≢ 0)

    exact_row : (row : Row) → Contains found row → IsExactBy mapped row → IsExactRow (as_row row)
    exact_row row there is = (is.0, is.1 ∙ p.counted.mapped row.page (inside_row row there), is.2)

    row_exact : (row : Row) → Contains found row → IsExactRow (as_row row) → IsExactBy mapped row
    row_exact row there is = (is.0, is.1 ∙ sym (p.counted.mapped row.page (inside_row row there)), is.2)

    exact_disk : All (IsExactBy mapped) found → Exact d
    exact_disk all = record {
      counts = subst (All IsExactRow) p.rows_are
          (All-map IsExactRow as_row found (all_listed (λ row. IsExactRow (as_row row)) found
          (λ row there. exact_row row there (All-contains (IsExactBy mapped) found row all there))));
      unshared = (single_from d is.single).unshared;
    }

    disk_exact : Exact d → All (IsExactBy mapped) found
    disk_exact exact = all_listed (IsExactBy mapped) found (λ row there.
        row_exact row there (All-contains IsExactRow (map as_row found) (as_row row) (subst (All IsExactRow) (sym p.rows_are) exact.counts)
        (map_there found row there)))

    mapped_inside : (page : ℕ) → IsMapped d page → page < d.geometry.pages
    mapped_inside page is = (mapped_in_data d logs_read page is).high

    pub numbers_are : (finding : Finding) → AreNumbersRead read.logs found free finding → Tells c finding
    numbers_are finding are = subst (Tells c) (sym are.is) (
      d,
      is.stands,
      record {
        files_are = p.counted.files;
        dying_are = p.counted.dying;
        rows_are = rows_sorted found are.sorted are.same are.order d p.rows_are p.pointers.table.rows_apart;
        mapped_are = mapped_total d are.mapped mapped_inside (are.mapped_is d read.logs.in_logs.items counted logs_read);
        free_are = is.free_is;
        exact_is = (λ t. exact_disk (are.exact_is.0 t), λ exact. are.exact_is.1 (disk_exact exact));
      },
    )
