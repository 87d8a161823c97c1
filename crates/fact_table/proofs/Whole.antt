-- A table of which all rows and pointers are read.
use Rattle.std.proofs.Common.{◌≡◌, ◌≢◌, inl, inr, ⊎_elim, ℕ, ◌+◌, ◌*◌, ◌<◌, List, length, map, get_or, refl, sym, ◌∙◌, ap, subst, arith}
use Rattle.std.specs.Prelude.{slice_index, slice_get, Some, Contains, All}
use Rattle.std.proofs.lemmas.Bool.{cases_eq, cases_lt}
use Rattle.std.proofs.lemmas.List.{length-map, get_or-map}
use Rattle.pm_layout.specs.declared.Geometry.{Geometry}
use Rattle.pm_layout.specs.Geometry.{IsAccepted, directs, slots, pointer_word}
use Rattle.page_alloc.specs.Free.{FreePages}
use Rattle.dn_model.specs.Log.{no_log}
use Rattle.dn_model.specs.Table.{Row}
use Rattle.dn_model.specs.Disk.{Disk, Free, rows}
use Rattle.dn_model.specs.Valid.{IsRow, AreApart}
use Rattle.dn_model.specs.Faults.{IsLeast}
use Rattle.fact_scan.specs.declared.row.Row.{Row as FoundRow}
use Rattle.fact_scan.specs.Seen.{as_row}
use Rattle.fact_scan.specs.declared.scan.ScanFault.{ScanFault}
use Rattle.fact_scan.specs.declared.scan.ScanFault.TheVariants.{BadTable, NoMemory}
use Rattle.fact_scan.specs.Scan.{HasRows, IsFaultOf as IsScanFaultOf}
use Rattle.fact_scan.proofs.Listed.{place_of, listed, get_at, chain_of}
use Rattle.fact_table.specs.Table.{HasTable, IsTable}
use Rattle.fact_table.specs.Loaded.{ReadsAs, IsBadPointer, PointerFault, ArePointers, IsWrong, AreUnused, HasRowsOf, told, IsFaultOf}

-- what such words stand for, as far as they are read
abbrev pub disk_of : Geometry → List ℕ → (ℕ → List Row) → Disk
disk_of g words chain = record {
  geometry = g;
  inode = λ ino. record { use_of = Free; log = no_log };
  chain = chain;
  pointer = λ page. slice_index words (pointer_word g page);
  word = λ page k. 0;
}

module _ (g : Geometry) (words : List ℕ) (rs : List Row) (has : HasRows g words (directs g) rs) where
  abbrev d : Disk
  d = disk_of g words has.chain

  rows_are : rows d ≡ rs
  unfolding rows
  rows_are = sym has.rows_are

  into : (row : Row) → Contains rs row → Contains (rows d) row
  into row there = subst (λ (xs : List Row). Contains xs row) (sym rows_are) there

  from : (row : Row) → Contains (rows d) row → Contains rs row
  from row there = subst (λ (xs : List Row). Contains xs row) rows_are there

  apart : AreApart rs
  apart = subst AreApart (sym has.rows_are) has.read.apart

  reads_as : ReadsAs g words d
  reads_as = record {
    geometry = refl;
    chains = λ a v says. has.read.reads says.prefix says.direct a v says.says;
    pointers = λ a v says. ap (slice_index words) says.place ∙ sym says.value;
    valid = λ p k row lt got. has.read.valid p k row lt got;
    apart = subst AreApart (sym rows_are) apart;
  }

  row_valid : (row : Row) → Contains rs row → (q : ℕ) × (k : ℕ) × (q < directs g) × IsRow g q k row
  row_valid row there =
      let found = chain_of has.chain 0 (directs g) row (subst (λ (xs : List Row). Contains xs row) has.rows_are there) in
      let lt : found.prefix < directs g = omega (arith, found.lt) in
      (found.prefix, found.place, lt, has.read.valid found.prefix found.place row lt found.got)

  pub page_small : (row : Row) → Contains rs row → row.page < g.pages
  page_small row there = (row_valid row there).3.data_page.high

  pub slot_small : (row : Row) → Contains rs row → row.slot < slots g
  slot_small row there =
      let valid = row_valid row there in
      elim valid.3.place [
        | inl own ↦ omega (arith, own.0, valid.2)
        | inr far ↦ far.1
      ]

  -- two rows of one page are one
  one_row : (r s : Row) → Contains rs r → Contains rs s → r.page ≡ s.page → r ≡ s
  one_row r s there_r there_s same =
      let at_r = place_of rs r there_r in
      let at_s = place_of rs s there_s in
      let here = apart.page at_r.0 at_s.0 r s at_r.1 at_s.1 same in
      some_one r s (sym at_r.1 ∙ ap (slice_get rs) here ∙ at_s.1)
    where
      some_one : (r s : Row) → Some r ≡ Some s → r ≡ s
      some_one r s e = cc

  module _ (wanted : List ℕ) (are : ArePointers g rs wanted) where
    pub wrong_bad : (page : ℕ) → IsWrong g words wanted page → IsBadPointer d page
    wrong_bad page (inl past) = inl past
    wrong_bad page (inr other) = let row = are.leads page other.0 in inr (row.0, into row.0 row.1, row.2, λ e. other.1 (e ∙ sym row.3))

    pub bad_wrong : (page : ℕ) → IsBadPointer d page → IsWrong g words wanted page
    bad_wrong page (inl past) = inl past
    bad_wrong page (inr bad) =
        let row = bad.0 in
        let some : slice_index wanted page ≢ 0 = subst (λ (p : ℕ). slice_index wanted p ≢ 0) bad.2 (are.some row (from row bad.1)) in
        let led = are.leads page some in
        let one : led.0 ≡ row = one_row led.0 row led.1 (from row bad.1) (led.2 ∙ sym bad.2) in
        inr (some, λ e. bad.3 (e ∙ led.3 ∙ ap (λ (r : Row). r.slot + 1) one))

    pub pointer_fault : (page : ℕ) → IsLeast g.pages (IsWrong g words wanted) page → PointerFault g words page
    pointer_fault page is = record {
      disk = d;
      read = reads_as;
      least = record { below = is.below; has = wrong_bad page is.has; least = λ m lt bad. is.least m lt (bad_wrong m bad) };
    }

    pub whole : IsAccepted g → length words ≡ 512 * g.pages → ((page : ℕ) → page < g.pages → ¬ IsWrong g words wanted page) → (free : FreePages)
        → AreUnused g rs free → HasTable words (record { geometry = g; free = free })
    whole accepted size right free unused = record {
      disk = d;
      is = record {
        geometry = refl;
        accepted = accepted;
        size = size;
        says = λ a v. ⊎_elim (reads_as.chains a v) (reads_as.pointers a v);
        good = record {
          table = reads_as.valid;
          apart = reads_as.apart;
          pointers = λ page lt. elim (cases_lt (slots g) (slice_index words (pointer_word g page))) [
            | inl past ↦ absurd (right page lt (inl past))
            | inr within ↦ within
          ];
          leads = λ k default lt. leads (get_or (rows d) k default) (listed (rows d) k (get_or (rows d) k default) (get_at (rows d) k default lt));
        };
        set = unused.all;
        free = λ k in_set row there. unused.free k in_set row (from row there);
        taken = λ k lt not_in. let row = unused.taken k lt not_in in record {
          row = row.0;
          is = record { there = into row.0 row.1; slot_is = row.2 };
        };
      };
    }
      where
        leads : (row : Row) → Contains (rows d) row → slice_index words (pointer_word g row.page) ≡ row.slot + 1
        leads row there = elim (cases_eq (slice_index words (pointer_word g row.page)) (row.slot + 1)) [
          | inl e ↦ e
          | inr ne ↦ absurd (right row.page (page_small row (from row there)) (bad_wrong row.page (inr (row, there, refl, ne))))
        ]

-- what is true of the rows is true of them as they are answered
pub all_found : (found : List FoundRow) (P : Row → Type 0) → ((row : Row) → Contains (map as_row found) row → P row) → All (λ r. P (as_row r)) found
all_found found P holds k default lt =
    let r = get_or found k default in
    let long = length-map found as_row in
    holds (as_row r) (k, omega (arith, long, lt), get_or-map as_row found k default (as_row r) lt)

-- the fault of the rows is the fault that is told
pub told_fault : (g : Geometry) (words : List ℕ) (fault : ScanFault) → IsScanFaultOf g words fault → IsFaultOf g words (told fault)
told_fault g words (BadTable slot) is = is
told_fault g words NoMemory is = tt

-- rows that were read are the table's, and the set has the slots that none of them has
pub table_of : (d : Disk) (g : Geometry) (words : List ℕ) (rs : List Row) (free : FreePages) → IsAccepted g → HasRowsOf d g words rs
    → AreUnused g rs free → IsTable d words (record { geometry = g; free = free })
table_of d g words rs free accepted has unused = record {
  geometry = has.geometry;
  accepted = accepted;
  size = has.size;
  says = has.says;
  good = has.good;
  set = unused.all;
  free = λ k in_set row there is. unused.free k in_set row (subst (λ (xs : List Row). Contains xs row) has.rows_are there) is;
  taken = λ k lt not_in. let row = unused.taken k lt not_in in record {
    row = row.0;
    is = record {
      there = subst (λ (xs : List Row). Contains xs row.0) (sym has.rows_are) row.1;
      slot_is = row.2;
    };
  };
}
