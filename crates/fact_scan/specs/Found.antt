-- What was read of a table so far, and how one row more is taken.
use Rattle.std.specs.Prelude.{
  ◌≡◌,
  ℕ,
  ◌+◌,
  ◌-◌,
  ◌^◌,
  ◌<◌,
  ◌≤◌,
  Bool,
  true,
  if◌then◌else◌,
  List,
  [],
  ◌∷◌,
  ◌++◌,
  length,
  map,
  Contains,
}
use Rattle.std.specs.Ordering.{nat_cmp}
use Rattle.std.specs.Cmp.Lexicographic.{slice_cmp}
use Rattle.std.specs.BTreeMap.{is_at}
use Rattle.std.specs.BTreeSet.{contains}
use Rattle.pm_layout.specs.declared.Geometry.{Geometry}
use Rattle.pm_layout.specs.Geometry.{InData, directs}
use Rattle.fingerprint.specs.Print.{IsPrint}
use Rattle.page_alloc.specs.Free.{GivesBack}
use Rattle.dn_model.specs.Table.{Row, rows_from, prefix_of}
use Rattle.dn_model.specs.Faults.{RowStands, IsDirectNext, IsReached, ComesNext}
use Rattle.fact_scan.specs.declared.found.Found.{Found}
use Rattle.fact_scan.specs.declared.scan.ScanFault.{ScanFault}
use Rattle.fact_scan.specs.declared.scan.ScanFault.TheVariants.{BadTable, NoMemory}
use Rattle.fact_scan.specs.Seen.{as_row}
use Rattle.fact_scan.specs.Scan.{HasRows}

abbrev pub rows_of : Found → List Row
rows_of f = map as_row f.rows.items

abbrev pub has_print : Found → List ℕ → Bool
has_print f print = contains (slice_cmp nat_cmp) f.prints print

-- the marks are those of the slots and pages of the rows
pub record IsMarked (g : Geometry) (f : Found) : Type 0 where
  pub all_slots : f.slots.pages ≡ g.pages
  pub all_pages : f.pages.pages ≡ g.pages
  pub slot_marked : (row : Row) → Contains (rows_of f) row → directs g ≤ row.slot
      → Contains f.slots.free (row.slot - directs g)
  pub marked_slot : (k : ℕ) → Contains f.slots.free k → (row : Row) × Contains (rows_of f)
      row × (row.slot ≡ directs g + k)
  pub page_marked : (row : Row) → Contains (rows_of f) row → Contains f.pages.free row.page
  pub marked_page : (p : ℕ) → Contains f.pages.free p → (row : Row) × Contains (rows_of f)
      row × (row.page ≡ p)

-- the chains of the first n prefixes are read
pub record IsFoundTo (g : Geometry) (words : List ℕ) (n : ℕ) (f : Found) : Type 0 where
  pub rows : HasRows g words n (rows_of f)
  pub marked : IsMarked g f

-- no row that was found has this slot, this page, or this fingerprint and prefix
pub record IsNew (g : Geometry) (f : Found) (slot page : ℕ) (print : List ℕ) : Type 0 where
  pub new_slot : directs g ≤ slot → ¬ Contains f.slots.free (slot - directs g)
  pub new_page : ¬ Contains f.pages.free page
  pub new_print : has_print f print ≡ true → ⊥

-- a row that stands in this slot, and may come in the chain of this prefix
pub record MayCome (g : Geometry) (words : List ℕ) (prefix slot : ℕ) (f : Found) (row : Row) : Type
    0 where
  pub stands : RowStands g words slot row
  pub data_page : InData g row.page
  pub print : IsPrint row.print
  pub prefix_is : prefix_of g row.print ≡ prefix
  pub rfc : row.rfc < 2 ^ 32
  pub uc : row.uc < 2 ^ 32
  pub new : IsNew g f slot row.page row.print

-- the row is one of those that were found, and nothing else changed
pub record Adds (g : Geometry) (row : Row) (old new : Found) : Type 0 where
  pub rows : rows_of new ≡ rows_of old ++ row ∷ []
  pub slots : directs g ≤ row.slot → GivesBack (row.slot - directs g) old.slots new.slots
  pub same_slots : row.slot < directs g → new.slots ≡ old.slots
  pub fewer : directs g ≤ row.slot → g.pages - length new.slots.free < g.pages - length
      old.slots.free
  pub pages : GivesBack row.page old.pages new.pages
  pub prints : (print : List ℕ)
      → has_print new print ≡ (if is_at (slice_cmp nat_cmp row.print) print then true else has_print
      old print)

-- the row of this slot was added
pub record TakesRow (g : Geometry) (words : List ℕ) (prefix slot : ℕ) (old new : Found) : Type 0
  where
    pub row : Row
    pub may : MayCome g words prefix slot old row
    pub adds : Adds g row old new

-- a fault at this slot, where no row may come
abbrev pub IsRefusal : Geometry → List ℕ → ℕ → ℕ → Found → ScanFault → Type 0
IsRefusal g words prefix slot f (BadTable s) = (s ≡ slot) × ((row : Row)
    → MayCome g words prefix slot f row → ⊥)
IsRefusal g words prefix slot f NoMemory = Unit {0}

-- these rows of the prefix were read, behind those of all before; the fingerprints are those of its
-- own rows
pub record IsAt (g : Geometry) (words : List ℕ) (prefix : ℕ) (chain : ℕ → List Row) (own : List Row)
    (f : Found) : Type 0 where
  pub reached : IsReached g words chain prefix own
  pub rows_are : rows_of f ≡ rows_from chain 0 prefix ++ own
  pub marked : IsMarked g f
  pub print_known : (row : Row) → Contains own row → has_print f row.print ≡ true
  pub known_print : (print : List ℕ) → has_print f print ≡ true
      → (row : Row) × Contains own row × (row.print ≡ print)

-- so it is, and the holder's next word leads to the slot that comes next, or to none by 0
pub record IsOnChain (g : Geometry) (words : List ℕ) (prefix : ℕ) (f : Found) (holder next : ℕ) :
    Type 0 where
  pub chain : ℕ → List Row
  pub own : List Row
  pub at : IsAt g words prefix chain own f
  pub comes : ComesNext g words prefix own holder next
  pub begun : IsDirectNext g words prefix own → ⊥
