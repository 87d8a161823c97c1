-- What each page is used for is decided.
use Rattle.std.proofs.Common.{◌≡◌, ◌≢◌, ◌⊎◌, inl, inr, ℕ, zero, suc, ◌<◌, ◌≤◌, Bool, true, false, List, refl, subst, arith}
use Rattle.std.specs.Prelude.{if◌then◌else◌, nat_lt, Option, Some, None, IsSome, IsNone, All, Contains}
use Rattle.std.proofs.lemmas.Bool.{cases_eq}
use Rattle.std.proofs.lemmas.List.{get_or_default}
use Rattle.std.proofs.lemmas.List.Elements.{All-contains}
use Rattle.pm_layout.specs.declared.Geometry.{Geometry}
use Rattle.pm_layout.specs.Geometry.{InData}
use Rattle.log_entry.specs.declared.item.LogItem.{LogItem}
use Rattle.log_entry.specs.declared.item.LogItem.TheVariants.{Write}
use Rattle.dn_model.specs.Log.{Log}
use Rattle.dn_model.specs.Maps.{Mapping, mapping}
use Rattle.dn_model.specs.Table.{Row, row_of}
use Rattle.dn_model.specs.Disk.{Disk, Use, Free, Live, Dying, IsUsed, IsMapped, maps, maps_by_use, rows}
use Rattle.dn_model.specs.Counts.{mappings, IsLogPage, IsFree}
use Rattle.dn_model.specs.Valid.{MayStand, IsLog, IsSingle}
use Rattle.dn_model.specs.Faults.{IsDouble}
use Rattle.law_unique.proofs.Counted.{counts_mappings}
use Rattle.law_write.proofs.Unread.{IsSetBy, mapping_set_by}
use Rattle.law_table_read.proofs.Decisions.{
  Decided,
  decide_lt,
  decide_le,
  decide_both,
  decide_either,
  decide_as,
  decide_not,
  decide_below,
  decide_contains,
}
use Rattle.law_table_read.proofs.RowRead.{decide_data}
use Rattle.law_image_fault.specs.Rules.{PagesAreDecided}

decide_used : (u : Use) → Decided (IsUsed u)
decide_used Free = inr (λ used. used)
decide_used Live = inl tt
decide_used (Dying cut) = inl tt

decide_some : (o : Option Row) → Decided (IsSome o)
decide_some None = inr (λ some. cc)
decide_some (Some row) = inl refl

pub none_from : (o : Option Row) → (IsSome o → ⊥) → IsNone o
none_from None none = refl
none_from (Some row) none = absurd (none refl)

decide_none : (o : Option Row) → Decided (IsNone o)
decide_none None = inl refl
decide_none (Some row) = inr (λ none. cc)

module _ (d : Disk) (page : ℕ) where
  -- the page is one of a used inode's log
  abbrev pub IsLogPageOf : ℕ → Type 0
  IsLogPageOf ino = IsUsed (d.inode ino).use_of × Contains (d.inode ino).log.pages page

  decide_log_page_of : (ino : ℕ) → Decided (IsLogPageOf ino)
  decide_log_page_of ino = decide_both (IsUsed (d.inode ino).use_of) (Contains (d.inode ino).log.pages page) (decide_used (d.inode ino).use_of)
      (decide_contains (d.inode ino).log.pages page)

  abbrev InSomeLog : Type 0
  InSomeLog = (ino : ℕ) × (ino < d.geometry.inodes) × IsLogPageOf ino

  decide_log_page : Decided (IsLogPage d page)
  decide_log_page =
      decide_as InSomeLog (IsLogPage d page) (λ some. record { ino = some.0; in_table = some.1; used = some.2.0; listed = some.2.1 })
      (λ at. (at.ino, at.in_table, (at.used, at.listed)))
      (decide_below IsLogPageOf d.geometry.inodes (λ ino lt. decide_log_page_of ino))

  pub decide_mapped : Decided (IsMapped d page)
  decide_mapped = decide_as (1 ≤ mappings d page) (IsMapped d page) (counts_mappings d page).0 (counts_mappings d page).1
      (decide_le 1 (mappings d page))

  -- a page of two logs
  abbrev IsOther : ℕ → ℕ → Type 0
  IsOther i j = (i ≢ j) × IsLogPageOf j

  abbrev InTwoLogs : Type 0
  InTwoLogs = (i : ℕ) × (j : ℕ) × (i ≢ j) × (i < d.geometry.inodes) × (j < d.geometry.inodes) × IsUsed (d.inode i).use_of × IsUsed (d.inode j).use_of
      × Contains (d.inode i).log.pages page × Contains (d.inode j).log.pages page

  abbrev HasOther : ℕ → Type 0
  HasOther i = (j : ℕ) × (j < d.geometry.inodes) × IsOther i j

  abbrev HasTwo : Type 0
  HasTwo = (i : ℕ) × (i < d.geometry.inodes) × (IsLogPageOf i × HasOther i)

  two_logs : HasTwo → InTwoLogs
  two_logs two = let other = two.2.1 in (two.0, other.0, other.2.0, two.1, other.1, two.2.0.0, other.2.1.0, two.2.0.1, other.2.1.1)

  has_two : InTwoLogs → HasTwo
  has_two two = (two.0, two.3, ((two.5, two.7), (two.1, two.4, (two.2, (two.6, two.8)))))

  decide_other : (i : ℕ) → Decided (HasOther i)
  decide_other i = decide_below (IsOther i) d.geometry.inodes (λ j lt. decide_both (i ≢ j) (IsLogPageOf j) (decide_not (i ≡ j) (cases_eq i j))
      (decide_log_page_of j))

  decide_two : Decided InTwoLogs
  decide_two = decide_as HasTwo InTwoLogs two_logs has_two (decide_below (λ i. IsLogPageOf i × HasOther i) d.geometry.inodes
      (λ i lt. decide_both (IsLogPageOf i) (HasOther i) (decide_log_page_of i) (decide_other i)))

  abbrev HasRow : Type 0
  HasRow = IsSome (row_of (rows d) page)

  abbrev HasNoRow : Type 0
  HasNoRow = IsNone (row_of (rows d) page)

  abbrev IsShared : Type 0
  IsShared = HasNoRow × (1 < mappings d page)

  decide_shared : Decided IsShared
  decide_shared = decide_both HasNoRow (1 < mappings d page) (decide_none (row_of (rows d) page)) (decide_lt 1 (mappings d page))

  pub decide_double : Decided (IsDouble d page)
  decide_double =
      decide_either InTwoLogs ((IsLogPage d page × IsMapped d page) ⊎ ((IsLogPage d page × HasRow) ⊎ IsShared)) decide_two
      (decide_either (IsLogPage d page × IsMapped d page) ((IsLogPage d page × HasRow) ⊎ IsShared) (decide_both (IsLogPage d page) (IsMapped d page)
      decide_log_page decide_mapped)
      (decide_either (IsLogPage d page × HasRow) IsShared (decide_both (IsLogPage d page) HasRow decide_log_page (decide_some (row_of (rows d) page)))
      decide_shared))

  abbrev IsUnused : Type 0
  IsUnused = InData d.geometry page × ((IsLogPage d page → ⊥) × (mappings d page ≡ 0))

  pub decide_free : Decided (IsFree d page)
  decide_free =
      decide_as IsUnused (IsFree d page) (λ u. record { data_page = u.0; in_no_log = u.1.0; unmapped = u.1.1 })
      (λ f. (f.data_page, (f.in_no_log, f.unmapped)))
      (decide_both (InData d.geometry page) ((IsLogPage d page → ⊥) × (mappings d page ≡ 0)) (decide_data d.geometry page)
      (decide_both (IsLogPage d page → ⊥) (mappings d page ≡ 0) (decide_not (IsLogPage d page) decide_log_page) (cases_eq (mappings d page) 0)))

pub pages_are_decided : PagesAreDecided
pages_are_decided d page = record { double = decide_double d page; free = decide_free d page }

-- Pages of logs, and pages that places are mapped to, lie in the data area.
kept_by_test : (b : Bool) (o : Option Mapping) (m : Mapping) → (if b then o else None) ≡ Some m → o ≡ Some m
kept_by_test true o m e = e
kept_by_test false o m e = cc

mapped_in_log : (u : Use) (log : Log) (idx : ℕ) (m : Mapping) → maps_by_use u log idx ≡ Some m → IsUsed u × (mapping log idx ≡ Some m)
mapped_in_log Free log idx m e = cc
mapped_in_log Live log idx m e = (tt, e)
mapped_in_log (Dying cut) log idx m e = (tt, kept_by_test (nat_lt idx cut) (mapping log idx) m e)

set_in_data : (g : Geometry) (ino : ℕ) (items : List LogItem) (idx : ℕ) (m : Mapping) → All (MayStand g ino) items → IsSetBy items idx m
    → InData g m.block
set_in_data g ino items idx m standing s = by_inode ino (All-contains (MayStand g ino) items (Write s.first s.n s.block s.size s.flag s.mask) standing
    s.listed)
  where
    by_inode : (i : ℕ) → MayStand g i (Write s.first s.n s.block s.size s.flag s.mask) → InData g m.block
    by_inode zero may = absurd may
    by_inode (suc i) may = record { low = omega (arith, s.is, may.0.low); high = omega (arith, s.is, s.low, s.high, may.1.high) }

module _ (d : Disk) (logs : (ino : ℕ) → ino < d.geometry.inodes → IsUsed (d.inode ino).use_of → IsLog d.geometry ino (d.inode ino).log) where
  pub mapped_in_data : (page : ℕ) → IsMapped d page → InData d.geometry page
  unfolding maps
  mapped_in_data page m =
      let to = m.maps_to in
      let by = mapped_in_log (d.inode m.ino).use_of (d.inode m.ino).log m.idx to.by to.is in
      subst (InData d.geometry) to.block
      (set_in_data d.geometry m.ino (d.inode m.ino).log.items m.idx to.by (logs m.ino to.in_table by.0).standing
      (mapping_set_by (d.inode m.ino).log m.idx to.by by.1))

  listed_in_data : (ino page : ℕ) → ino < d.geometry.inodes → IsUsed (d.inode ino).use_of → Contains (d.inode ino).log.pages page
      → InData d.geometry page
  listed_in_data ino page lt used listed =
      let paged = (logs ino lt used).paged in
      subst (InData d.geometry) listed.2 (subst (InData d.geometry) (get_or_default (d.inode ino).log.pages listed.0 0 page listed.1)
      (paged.in_data listed.0 listed.1))

  log_page_in_data : (page : ℕ) → IsLogPage d page → InData d.geometry page
  log_page_in_data page at = listed_in_data at.ino page at.in_table at.used at.listed

  -- a page that is used against the rules is one of the image
  pub double_in_data : (page : ℕ) → IsDouble d page → InData d.geometry page
  double_in_data page (inl two) = listed_in_data two.0 page two.3 two.5 two.7
  double_in_data page (inr (inl both)) = log_page_in_data page both.0
  double_in_data page (inr (inr (inl both))) = log_page_in_data page both.0
  double_in_data page (inr (inr (inr both))) = mapped_in_data page ((counts_mappings d page).0 (omega (arith, both.1)))

-- where no page is used so, pages are single
pub single_from : (d : Disk) → ((page : ℕ) → IsDouble d page → ⊥) → IsSingle d
single_from d none = record {
  one_log = λ i j page il jl iu ju ic jc. elim (cases_eq i j) [
    | inl e ↦ e
    | inr ne ↦ absurd (none page (inl (i, j, ne, il, jl, iu, ju, ic, jc)))
  ];
  log_unmapped = λ page at mapped. none page (inr (inl (at, mapped)));
  log_no_row = λ page at. none_from (row_of (rows d) page) (λ some. none page (inr (inr (inl (at, some)))));
  unshared = λ page no_row. elim (decide_le (mappings d page) 1) [
    | inl le ↦ le
    | inr not ↦ absurd (none page (inr (inr (inr (no_row, omega (arith, not))))))
  ];
}
