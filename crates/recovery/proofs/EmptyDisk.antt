-- A file system without files makes sense, and all its data pages are free.
use Rattle.std.proofs.Common.{◌≡◌, ◌≢◌, inl, inr, ℕ, zero, suc, ◌+◌, ◌-◌, ◌<◌, ◌≤◌, List, [], refl, sym, ◌∙◌, ap, subst, arith}
use Rattle.std.specs.Prelude.{Some, None, is_some, All, AllPairs, Contains}
use Rattle.std.specs.List.{range_with_len}
use Rattle.std.proofs.lemmas.List.Elements.{All-nil}
use Rattle.std.proofs.lemmas.List.FromFn.{length-range_with_len, get_or-range_with_len}
use Rattle.pm_layout.specs.declared.Geometry.{Geometry}
use Rattle.pm_layout.specs.Geometry.{InData, first_data, directs}
use Rattle.log_entry.specs.Spelling.{IsSpelled}
use Rattle.dn_model.specs.Log.{no_log, count}
use Rattle.dn_model.specs.Maps.{Mapping, mapping}
use Rattle.dn_model.specs.Table.{Row, row_of, rows_from}
use Rattle.dn_model.specs.Disk.{Disk, IsUsed, IsMapped, maps, rows}
use Rattle.dn_model.specs.Counts.{hit, mappings, IsFree, IsNear}
use Rattle.dn_model.specs.Files.{named}
use Rattle.dn_model.specs.Valid.{MayStand, IsCut, IsLog, IsLinked, AreApart, IsSingle}
use Rattle.dn_model.specs.Own.{LivePlace, page_bytes}
use Rattle.law_write.specs.Events.{IsReadPage}
use Rattle.law_write.proofs.Counting.{total-zero}
use Rattle.dn_model.specs.Empty.{empty_inode, empty_disk}
use Rattle.recovery.specs.Empty.{EmptyDisksAreValid, EmptyDisksHaveNoFiles, EmptyDisksAreOwn, EmptyDisksAreFree}

pub count-none : count no_log ≡ 0
unfolding count
count-none = refl

module _ (g : Geometry) where
  abbrev d : Disk
  d = empty_disk g

  -- no place is mapped, and no page has a row
  maps-empty : (ino idx : ℕ) → maps d ino idx ≡ None
  unfolding maps mapping
  maps-empty zero idx = refl
  maps-empty (suc k) idx = refl

  unmapped : (page : ℕ) → IsMapped d page → ⊥
  unmapped page m = let none : None ≡ Some m.maps_to.by = sym (maps-empty m.ino m.idx) ∙ m.maps_to.is in cc

  mappings-empty : (page : ℕ) → mappings d page ≡ 0
  unfolding mappings
  mappings-empty page = total-zero _ g.inodes (λ ino lt. total-zero _ 4096 (λ idx small. ap (hit page) (maps-empty ino idx)))

  none_from : (p n : ℕ) → rows_from d.chain p n ≡ []
  none_from p zero = refl
  none_from p (suc n) = none_from (p + 1) n

  rows-empty : rows d ≡ []
  unfolding rows
  rows-empty = none_from 0 (directs g)

  no_row : (page : ℕ) → row_of (rows d) page ≡ None
  no_row page = ap (λ (rs : List Row). row_of rs page) rows-empty

  pub unread : (page : ℕ) → IsReadPage d page → ⊥
  unread page (inl mapped) = unmapped page mapped
  unread page (inr row) = let none = no_row page in cc

  -- no name leads anywhere
  named-empty : (name : List ℕ) → named d name ≡ None
  unfolding named
  named-empty name = refl

  -- no log has a page
  not_listed : (ino page : ℕ) → Contains (empty_inode ino).log.pages page → ⊥
  not_listed zero page (k, lt, e) = omega arith
  not_listed (suc i) page (k, lt, e) = omega arith

  free_in_data : (page : ℕ) → InData g page → IsFree d page
  free_in_data page data_page = record {
    data_page = data_page;
    in_no_log = λ p. not_listed p.ino page p.listed;
    unmapped = mappings-empty page;
  }

  live_place : (ino idx : ℕ) (m : Mapping) → LivePlace d ino idx m → ⊥
  live_place ino idx m p = let none : None ≡ Some m = sym (maps-empty ino idx) ∙ p.maps in cc

  no_rows : (P : List Row → Type 0) → P [] → P (rows d)
  no_rows P none = subst P (sym rows-empty) none

  single : IsSingle d
  single = record {
    one_log = λ i j page il jl ui uj ci cj. absurd (not_listed i page ci);
    log_unmapped = λ page p mapped. unmapped page mapped;
    log_no_row = λ page p. ap is_some (no_row page);
    unshared = λ page none. omega (arith, mappings-empty page);
  }

  empty_log : (ino : ℕ) → IsLog g ino no_log
  empty_log ino = record {
    paged = record {
      fits = omega (arith, count-none);
      in_data = λ k lt. absurd (omega arith);
      apart = λ j k jl kl e. absurd (omega arith);
    };
    spelled = All-nil IsSpelled;
    standing = All-nil (MayStand g ino);
  }

  cuts : (ino : ℕ) → IsCut (empty_inode ino).use_of
  cuts zero = tt
  cuts (suc k) = tt

  logs : (ino : ℕ) → IsUsed (empty_inode ino).use_of → IsLog g ino (empty_inode ino).log
  logs zero used = empty_log 0
  logs (suc k) used = absurd used

  links : (ino : ℕ) → 1 ≤ ino → IsLinked d ino (empty_inode ino).use_of
  links zero some = absurd (omega arith)
  links (suc k) some = λ name leads. let none = named-empty name in cc

pub valid : EmptyDisksAreValid
valid g accepted = record {
  accepted = accepted;
  root = refl;
  cuts = λ ino lt. cuts g ino;
  logs = λ ino lt used. logs g ino used;
  links = λ ino some lt. links g ino some;
  table = λ p k row lt is. cc;
  rows_apart = no_rows g AreApart (record { slot = λ j k r s is_r is_s e. cc; print = λ j k r s is_r is_s e. cc; page = λ j k r s is_r is_s e. cc });
  pointers = λ page lt. omega arith;
  leads = no_rows g (All (λ row. 0 ≡ row.slot + 1)) (All-nil (λ (row : Row). 0 ≡ row.slot + 1));
  single = single g;
  near = no_rows g (All (IsNear (empty_disk g))) (All-nil (IsNear (empty_disk g)));
  roomy = (
    first_data g,
    first_data g + 1,
    (λ e. omega arith),
    free_in_data g (first_data g) (record { low = omega arith; high = omega (arith, accepted.room) }),
    free_in_data g (first_data g + 1) (record { low = omega arith; high = omega (arith, accepted.room) }),
  );
}

pub no_files : EmptyDisksHaveNoFiles
unfolding named
no_files g name = refl

pub own : EmptyDisksAreOwn
own g print = record {
  zeros = λ ino idx k m place past lt. absurd (live_place g ino idx m place);
  prints = no_rows g (All (λ row. row.print ≡ print (page_bytes (empty_disk g) row.page)))
      (All-nil (λ (row : Row). row.print ≡ print (page_bytes (empty_disk g) row.page)));
  complete = λ ino idx m place e. absurd (live_place g ino idx m place);
}

-- the numbers from a on
range_has : (a n page : ℕ) → Contains (range_with_len a n) page → (a ≤ page) × (page < a + n)
range_has a n page (k, lt, e) = let small : k < n = omega (arith, lt, length-range_with_len a n) in let is = get_or-range_with_len a n k page small in
    (omega (arith, is, e), omega (arith, is, e, small))

in_range : (a n page : ℕ) → a ≤ page → page < a + n → Contains (range_with_len a n) page
in_range a n page low high = (
  page - a,
  omega (arith, length-range_with_len a n),
  get_or-range_with_len a n (page - a) page (omega arith) ∙ omega
      arith,
)

range_apart : (a n : ℕ) → AllPairs (λ p q. p ≢ q) (range_with_len a n)
range_apart a n i j x lt il e =
    let small : j < n = omega (arith, il, length-range_with_len a n) in
    omega (arith, get_or-range_with_len a n i x (omega (arith, lt, small)), get_or-range_with_len a n j x small, e)

pub free : EmptyDisksAreFree
free g = (
  range_with_len (first_data g) (g.pages - first_data g),
  (λ page. (
    (λ has. let range = range_has (first_data g) (g.pages - first_data g) page has in free_in_data g page
        (record { low = range.0; high = omega (arith, range.0, range.1) })),
    (λ is_free. in_range (first_data g) (g.pages - first_data g) page is_free.data_page.low
        (omega (arith, is_free.data_page.low, is_free.data_page.high))),
  )),
  range_apart (first_data g) (g.pages - first_data g),
  length-range_with_len (first_data g) (g.pages - first_data g),
)
