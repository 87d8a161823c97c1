-- What the counts of a page say of its uses.
use Rattle.std.proofs.Common.{◌≡◌, inl, inr, ℕ, zero, suc, ◌+◌, ◌<◌, ◌≤◌, Bool, true, false, List, length, refl, sym, ap, subst, arith}
use Rattle.std.specs.Prelude.{slice_index, slice_index_or, Contains, Some, None, is_some, if◌then◌else◌, ◌==◌, nat_lt}
use Rattle.std.specs.List.{list_any}
use Rattle.std.proofs.lemmas.Bool.{cases_eq, eqb-true, eq-eqb}
use Rattle.std.proofs.lemmas.List.Folds.{Any-from_list_any, list_any_at}
use Rattle.std.proofs.lemmas.Grind.{get_or_default_zero}
use Rattle.dn_model.specs.Log.{Log}
use Rattle.dn_model.specs.Maps.{Mapping, mapping}
use Rattle.dn_model.specs.Table.{row_of}
use Rattle.dn_model.specs.Disk.{Disk, Use, Free, Live, Dying, IsUsed, IsMapped, maps, maps_by_use, rows}
use Rattle.dn_model.specs.Counts.{total, mappings, IsLogPage}
use Rattle.dn_model.specs.Faults.{IsLeast, IsDouble}
use Rattle.law_write.proofs.Counting.{total-some, term-le, terms-le}
use Rattle.law_unique.proofs.Counted.{counts_mappings}
use Rattle.image_logs.specs.Logs.{log_page, log_hit, logs_with}
use Rattle.image_logs.proofs.OneLog.{block_in}
use Rattle.image_uses.specs.Uses.{IsUsedTwice, IsCounted, MarksRows, HasReadLogs}
use Rattle.image_uses.specs.UsesLoop.{NoneTwice}

-- a sum above 1 of terms that are 1 at most has two of them
pub total-two : (f : ℕ → ℕ) (n : ℕ) → ((k : ℕ) → f k ≤ 1) → 2 ≤ total n f → (i : ℕ) × (j : ℕ) × (i < j) × (j < n) × (1 ≤ f i) × (1 ≤ f j)
unfolding total
total-two f zero one two = absurd (omega arith)
total-two f (suc n) one two = elim (cases_eq (f n) 0) [
  | inl none ↦ let found = total-two f n one (omega arith) in (found.0, found.1, found.2, omega (arith, found.3), found.4, found.5)
  | inr here ↦ let found = total-some f n (omega (arith, one n)) in (found.0, n, found.1, omega arith, found.2, omega arith)
]

has_page : (log : Log) (page : ℕ) → Contains log.pages page → log_page log page ≡ 1
has_page log page (k, lt, is) =
    ap (λ (b : Bool). if b then 1 else 0) (list_any_at (λ (q : ℕ). q == page) log.pages k page lt (eq-eqb _ page is))

page_has : (log : Log) (page : ℕ) → 1 ≤ log_page log page → Contains log.pages page
page_has log page some = by_test (list_any (λ (q : ℕ). q == page) log.pages) refl some
  where
    by_test : (b : Bool) → list_any (λ (q : ℕ). q == page) log.pages ≡ b → 1 ≤ (if b then 1 else 0) → Contains log.pages page
    by_test true any some =
        let found = Any-from_list_any (λ (q : ℕ). q == page) log.pages any in
        let at : found.1 ≡ page = eqb-true found.1 page found.4 in
        subst (Contains log.pages) at (found.0, found.2, found.3)
    by_test false any some = absurd (omega arith)

hit-used : (page : ℕ) (u : Use) (log : Log) → IsUsed u → Contains log.pages page → log_hit page u log ≡ 1
hit-used page Free log used there = absurd used
hit-used page Live log used there = has_page log page there
hit-used page (Dying cut) log used there = has_page log page there

used-hit : (page : ℕ) (u : Use) (log : Log) → 1 ≤ log_hit page u log → IsUsed u × Contains log.pages page
used-hit page Free log some = absurd (omega (arith, some))
used-hit page Live log some = (tt, page_has log page some)
used-hit page (Dying cut) log some = (tt, page_has log page some)

page_few : (log : Log) (page : ℕ) → log_page log page ≤ 1
page_few log page = by_test (list_any (λ (q : ℕ). q == page) log.pages)
  where
    by_test : (b : Bool) → (if b then 1 else 0) ≤ 1
    by_test true = omega arith
    by_test false = omega arith

hit-few : (page : ℕ) (u : Use) (log : Log) → log_hit page u log ≤ 1
hit-few page Free log = omega arith
hit-few page Live log = page_few log page
hit-few page (Dying cut) log = page_few log page

module _ (d : Disk) (page : ℕ) where
  abbrev hits : ℕ → ℕ
  hits ino = log_hit page (d.inode ino).use_of (d.inode ino).log

  logs_are : logs_with d page ≡ total d.geometry.inodes hits
  unfolding logs_with
  logs_are = refl

  pub log_counts : IsLogPage d page → 1 ≤ logs_with d page
  log_counts is = omega (
    arith,
    logs_are,
    term-le hits d.geometry.inodes is.ino is.in_table,
    hit-used page (d.inode is.ino).use_of
        (d.inode is.ino).log is.used is.listed,
  )

  pub counted_log : 1 ≤ logs_with d page → IsLogPage d page
  counted_log some =
      let found = total-some hits d.geometry.inodes (omega (arith, some, logs_are)) in
      let is = used-hit page (d.inode found.0).use_of (d.inode found.0).log found.2 in
      record { ino = found.0; in_table = found.1; used = is.0; listed = is.1 }

  pub doubled : IsDouble d page → IsUsedTwice (logs_with d page) (mappings d page) (is_some (row_of (rows d) page))
  doubled (inl (i, j, ne, il, jl, iu, ju, ip, jp)) =
      inl (omega (
        arith,
        logs_are,
        terms-le hits d.geometry.inodes i j il jl ne,
        hit-used page (d.inode i).use_of (d.inode i).log iu ip,
        hit-used page (d.inode j).use_of (d.inode j).log ju jp,
      ))
  doubled (inr (inl (in_log, mapped))) = inr (inl (log_counts in_log, (counts_mappings d page).1 mapped))
  doubled (inr (inr (inl (in_log, row)))) = inr (inr (inl (log_counts in_log, row)))
  doubled (inr (inr (inr (none, two)))) = inr (inr (inr (none, two)))

  pub is_double : IsUsedTwice (logs_with d page) (mappings d page) (is_some (row_of (rows d) page)) → IsDouble d page
  is_double (inl two) =
      let found = total-two hits d.geometry.inodes (λ ino. hit-few page (d.inode ino).use_of (d.inode ino).log) (omega (arith, two, logs_are)) in
      let x = used-hit page (d.inode found.0).use_of (d.inode found.0).log found.4 in
      let y = used-hit page (d.inode found.1).use_of (d.inode found.1).log found.5 in
      inl (found.0, found.1, (λ e. omega (arith, e, found.2)), omega (arith, found.2, found.3), found.3, x.0, y.0, x.1, y.1)
  is_double (inr (inl (in_log, mapped))) = inr (inl (counted_log in_log, (counts_mappings d page).0 mapped))
  is_double (inr (inr (inl (in_log, row)))) = inr (inr (inl (counted_log in_log, row)))
  is_double (inr (inr (inr (none, two)))) = inr (inr (inr (none, two)))

-- pages of logs and pages that are mapped lie in the image
module _ (d : Disk) (read : HasReadLogs d) (page : ℕ) where
  listed_inside : (ino : ℕ) → ino < d.geometry.inodes → IsUsed (d.inode ino).use_of → Contains (d.inode ino).log.pages page → page < d.geometry.pages
  listed_inside ino in_table used (k, lt, is) =
      let pages = (d.inode ino).log.pages in
      omega (arith, ((read ino in_table used).paged.in_data k lt).high, get_or_default_zero pages k page lt, is)

  pub log_inside : IsLogPage d page → page < d.geometry.pages
  log_inside is = listed_inside is.ino is.in_table is.used is.listed

  pub mapped_inside : IsMapped d page → page < d.geometry.pages
  unfolding maps
  mapped_inside m = omega (arith, by_use (d.inode m.ino).use_of refl m.maps_to.is, m.maps_to.block)
    where
      by_use : (u : Use) → (d.inode m.ino).use_of ≡ u → maps_by_use u (d.inode m.ino).log m.idx ≡ Some m.maps_to.by
          → m.maps_to.by.block < d.geometry.pages
      by_use Free e is = absurd (none_some m.maps_to.by is)
        where
          none_some : (x : Mapping) → None ≡ Some x → ⊥
          none_some x e = cc
      by_use Live e is = block_in d.geometry m.ino (d.inode m.ino).log (read m.ino m.maps_to.in_table (subst IsUsed (sym e) tt)) m.idx m.maps_to.by is
      by_use (Dying cut) e is = by_test (nat_lt m.idx cut) is
        where
          by_test : (b : Bool) → (if b then mapping (d.inode m.ino).log m.idx else None) ≡ Some m.maps_to.by → m.maps_to.by.block < d.geometry.pages
          by_test true is = block_in d.geometry m.ino (d.inode m.ino).log (read m.ino m.maps_to.in_table (subst IsUsed (sym e) tt)) m.idx m.maps_to.by
              is
          by_test false is = absurd (none_some m.maps_to.by is)
            where
              none_some : (x : Mapping) → None ≡ Some x → ⊥
              none_some x e = cc

  double_inside : IsDouble d page → page < d.geometry.pages
  double_inside (inl (i, j, ne, il, jl, iu, ju, ip, jp)) = listed_inside i il iu ip
  double_inside (inr (inl (in_log, mapped))) = log_inside in_log
  double_inside (inr (inr (inl (in_log, row)))) = log_inside in_log
  double_inside (inr (inr (inr (none, two)))) = mapped_inside ((counts_mappings d page).0 (omega (arith, two)))

module _ (d : Disk) (in_logs mapped : List ℕ) (has_row : List Bool) (counted : IsCounted d in_logs mapped) (rows_are : MarksRows d has_row) where
  twice_told : (page : ℕ) → page < d.geometry.pages → IsUsedTwice (slice_index in_logs page) (slice_index mapped page)
      (slice_index_or has_row page false) → IsDouble d page
  twice_told page lt twice = is_double d page
      (subst (λ (b : Bool). IsUsedTwice (logs_with d page) (mappings d page) b) (rows_are page lt)
      (subst (λ (n : ℕ). IsUsedTwice (logs_with d page) n (slice_index_or has_row page false)) (counted.places page lt)
      (subst (λ (n : ℕ). IsUsedTwice n (slice_index mapped page) (slice_index_or has_row page false)) (counted.logs page lt) twice)))

  told_twice : (page : ℕ) → page < d.geometry.pages → IsDouble d page → IsUsedTwice (slice_index in_logs page) (slice_index mapped page)
      (slice_index_or has_row page false)
  told_twice page lt is =
      subst (λ (n : ℕ). IsUsedTwice n (slice_index mapped page) (slice_index_or has_row page false)) (sym (counted.logs page lt))
      (subst (λ (n : ℕ). IsUsedTwice (logs_with d page) n (slice_index_or has_row page false)) (sym (counted.places page lt))
      (subst (λ (b : Bool). IsUsedTwice (logs_with d page) (mappings d page) b) (sym (rows_are page lt)) (doubled d page is)))

  pub first_twice : (page : ℕ) → page < length in_logs → NoneTwice in_logs mapped has_row page
      → IsUsedTwice (slice_index in_logs page) (slice_index mapped page) (slice_index_or has_row page false) → IsLeast d.geometry.pages (IsDouble d)
      page
  first_twice page lt before twice = record {
    below = omega (arith, lt, counted.long_logs);
    has = twice_told page (omega (arith, lt, counted.long_logs)) twice;
    least = λ m less is. before m less (told_twice m (omega (arith, less, lt, counted.long_logs)) is);
  }

  pub none_twice : HasReadLogs d → (n : ℕ) → length in_logs ≤ n → NoneTwice in_logs mapped has_row n → (page : ℕ) → IsDouble d page → ⊥
  none_twice read n all none page is =
      let inside = double_inside d read page is in
      none page (omega (arith, inside, all, counted.long_logs)) (told_twice page inside is)

pub twice-next : (in_logs mapped : List ℕ) (has_row : List Bool) (n : ℕ) → NoneTwice in_logs mapped has_row n
    → (IsUsedTwice (slice_index in_logs n) (slice_index mapped n) (slice_index_or has_row n false) → ⊥) → NoneTwice in_logs mapped has_row (n + 1)
twice-next in_logs mapped has_row n before here page lt = elim (cases_eq page n) [
  | inl e ↦ subst (λ (p : ℕ). IsUsedTwice (slice_index in_logs p) (slice_index mapped p) (slice_index_or has_row p false) → ⊥) (sym e) here
  | inr ne ↦ before page (omega arith)
]
