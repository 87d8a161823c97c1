-- Rows are counted by their slots, and files by their inodes.
use Rattle.std.proofs.Common.{◌≡◌, ◌≢◌, ℕ, ◌+◌, ◌<◌, true, false, List, [], ◌∷◌, length, get_or, map, Option, Some, None, refl, sym, ◌∙◌, ap, inl, inr, arith, add-one, add-zero}
use Rattle.std.specs.Prelude.{◌⊎◌, Contains, slice_get, is_some, IfSome, IfNone}
use Rattle.std.proofs.lemmas.List.{length-map}
use Rattle.std.proofs.lemmas.Option.{slice_get-get_or}
use Rattle.fact_scan.specs.declared.row.Row.{Row as KeptRow}
use Rattle.pm_device.specs.State.{State}
use Rattle.pm_layout.specs.declared.Geometry.{Geometry}
use Rattle.pm_layout.specs.Geometry.{slots}
use Rattle.dn_model.specs.Table.{Row}
use Rattle.dn_model.specs.Disk.{Disk, Use, rows}
use Rattle.dn_model.specs.Counts.{total}
use Rattle.dn_model.specs.Numbers.{file_hit, files_in}
use Rattle.law_unique.proofs.Listings.{here, later, none_listed, cons_cases}
use Rattle.law_write.proofs.Counting.{total-change, total-zero}
use Rattle.law_table.proofs.Rows.{IsDistinct, distinct_head, distinct_tail}
use Rattle.law_table.proofs.TableRows.{row_slot_small, good_of}
use Rattle.fact_table.specs.Table.{IsAtSlot, HasNoneAt}
use Rattle.dn_volume.specs.Balance.{times}
use Rattle.dn_volume.proofs.Times.{times_first, times_other}
use Rattle.dn_volume.specs.declared.volume.InodeState.{InodeState}
use Rattle.dn_volume.specs.declared.volume.Parts.{Parts}
use Rattle.dn_volume.specs.Inodes.{as_use}
use Rattle.dn_volume.specs.Agrees.{IsVolume}

-- each number of a list is counted at one place
numbers_total : (xs : List ℕ) (n : ℕ) → ((x : ℕ) → Contains xs x → x < n) → total n (λ s. times s xs) ≡ length xs
numbers_total [] n small = total-zero (λ s. 0) n (λ j lt. refl)
numbers_total (x ∷ xs) n small =
    let before = numbers_total xs n (λ y has. small y (later x y xs has)) in
    let changed = total-change (λ s. times s xs) (λ s. times s (x ∷ xs)) n x (small x (here x xs)) (λ j ne. times_other j x xs ne) in
    let first = times_first x xs in
    omega (arith, before, changed, first)

-- one term more
total_more : (f : ℕ → ℕ) (n : ℕ) → total (n + 1) f ≡ total n f + f n
unfolding total
total_more f n = rw add-one refl

-- an element of a list, as it was read
pub node_at : (items kept : List InodeState) (i : ℕ) (n : InodeState) → kept ≡ items → i < length kept → n ≡ get_or kept i n
    → slice_get items i ≡ Some n
node_at items kept i n same below is =
    ap (λ (xs : List InodeState). slice_get xs i) (sym same) ∙ slice_get-get_or kept i n below ∙ ap (λ (x : InodeState). Some x) (sym is)

pub found_row : (o : Option KeptRow) (P : KeptRow → Type 0) → is_some o ≡ true → IfSome o P → (r : KeptRow) × P r
found_row None P some has = absurd (cc some)
found_row (Some r) P some has = (r, has)

pub none_row : (o : Option KeptRow) (P : Type 0) → is_some o ≡ false → IfNone o P → P
none_row None P none has = has
none_row (Some r) P none has = absurd (cc none)

-- ---- rows by slots

abbrev slot_of : Row → ℕ
slot_of r = r.slot

times_none : (slot : ℕ) (rs : List Row) → ((r : Row) → Contains rs r → r.slot ≢ slot) → times slot (map slot_of rs) ≡ 0
times_none slot [] none = refl
times_none slot (r ∷ rs) none =
    times_other slot r.slot (map slot_of rs) (λ e. none r (here r rs) (sym e)) ∙ times_none slot rs (λ x has. none x (later r x rs has))

times_one : (rs : List Row) (row : Row) → IsDistinct slot_of rs → Contains rs row → times row.slot (map slot_of rs) ≡ 1
times_one [] row apart has = absurd (none_listed row has)
times_one (r ∷ rs) row apart has = by_place (times_one rs row (distinct_tail slot_of r rs apart)) (cons_cases r row rs has)
  where
    by_place : (Contains rs row → times row.slot (map slot_of rs) ≡ 1) → (r ≡ row) ⊎ Contains rs row → times row.slot (map slot_of (r ∷ rs)) ≡ 1
    by_place one (inl e) =
        let same : r.slot ≡ row.slot = ap slot_of e in
        let first = times_first r.slot (map slot_of rs) in
        let rest = times_none r.slot rs (distinct_head slot_of r rs apart) in
        ap (λ (n : ℕ). times n (map slot_of (r ∷ rs))) (sym same) ∙ omega (arith, first, rest)
    by_place one (inr more) = times_other row.slot r.slot (map slot_of rs) (distinct_head slot_of r rs apart row more) ∙ one more

listed_slot : (rs : List Row) (x : ℕ) → Contains (map slot_of rs) x → (row : Row) × Contains rs row × (row.slot ≡ x)
listed_slot [] x has = absurd (none_listed x has)
listed_slot (r ∷ rs) x has = by_place (listed_slot rs x) (cons_cases r.slot x (map slot_of rs) has)
  where
    by_place : (Contains (map slot_of rs) x → (row : Row) × Contains rs row × (row.slot ≡ x)) → (r.slot ≡ x) ⊎ Contains (map slot_of rs) x
        → (row : Row) × Contains (r ∷ rs) row × (row.slot ≡ x)
    by_place from (inl e) = (r, here r rs, e)
    by_place from (inr more) = let found = from more in (found.0, later r found.0 rs found.1, found.2)

-- how many rows have a slot below this one
pub rows_below : Disk → ℕ → ℕ
rows_below d n = total n (λ slot. times slot (map slot_of (rows d)))

pub rows_start : (d : Disk) → 0 ≡ rows_below d 0
unfolding rows_below total
rows_start d = refl

module _ (d : Disk) (b : Parts) (s : State) (v : IsVolume d b s) where
  pub rows_found : (n slot : ℕ) (row : Row) → n ≡ rows_below d slot → IsAtSlot d slot row → n + 1 ≡ rows_below d (slot + 1)
  unfolding rows_below
  rows_found n slot row so_far is =
      let one = times_one (rows d) row v.fast.valid.rows_apart.slot is.there in
      let at : times slot (map slot_of (rows d)) ≡ 1 = ap (λ (x : ℕ). times x (map slot_of (rows d))) (sym is.slot_is) ∙ one in
      ap (λ (m : ℕ). m + 1) so_far
      ∙ ap (λ (m : ℕ). total slot (λ x. times x (map slot_of (rows d))) + m) (sym at)
      ∙ sym (total_more (λ x. times x (map slot_of (rows d))) slot)

  pub rows_missed : (n slot : ℕ) → n ≡ rows_below d slot → HasNoneAt d slot → n ≡ rows_below d (slot + 1)
  unfolding rows_below
  rows_missed n slot so_far none =
      let at = times_none slot (rows d) none in
      so_far
      ∙ sym (add-zero (total slot (λ x. times x (map slot_of (rows d)))))
      ∙ ap (λ (m : ℕ). total slot (λ x. times x (map slot_of (rows d))) + m) (sym at)
      ∙ sym (total_more (λ x. times x (map slot_of (rows d))) slot)

  row_of_slot : (x : ℕ) → Contains (map slot_of (rows d)) x → x < slots d.geometry
  row_of_slot x has = let from = listed_slot (rows d) x has in
      let small = row_slot_small d (good_of d v.fast.valid) from.0 from.1 in omega (arith, small, from.2)

  pub rows_all : (n : ℕ) → n ≡ rows_below d (slots b.geometry) → n ≡ length (rows d)
  unfolding rows_below
  rows_all n so_far =
      so_far
      ∙ ap (λ (g : Geometry). total (slots g) (λ x. times x (map slot_of (rows d)))) (sym v.fast.geometry)
      ∙ numbers_total (map slot_of (rows d)) (slots d.geometry) row_of_slot
      ∙ length-map (rows d) slot_of

-- ---- files by inodes

pub files_below : Disk → ℕ → ℕ
files_below d n = total n (λ ino. file_hit ino (d.inode ino).use_of)

pub files_start : (d : Disk) → 0 ≡ files_below d 0
unfolding files_below total
files_start d = refl

module _ (d : Disk) (b : Parts) (s : State) (v : IsVolume d b s) where
  pub files_more : (files files' ino : ℕ) (n : InodeState) → files ≡ files_below d ino → slice_get b.inodes.items ino ≡ Some n
      → files' ≡ files + file_hit ino (as_use n.used) → files' ≡ files_below d (ino + 1)
  unfolding files_below
  files_more files files' ino n so_far at more =
      more
      ∙ ap (λ (m : ℕ). m + file_hit ino (as_use n.used)) so_far
      ∙ ap (λ (u : Use). files_below d ino + file_hit ino u) (sym (v.inodes.each ino n at).use_is)
      ∙ sym (total_more (λ i. file_hit i (d.inode i).use_of) ino)

  pub files_all : (files n : ℕ) → files ≡ files_below d n → n ≡ length b.inodes.items → files ≡ files_in d
  unfolding files_below files_in
  files_all files n so_far all = so_far ∙ ap (λ (m : ℕ). total m (λ i. file_hit i (d.inode i).use_of)) (all ∙ v.inodes.all)
