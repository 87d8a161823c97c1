-- Where names lead, where places are mapped, and how long files are.
use Rattle.std.proofs.Common.{◌≡◌, inl, inr, ℕ, zero, ◌+◌, ◌<◌, ◌≤◌, Bool, true, false, List, [], ◌∷◌, length, map, refl, sym, ◌∙◌, ap, subst, arith}
use Rattle.std.specs.Prelude.{if◌then◌else◌, nat_lt, Option, Some, None, All}
use Rattle.std.specs.List.{range_with_len}
use Rattle.std.proofs.lemmas.Bool.{cases_lt, le-ltb}
use Rattle.std.proofs.lemmas.Grind.{same_number_lists}
use Rattle.std.proofs.lemmas.List.FromFn.{length-map-range_with_len, get_or-map-range_with_len}
use Rattle.std.proofs.lemmas.List.Elements.{All-head, All-tail}
use Rattle.pm_layout.specs.declared.Geometry.{Geometry}
use Rattle.log_entry.specs.Name.{same_name}
use Rattle.log_entry.specs.Spelling.{spelling, IsSpelled, pages_of}
use Rattle.log_entry.specs.declared.item.LogItem.{LogItem}
use Rattle.log_entry.specs.declared.item.LogItem.TheVariants.{Write, Size, Add, Forget}
use Rattle.dn_model.specs.Log.{Log, placed_from}
use Rattle.dn_model.specs.Maps.{Mapping, mapping, mapped_after, cut_to, size_after, size_of}
use Rattle.dn_model.specs.Disk.{Disk, Use, Free, Live, Dying, IsUsed, maps, maps_by_use}
use Rattle.dn_model.specs.Files.{named, named_after}
use Rattle.dn_model.specs.Valid.{MayStand, IsLinked, IsValid}

-- lists made from the same values
pub map_range-same : (f g : ℕ → ℕ) (n : ℕ) → ((j : ℕ) → j < n → f j ≡ g j) → map f (range_with_len 0 n) ≡ map g (range_with_len 0 n)
map_range-same f g n same = same_number_lists (map f (range_with_len 0 n)) (map g (range_with_len 0 n))
    (length-map-range_with_len f 0 n ∙ sym (length-map-range_with_len g 0 n)) (λ j lt.
    let below : j < n = omega (arith, lt, length-map-range_with_len f 0 n) in
    let at : 0 + j ≡ j = omega arith in
    get_or-map-range_with_len f 0 n j j 0 below at ∙ same j below ∙ sym (get_or-map-range_with_len g 0 n j j 0 below at))

-- nothing is mapped past the places of a file
module _ (idx : ℕ) (past : 4096 ≤ idx) where
  cut_none : (size : ℕ) (m : Option Mapping) → size ≤ 16777216 → cut_to size idx m ≡ None
  cut_none size m small = ap (λ (b : Bool). if b then m else None) (le-ltb idx (pages_of size) (omega arith))

  none_after : (pages : List ℕ) (k : ℕ) (items : List LogItem) → All IsSpelled items → mapped_after idx None (placed_from pages k items) ≡ None
  none_after pages k [] spelled = refl
  none_after pages k (Write first n block size flag mask ∷ items) spelled =
      let one = All-head IsSpelled (Write first n block size flag mask) items spelled in
      let rest = All-tail IsSpelled (Write first n block size flag mask) items spelled in
      ap (λ (m : Option Mapping). mapped_after idx m (placed_from pages (k + length (spelling (Write first n block size flag mask))) items))
      (cut_none size _ one.3)
      ∙ none_after pages (k + length (spelling (Write first n block size flag mask))) items rest
  none_after pages k (Size size ∷ items) spelled =
      let one = All-head IsSpelled (Size size) items spelled in
      let rest = All-tail IsSpelled (Size size) items spelled in
      ap (λ (m : Option Mapping). mapped_after idx m (placed_from pages (k + length (spelling (Size size))) items)) (cut_none size None one)
      ∙ none_after pages (k + length (spelling (Size size))) items rest
  none_after pages k (Add ino name ∷ items) spelled = none_after pages (k + length (spelling (Add ino name))) items
      (All-tail IsSpelled (Add ino name) items spelled)
  none_after pages k (Forget name ∷ items) spelled = none_after pages (k + length (spelling (Forget name))) items
      (All-tail IsSpelled (Forget name) items spelled)

pub mapping-in_file : (log : Log) (idx : ℕ) (m : Mapping) → All IsSpelled log.items → mapping log idx ≡ Some m → idx < 4096
unfolding mapping
mapping-in_file log idx m spelled e = elim (cases_lt idx 4096) [
  | inl lt ↦ lt
  | inr past ↦ absurd (none_some (sym (none_after idx past log.pages 0 log.items spelled) ∙ e))
]
  where
    none_some : None ≡ Some m → ⊥
    none_some bad = cc

pub maps_by_use-in_file : (u : Use) (log : Log) (idx : ℕ) (m : Mapping) → (IsUsed u → All IsSpelled log.items) → maps_by_use u log idx ≡ Some m
    → idx < 4096
maps_by_use-in_file Free log idx m spelled e = cc
maps_by_use-in_file Live log idx m spelled e = mapping-in_file log idx m (spelled tt) e
maps_by_use-in_file (Dying c) log idx m spelled e = by_test (nat_lt idx c) e
  where
    by_test : (b : Bool) → (if b then mapping log idx else None) ≡ Some m → idx < 4096
    by_test true t = mapping-in_file log idx m (spelled tt) t
    by_test false t = cc

-- a file is short
size_after-le : (n : ℕ) (items : List LogItem) → n ≤ 16777216 → All IsSpelled items → size_after n items ≤ 16777216
size_after-le n [] le spelled = le
size_after-le n (Write first count block size flag mask ∷ items) le spelled =
    size_after-le size items (All-head IsSpelled (Write first count block size flag mask) items spelled).3
    (All-tail IsSpelled (Write first count block size flag mask) items spelled)
size_after-le n (Size size ∷ items) le spelled = size_after-le size items (All-head IsSpelled (Size size) items spelled)
    (All-tail IsSpelled (Size size) items spelled)
size_after-le n (Add ino name ∷ items) le spelled = size_after-le n items le (All-tail IsSpelled (Add ino name) items spelled)
size_after-le n (Forget name ∷ items) le spelled = size_after-le n items le (All-tail IsSpelled (Forget name) items spelled)

pub size_of-le : (log : Log) → All IsSpelled log.items → size_of log ≤ 16777216
unfolding size_of
size_of-le log spelled = size_after-le 0 log.items (omega arith) spelled

-- a name leads to a file's inode
abbrev pub IsFileNumber : Geometry → ℕ → Type 0
IsFileNumber g ino = (1 ≤ ino) × (ino < g.inodes)

module _ (g : Geometry) (name : List ℕ) where
  after_in_table : (found : Option ℕ) (items : List LogItem) → All (MayStand g zero) items → ((i : ℕ) → found ≡ Some i → IsFileNumber g i) → (i : ℕ)
      → named_after name found items ≡ Some i → IsFileNumber g i
  after_in_table found [] standing before = before
  after_in_table found (Write first n block size flag mask ∷ items) standing before = absurd
      (All-head (MayStand g zero) (Write first n block size flag mask) items standing)
  after_in_table found (Size size ∷ items) standing before = absurd (All-head (MayStand g zero) (Size size) items standing)
  after_in_table found (Add ino new ∷ items) standing before =
      after_in_table (if same_name new name then Some ino else found) items (All-tail (MayStand g zero) (Add ino new) items standing)
      (by_test (same_name new name) (All-head (MayStand g zero) (Add ino new) items standing))
    where
      by_test : (b : Bool) → IsFileNumber g ino → (i : ℕ) → (if b then Some ino else found) ≡ Some i → IsFileNumber g i
      by_test true here i e = let same : ino ≡ i = cc in subst (IsFileNumber g) same here
      by_test false here i e = before i e
  after_in_table found (Forget old ∷ items) standing before =
      after_in_table (if same_name old name then None else found) items (All-tail (MayStand g zero) (Forget old) items standing)
      (by_test (same_name old name))
    where
      by_test : (b : Bool) (i : ℕ) → (if b then None else found) ≡ Some i → IsFileNumber g i
      by_test true i e = cc
      by_test false i e = before i e

module _ (d : Disk) (valid : IsValid d) where
  pub root_in_table : 0 < d.geometry.inodes
  root_in_table = omega (arith, valid.accepted.inodes)

  pub root_used : IsUsed (d.inode 0).use_of
  root_used = subst IsUsed (sym valid.root) tt

  pub named-in_table : (name : List ℕ) (i : ℕ) → named d name ≡ Some i → IsFileNumber d.geometry i
  unfolding named
  named-in_table name i e = after_in_table d.geometry name None (d.inode 0).log.items (valid.logs 0 root_in_table root_used).standing (λ j none. cc) i
      e

  pub named-live : (name : List ℕ) (i : ℕ) → named d name ≡ Some i → (d.inode i).use_of ≡ Live
  named-live name i e = let in_table = named-in_table name i e in by_use (d.inode i).use_of (valid.links i in_table.0 in_table.1)
    where
      by_use : (u : Use) → IsLinked d i u → u ≡ Live
      by_use Free linked = absurd (linked name e)
      by_use Live linked = refl
      by_use (Dying c) linked = absurd (linked name e)

  pub maps-in_file : (ino idx : ℕ) (m : Mapping) → ino < d.geometry.inodes → maps d ino idx ≡ Some m → idx < 4096
  unfolding maps
  maps-in_file ino idx m lt e = maps_by_use-in_file (d.inode ino).use_of (d.inode ino).log idx m (λ used. (valid.logs ino lt used).spelled) e
