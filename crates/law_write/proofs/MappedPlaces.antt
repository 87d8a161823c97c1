-- The mapped places of a file lie below its size.
use Rattle.std.proofs.Common.{◌≡◌, ℕ, ◌+◌, ◌<◌, ◌≤◌, Bool, true, false, List, [], ◌∷◌, length, refl, ap, arith}
use Rattle.std.specs.Prelude.{if◌then◌else◌, nat_lt, Option, Some, None, All}
use Rattle.std.proofs.lemmas.Bool.Decides.{nat_tests}
use Rattle.std.proofs.lemmas.List.Elements.{All-head, All-tail}
use Rattle.log_entry.specs.Spelling.{IsSpelled, spelling, pages_of}
use Rattle.log_entry.specs.declared.item.LogItem.{LogItem}
use Rattle.log_entry.specs.declared.item.LogItem.TheVariants.{Write, Size, Add, Forget}
use Rattle.dn_model.specs.Log.{Log, slot_name, placed_from}
use Rattle.dn_model.specs.Maps.{Mapping, mapping, mapped_after, remapped, cut_to, size_of, size_after}
use Rattle.dn_model.specs.Disk.{Disk, Use, Free, Live, Dying, IsUsed, maps, maps_by_use}
use Rattle.dn_model.specs.Valid.{IsLog, IsValid}

-- what isn't cut lies below the size
pub cut_below : (size idx : ℕ) (m : Option Mapping) (x : Mapping) → cut_to size idx m ≡ Some x → idx < pages_of size
cut_below size idx m x e = by_test (nat_lt idx (pages_of size)) refl e
  where
    by_test : (b : Bool) → nat_lt idx (pages_of size) ≡ b → (if b then m else None) ≡ Some x → idx < pages_of size
    by_test true t e = below idx (pages_of size) t
      where
        below : (a b : ℕ) → nat_lt a b ≡ true → a < b
        below a b t = grind (arith, nat_tests)
    by_test false t e = cc

pub cut_some : (size idx : ℕ) (m : Option Mapping) (x : Mapping) → cut_to size idx m ≡ Some x → m ≡ Some x
cut_some size idx m x e = by_test (nat_lt idx (pages_of size)) e
  where
    by_test : (b : Bool) → (if b then m else None) ≡ Some x → m ≡ Some x
    by_test true e = e
    by_test false e = cc

pub uncut : (size idx : ℕ) (m : Option Mapping) → idx < pages_of size → cut_to size idx m ≡ m
uncut size idx m lt = ap (λ (b : Bool). if b then m else None) (test idx (pages_of size) lt)
  where
    test : (a b : ℕ) → a < b → nat_lt a b ≡ true
    test a b lt = grind (arith, nat_tests)

after-below : (pages : List ℕ) (k idx size : ℕ) (m : Option Mapping) (items : List LogItem) → ((x : Mapping) → m ≡ Some x → idx < pages_of size)
    → (x : Mapping) → mapped_after idx m (placed_from pages k items) ≡ Some x → idx < pages_of (size_after size items)
after-below pages k idx size m [] here = here
after-below pages k idx size m (Write first n block bytes flag mask ∷ items) here =
    after-below pages (k + length (spelling (Write first n block bytes flag mask))) idx bytes
    (remapped idx m (record { slot = slot_name pages k; item = Write first n block bytes flag mask })) items
    (λ x e. cut_below bytes idx _ x e)
after-below pages k idx size m (Size bytes ∷ items) here =
    after-below pages (k + length (spelling (Size bytes))) idx bytes (remapped idx m (record { slot = slot_name pages k; item = Size bytes })) items
    (λ x e. cut_below bytes idx m x e)
after-below pages k idx size m (Add ino name ∷ items) here = after-below pages (k + length (spelling (Add ino name))) idx size m items here
after-below pages k idx size m (Forget name ∷ items) here = after-below pages (k + length (spelling (Forget name))) idx size m items here

-- a mapped place lies below the pages of the log's size
pub mapping-below : (log : Log) (idx : ℕ) (x : Mapping) → mapping log idx ≡ Some x → idx < pages_of (size_of log)
unfolding mapping size_of
mapping-below log idx x e = after-below log.pages 0 idx 0 None log.items (λ y none. cc) x e

size_after-small : (size : ℕ) (items : List LogItem) → size ≤ 16777216 → All IsSpelled items → size_after size items ≤ 16777216
size_after-small size [] small spelled = small
size_after-small size (Write first n block bytes flag mask ∷ items) small spelled =
    size_after-small bytes items (All-head IsSpelled (Write first n block bytes flag mask) items spelled).3
    (All-tail IsSpelled (Write first n block bytes flag mask) items spelled)
size_after-small size (Size bytes ∷ items) small spelled = size_after-small bytes items (All-head IsSpelled (Size bytes) items spelled)
    (All-tail IsSpelled (Size bytes) items spelled)
size_after-small size (Add ino name ∷ items) small spelled = size_after-small size items small (All-tail IsSpelled (Add ino name) items spelled)
size_after-small size (Forget name ∷ items) small spelled = size_after-small size items small (All-tail IsSpelled (Forget name) items spelled)

-- the size that a log may tell
pub size-small : (log : Log) → All IsSpelled log.items → size_of log ≤ 16777216
unfolding size_of
size-small log spelled = size_after-small 0 log.items (omega arith) spelled

-- a place that is mapped by its inode's use is mapped in the log; of a dying one it lies below the cut
maps_by_use-mapped : (u : Use) (log : Log) (idx : ℕ) (x : Mapping) → maps_by_use u log idx ≡ Some x → IsUsed u × (mapping log idx ≡ Some x)
maps_by_use-mapped Free log idx x e = cc
maps_by_use-mapped Live log idx x e = (tt, e)
maps_by_use-mapped (Dying cut) log idx x e = (tt, by_test (nat_lt idx cut) e)
  where
    by_test : (b : Bool) → (if b then mapping log idx else None) ≡ Some x → mapping log idx ≡ Some x
    by_test true e = e
    by_test false e = cc

module _ (d : Disk) (valid : IsValid d) (ino idx : ℕ) (x : Mapping) (in_table : ino < d.geometry.inodes) (is : maps d ino idx ≡ Some x) where
  mapped_by_use : IsUsed (d.inode ino).use_of × (mapping (d.inode ino).log idx ≡ Some x)
  unfolding maps
  mapped_by_use = maps_by_use-mapped (d.inode ino).use_of (d.inode ino).log idx x is

  log_here : IsLog d.geometry ino (d.inode ino).log
  log_here = valid.logs ino in_table mapped_by_use.0

  pub maps-in_file : idx < 4096
  maps-in_file = small idx (size_of (d.inode ino).log) (mapping-below (d.inode ino).log idx x mapped_by_use.1)
      (size-small (d.inode ino).log log_here.spelled)
    where
      small : (i size : ℕ) → i < pages_of size → size ≤ 16777216 → i < 4096
      small i size lt le = omega arith
