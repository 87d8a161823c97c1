-- The words of the inode table, the direct slots and the delete pointers in a file system without
-- files.
use Rattle.std.specs.Prelude.{
  ◌≡◌,
  ◌≢◌,
  ◌⊎◌,
  ℕ,
  ◌+◌,
  ◌*◌,
  ◌%◌,
  ◌<◌,
  ◌≤◌,
  Bool,
  ◌&&◌,
  ◌||◌,
  if◌then◌else◌,
  nat_le,
  nat_lt,
  ◌==◌,
  List,
  length,
  slice_index,
}
use Rattle.pm_device.specs.State.{State}
use Rattle.pm_device.specs.Settled.{IsFlushed, StoresOnly}
use Rattle.pm_layout.specs.declared.Geometry.{Geometry}
use Rattle.pm_layout.specs.Geometry.{directs, slot_word, pointer_word, first_data, gate_word}

-- the word is the state of an inode, or the tail of the root
abbrev pub is_inode_part : Geometry → ℕ → Bool
is_inode_part g a = nat_le 1024 a && (nat_lt a (1024 + 16 * g.inodes) && (a % 16 == 0 || a == 1026))

-- the word is the page or the next word of a direct slot
abbrev pub is_direct_part : Geometry → ℕ → Bool
is_direct_part g a = nat_le (slot_word g 0 0) a && (nat_lt a (slot_word g 0 0 + 8 * directs g) &&
    (a % 8 == 0 || a % 8 == 5))

-- the word is a delete pointer
abbrev pub is_pointer : Geometry → ℕ → Bool
is_pointer g a = nat_le (pointer_word g 0) a && nat_lt a (pointer_word g 0 + g.pages)

abbrev pub is_table_part : Geometry → ℕ → Bool
is_table_part g a = is_inode_part g a || (is_direct_part g a || is_pointer g a)

-- what word a is made, where it was `old`: the root is live, and what else is read there is 0
unfoldable pub table_word : Geometry → ℕ → ℕ → ℕ
table_word g a old = if is_table_part g a then (if a == 1024 then 1 else 0) else old

-- what an actor stored, and what was settled, is flushed
abbrev pub AllFlushed : ℕ → State → Type 0
AllFlushed who s = (a : ℕ) → a < length s.now → IsFlushed who s a

-- the words of the pages below `page` are made so, from the third page on, and the others are as
-- they were
pub record TablesTo (g : Geometry) (page : ℕ) (old new : List ℕ) : Type 0 where
  pub words : length new ≡ length old
  pub made : (a : ℕ) → 1024 ≤ a → a < 512 * page → slice_index new a ≡ table_word g a
      (slice_index old a)
  pub before : (a : ℕ) → a < 1024 → slice_index new a ≡ slice_index old a
  pub behind : (a : ℕ) → 512 * page ≤ a → slice_index new a ≡ slice_index old a

-- a word behind the magic
abbrev pub IsBehindMagic : ℕ → Type 0
IsBehindMagic a = 1 ≤ a

-- the superblock's words behind the magic, and the closed gate
pub record HasHead (g : Geometry) (old new : List ℕ) : Type 0 where
  pub version : slice_index new 1 ≡ 1
  pub pages : slice_index new 2 ≡ g.pages
  pub inodes : slice_index new 3 ≡ g.inodes
  pub gate : slice_index new gate_word ≡ 0
  pub others : (a : ℕ) → (a < 1) ⊎ (3 < a) → a ≢ gate_word → slice_index new a ≡ slice_index old a

-- all words behind the magic that are read are those of a file system without files, and the others
-- are as they were
pub record HasParts (g : Geometry) (old new : List ℕ) : Type 0 where
  pub version : slice_index new 1 ≡ 1
  pub pages : slice_index new 2 ≡ g.pages
  pub inodes : slice_index new 3 ≡ g.inodes
  pub gate : slice_index new gate_word ≡ 0
  pub tables : (a : ℕ) → 1024 ≤ a → a < 512 * first_data g → slice_index new a ≡ table_word g a
      (slice_index old a)
  pub others : (a : ℕ) → (a < 1) ⊎ (3 < a) → a ≢ gate_word → (a < 1024) ⊎ (512 * first_data g ≤ a)
      → slice_index new a ≡ slice_index old a

-- the tables are made so far, in the order of their pages
pub record TablesMade (g : Geometry) (who page : ℕ) (s t : State) : Type 0 where
  pub only : StoresOnly IsBehindMagic s t
  pub made : TablesTo g page s.now t.now
  pub flushed : AllFlushed who t
  pub spare : s.spare + 1152 ≤ t.spare + 576 * page
  pub faults : s.faults ≤ t.faults
