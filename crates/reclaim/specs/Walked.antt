-- The pages of a log, from its head along the footers to the page of its tail.
use Rattle.std.specs.Prelude.{
  ◌≡◌,
  ◌≢◌,
  ℕ,
  ◌+◌,
  ◌-◌,
  ◌*◌,
  ◌/◌,
  ◌<◌,
  ◌≤◌,
  List,
  length,
  slice_index,
  Contains,
}
use Rattle.pm_layout.specs.declared.Geometry.{Geometry}
use Rattle.pm_layout.specs.Geometry.{inode_word}
use Rattle.page_alloc.specs.Free.{FreePages, IsInOrder}
use Rattle.file_content.specs.Pages.{AreApart}
use Rattle.reclaim.specs.Worked.{Gives}

-- the words lead through these pages, which are different ones of the image
pub record LeadsThrough (words : List ℕ) (g : Geometry) (ino : ℕ) (pages : List ℕ) : Type 0 where
  pub none : length pages ≡ 0 → slice_index words (inode_word ino 2) ≡ 0
  pub some : 0 < length pages → slice_index words (inode_word ino 2) ≢ 0
  pub last : 0 < length pages → slice_index words (inode_word ino 2) / 64 ≡ slice_index pages
      (length pages - 1)
  pub head : 0 < length pages → slice_index words (inode_word ino 1) ≡ slice_index pages 0
  pub footer : (k : ℕ) → k + 1 < length pages → slice_index words (512 * slice_index pages k + 504)
      ≡ slice_index pages (k + 1)
  pub apart : AreApart pages
  pub inside : (k : ℕ) → k < length pages → slice_index pages k < g.pages
  pub few : length pages ≤ g.pages

-- and none of them is free
pub record CanGiveLog (words : List ℕ) (g : Geometry) (ino : ℕ) (free : FreePages) : Type 0 where
  pub pages : List ℕ
  pub leads : LeadsThrough words g ino pages
  pub taken : (page : ℕ) → Contains pages page → ¬ Contains free.free page
  pub in_order : IsInOrder free
  pub size : free.pages ≡ g.pages

-- the page is one of the first k of these
pub record IsAmong (pages : List ℕ) (k page : ℕ) : Type 0 where
  pub i : ℕ
  pub below : i < k
  pub is : slice_index pages i ≡ page

-- the walk is at page i of these, and has given back those before it
pub record IsWalking (pages : List ℕ) (i page : ℕ) (old now : FreePages) : Type 0 where
  pub at : page ≡ slice_index pages i
  pub inside : i < length pages
  pub given : Gives (IsAmong pages i) old now
  pub counted : length now.free ≡ length old.free + i
