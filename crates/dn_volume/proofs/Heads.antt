-- The head of an image, where it is known and what leaves it alone; and pointers that lead to no row.
use Rattle.std.proofs.Common.{◌≡◌, ℕ, ◌<◌, ◌≤◌, List, refl, ◌∙◌, subst, arith}
use Rattle.std.specs.Prelude.{Contains, slice_index}
use Rattle.pm_device.specs.State.{State}
use Rattle.pm_device.specs.Settled.{StoresOnly}
use Rattle.pm_layout.specs.declared.Geometry.{Geometry}
use Rattle.dn_model.specs.Table.{Row}
use Rattle.dn_model.specs.Disk.{Disk, DiskSays, rows, of_head, at_magic, at_version, at_pages, at_inodes}
use Rattle.dn_model.specs.Valid.{IsValid}
use Rattle.law_write.specs.Events.{IsUnused}
use Rattle.dn_volume.specs.Agrees.{StandsFast, HasHead, HasNoStale}
use Rattle.dn_volume.specs.Rely.{IsWordOf, of_journal, of_table, of_inode, of_log, of_page}
use Rattle.dn_volume.proofs.Owned.{in_data, regions}

-- words that stand for a disk begin with its head
pub head_of : (d : Disk) (g : Geometry) (s : State) → StandsFast d g s → HasHead g s.now
head_of d g s fast = subst (λ (h : Geometry). HasHead h s.now) fast.geometry (record {
  magic = reads 0 0x313041564F4E4544 (of_head (at_magic refl refl));
  version = reads 1 1 (of_head (at_version refl refl));
  pages = reads 2 d.geometry.pages (of_head (at_pages refl refl));
  inodes = reads 3 d.geometry.inodes (of_head (at_inodes refl refl));
})
  where
    reads : (a v : ℕ) → DiskSays d a v → slice_index s.now a ≡ v
    reads = fast.stands.reads

-- stores elsewhere leave it
pub head_kept : (W : ℕ → Type 0) (g : Geometry) (s t : State) → ((a : ℕ) → a < 4 → W a → ⊥)
    → StoresOnly W s t → HasHead g s.now → HasHead g t.now
head_kept W g s t elsewhere only head = record {
  magic = only.read 0 (elsewhere 0 (omega arith)) ∙ head.magic;
  version = only.read 1 (elsewhere 1 (omega arith)) ∙ head.version;
  pages = only.read 2 (elsewhere 2 (omega arith)) ∙ head.pages;
  inodes = only.read 3 (elsewhere 3 (omega arith)) ∙ head.inodes;
}

-- no event stores to the head
word_high : (d : Disk) → IsValid d → (inodes pages : List ℕ) → ((page : ℕ) → Contains pages page → IsUnused d page)
    → (a : ℕ) → IsWordOf inodes pages d a → 4 ≤ a
word_high d valid inodes pages unused a (of_journal here) = omega (arith, here.0)
word_high d valid inodes pages unused a (of_table here) = omega (arith, here.0)
word_high d valid inodes pages unused a (of_inode i has lt here) = omega (arith, here.0)
word_high d valid inodes pages unused a (of_log i page has lt used listed here) =
    let low = (in_data d valid i page lt used listed).low in
    let far = (regions d.geometry valid.accepted).0 in omega (arith, here.0, low, far)
word_high d valid inodes pages unused a (of_page page has here) =
    let low = (unused page has).free.data_page.low in
    let far = (regions d.geometry valid.accepted).0 in omega (arith, here.0, low, far)

pub head_after : (d : Disk) (inodes pages : List ℕ) (g : Geometry) (s t : State) → StandsFast d g s
    → ((page : ℕ) → Contains pages page → IsUnused d page) → StoresOnly (IsWordOf inodes pages d) s t → HasHead g t.now
head_after d inodes pages g s t fast unused only =
    head_kept (IsWordOf inodes pages d) g s t
    (λ a low word. let high = word_high d fast.valid inodes pages unused a word in omega (arith, low, high)) only (head_of d g s fast)

-- a row of this page is there still
pub record KeepsPage (e : Disk) (page : ℕ) : Type 0 where
  pub row : Row
  pub there : Contains (rows e) row
  pub page_is : row.page ≡ page

-- where pointers stay, and each page with a row has one still, none is stale
pub none_stale_kept : (d e : Disk) → e.geometry ≡ d.geometry → ((page : ℕ) → e.pointer page ≡ d.pointer page)
    → ((row : Row) → Contains (rows d) row → KeepsPage e row.page) → HasNoStale d → HasNoStale e
none_stale_kept d e same pointers keeps was = record {
  none = λ page lt some none. was.none page (subst (λ (g : Geometry). page < g.pages) same lt)
      (λ zero'. some (pointers page ∙ zero'))
      (λ row has is. let kept = keeps row has in none kept.row kept.there (kept.page_is ∙ is));
}
