-- The words that others own are none of those that an event stores to.
use Rattle.std.proofs.Common.{◌≡◌, ℕ, ◌<◌, ◌≤◌, List, sym, ◌∙◌, subst, arith}
use Rattle.std.specs.Prelude.{Contains}
use Rattle.std.proofs.lemmas.Grind.{get_or_default_zero}
use Rattle.pm_device.specs.Pages.{IsInPage}
use Rattle.pm_layout.specs.declared.Geometry.{Geometry}
use Rattle.pm_layout.specs.Geometry.{InData, IsAccepted, inode_word, first_data, direct_page}
use Rattle.dn_model.specs.Disk.{Disk, IsUsed}
use Rattle.dn_model.specs.Valid.{IsValid}
use Rattle.dn_model.proofs.Regions.{inode_word_low}
use Rattle.law_write.specs.Events.{IsUnused}
use Rattle.dn_volume.specs.Rely.{IsWordOf, of_journal, of_table, of_inode, of_log, of_page}

pub regions : (g : Geometry) → IsAccepted g → (3 ≤ first_data g) × (direct_page g ≤ first_data g)
unfolding first_data
regions g is = (omega (arith, is.pages, is.inodes), omega arith)

same_page : (page other a : ℕ) → IsInPage page a → IsInPage other a → other ≡ page
same_page page other a here there = omega (arith, here.0, here.1, there.0, there.1)

-- a word of an unused page that isn't one of the pages
pub page_out : (inodes pages : List ℕ) (d : Disk) → IsValid d → (page a : ℕ) → IsUnused d page → (Contains pages page → ⊥) → IsInPage page a
    → IsWordOf inodes pages d a → ⊥
page_out inodes pages d valid page a unused out here (of_journal j) = omega (
  arith,
  (regions d.geometry valid.accepted).0,
  unused.free.data_page.low,
  here.0,
  j.1,
)
page_out inodes pages d valid page a unused out here (of_table tw) = omega (arith, unused.free.data_page.low, here.0, tw.1)
page_out inodes pages d valid page a unused out here (of_inode i has lt w) =
    let low = inode_word_low d.geometry i 15 lt (omega arith) in omega (arith, low, unused.free.data_page.low, here.0, w.1)
page_out inodes pages d valid page a unused out here (of_log i other has lt used listed w) =
    unused.free.in_no_log (record {
      ino = i;
      in_table = lt;
      used = used;
      listed = subst (Contains (d.inode i).log.pages)
          (same_page page other a here w) listed;
    })
page_out inodes pages d valid page a unused out here (of_page other has w) = out (subst (Contains pages) (same_page page other a here w) has)

pub in_data : (d : Disk) → IsValid d → (i page : ℕ) → i < d.geometry.inodes → IsUsed (d.inode i).use_of → Contains (d.inode i).log.pages page
    → InData d.geometry page
in_data d valid i page lt used listed =
    let paged = (valid.logs i lt used).paged in
    subst (InData d.geometry) (sym (get_or_default_zero (d.inode i).log.pages listed.0 page listed.1) ∙ listed.2) (paged.in_data listed.0 listed.1)

-- a word of a log's page of an inode that isn't one of these, where the pages are unused
pub log_out : (inodes pages : List ℕ) (d : Disk) → IsValid d → (ino page a : ℕ) → ino < d.geometry.inodes → IsUsed (d.inode ino).use_of
    → Contains (d.inode ino).log.pages page
    → (Contains inodes ino → ⊥) → ((p : ℕ) → Contains pages p → IsUnused d p) → IsInPage page a → IsWordOf inodes pages d a → ⊥
log_out inodes pages d valid ino page a lt used listed out unused here (of_journal j) =
    let data_page = in_data d valid ino page lt used listed in omega (arith, (regions d.geometry valid.accepted).0, data_page.low, here.0, j.1)
log_out inodes pages d valid ino page a lt used listed out unused here (of_table tw) =
    let data_page = in_data d valid ino page lt used listed in omega (arith, data_page.low, here.0, tw.1)
log_out inodes pages d valid ino page a lt used listed out unused here (of_inode i has small w) =
    let low = inode_word_low d.geometry i 15 small (omega arith) in let data_page = in_data d valid ino page lt used listed in
    omega (arith, low, data_page.low, here.0, w.1)
log_out inodes pages d valid ino page a lt used listed out unused here (of_log i other has small used' listed' w) =
    let there : Contains (d.inode i).log.pages page = subst (Contains (d.inode i).log.pages) (same_page page other a here w) listed' in
    out (subst (Contains inodes) (valid.single.one_log i ino page small lt used' used there listed) has)
log_out inodes pages d valid ino page a lt used listed out unused here (of_page other has w) =
    (unused other has).free.in_no_log (record {
      ino = ino;
      in_table = lt;
      used = used;
      listed = subst (Contains (d.inode ino).log.pages)
          (sym (same_page page other a here w)) listed;
    })

-- a word of such an inode
pub inode_out : (inodes pages : List ℕ) (d : Disk) → IsValid d → (ino field a : ℕ) → ino < d.geometry.inodes → field < 16 → a ≡ inode_word ino field
    → (Contains inodes ino → ⊥) → ((p : ℕ) → Contains pages p → IsUnused d p) → IsWordOf inodes pages d a → ⊥
inode_out inodes pages d valid ino field a lt small is out unused (of_journal j) = omega (arith, is, j.1)
inode_out inodes pages d valid ino field a lt small is out unused (of_table tw) = omega (arith, lt, small, is, tw.0)
inode_out inodes pages d valid ino field a lt small is out unused (of_inode i has lt' w) =
    let same : i ≡ ino = omega (arith, small, is, w.0, w.1) in out (subst (Contains inodes) same has)
inode_out inodes pages d valid ino field a lt small is out unused (of_log i other has lt' used listed w) =
    let low = inode_word_low d.geometry ino field lt small in let data_page = in_data d valid i other lt' used listed in
    omega (arith, low, is, data_page.low, w.0)
inode_out inodes pages d valid ino field a lt small is out unused (of_page other has w) =
    let low = inode_word_low d.geometry ino field lt small in omega (arith, low, is, (unused other has).free.data_page.low, w.0)
