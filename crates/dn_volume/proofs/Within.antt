-- What a valid disk says lies within its pages.
use Rattle.std.proofs.Common.{◌≡◌, inl, inr, ℕ, ◌+◌, ◌*◌, ◌/◌, ◌<◌, arith}
use Rattle.pm_layout.specs.declared.Geometry.{Geometry}
use Rattle.pm_layout.specs.Geometry.{InData, first_data, inode_word}
use Rattle.dn_model.specs.Log.{at_tail, at_head, at_footer, at_slot, LogSays}
use Rattle.dn_model.specs.Disk.{Disk, TableSays, DiskSays, of_head, of_inodes, of_logs, of_chains, of_pointers, of_pages}
use Rattle.dn_model.specs.Disk.{HeadSays, at_magic, at_version, at_pages, at_inodes, at_gate, InodesSay, at_state, at_cut}
use Rattle.dn_model.specs.Valid.{IsValid, HasGoodRows}
use Rattle.dn_model.proofs.Regions.{inode_word_low}
use Rattle.law_write.proofs.Unread.{read_in_data}
use Rattle.law_table_on_disk.proofs.NextDisk.{said_within}
use Rattle.dn_volume.specs.Laws.{ValidDisksLieWithin}

module _ (d : Disk) (valid : IsValid d) where
  abbrev g : Geometry
  g = d.geometry

  -- the data area begins within the image
  below : (a : ℕ) → a < 512 * first_data g → a < 512 * g.pages
  below a low = let room = valid.accepted.room in omega (arith, low, room)

  of_inode_word : (ino field a : ℕ) → ino < g.inodes → field < 16 → a ≡ inode_word ino field → a < 512 * g.pages
  of_inode_word ino field a lt small is =
      let low = inode_word_low g ino field lt small in below a (omega (arith, low, is))

  of_page : (page k a : ℕ) → InData g page → k < 512 → a ≡ 512 * page + k → a < 512 * g.pages
  of_page page k a in_data small is = let high = in_data.high in omega (arith, high, small, is)

  good : HasGoodRows d
  good = record { table = valid.table; apart = valid.rows_apart; pointers = valid.pointers; leads = valid.leads }

  of_table : (a v : ℕ) → TableSays d a v → a < 512 * g.pages
  of_table a v told = below a (said_within d good a v told).1

  head_lies : (a v : ℕ) → HeadSays d a v → a < 512 * g.pages
  head_lies a v (at_magic is value) = let many = valid.accepted.pages in omega (arith, is, many)
  head_lies a v (at_version is value) = let many = valid.accepted.pages in omega (arith, is, many)
  head_lies a v (at_pages is value) = let many = valid.accepted.pages in omega (arith, is, many)
  head_lies a v (at_inodes is value) = let many = valid.accepted.pages in omega (arith, is, many)
  head_lies a v (at_gate is value) = let many = valid.accepted.pages in omega (arith, is, many)

  inodes_lie : (a v : ℕ) → InodesSay d a v → a < 512 * g.pages
  inodes_lie a v (at_state ino lt is value) = of_inode_word ino 0 a lt (omega arith) is
  inodes_lie a v (at_cut ino cut lt dies is value) = of_inode_word ino 3 a lt (omega arith) is

  pub lies_within : (a v : ℕ) → DiskSays d a v → a < 512 * g.pages
  lies_within a v (of_head told) = head_lies a v told
  lies_within a v (of_inodes told) = inodes_lie a v told
  lies_within a v (of_chains told) = of_table a v (inl told)
  lies_within a v (of_pointers told) = of_table a v (inr told)
  lies_within a v (of_pages told) =
      of_page told.page told.k a (read_in_data d valid told.page told.read) told.in_page told.place
  lies_within a v (of_logs told) = by told.says
    where
      by : LogSays told.ino (d.inode told.ino).log a v → a < 512 * g.pages
      by (at_tail is value) = of_inode_word told.ino 2 a told.in_table (omega arith) is
      by (at_head some is value) = of_inode_word told.ino 1 a told.in_table (omega arith) is
      by (at_footer k lt is value) =
          of_page _ 504 a ((valid.logs told.ino told.in_table told.used).paged.in_data k (omega (arith, lt))) (omega arith) is
      by (at_slot k j lt small is value) =
          let paged = (valid.logs told.ino told.in_table told.used).paged in
          let fits = paged.fits in
          let high = (paged.in_data (k / 63) (omega (arith, lt, fits))).high in
          omega (arith, high, small, is)

pub valid_disks_lie_within : ValidDisksLieWithin
valid_disks_lie_within d valid a v told = lies_within d valid a v told
