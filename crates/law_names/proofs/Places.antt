-- Where the words stand of which a disk speaks.
use Rattle.std.proofs.Common.{◌≡◌, ◌≢◌, ◌⊎◌, inl, inr, ℕ, ◌+◌, ◌*◌, ◌/◌, ◌%◌, ◌<◌, ◌≤◌, List, [], ◌∷◌, subst, arith}
use Rattle.std.specs.Prelude.{slice_index}
use Rattle.pm_device.specs.Pages.{IsInPage}
use Rattle.pm_layout.specs.declared.Geometry.{Geometry}
use Rattle.pm_layout.specs.Geometry.{InData, first_data, direct_page, inode_word, pointer_word, gate_word}
use Rattle.dn_model.specs.Log.{Log, LogSays, at_tail, at_head, at_footer, at_slot, IsPaged}
use Rattle.dn_model.specs.Table.{Row, RowsSay, at_field, at_next, at_later, ChainSays, at_direct_page, at_direct_next, at_row}
use Rattle.dn_model.specs.Disk.{
  Disk,
  Dying,
  IsUsed,
  DiskSays,
  of_head,
  of_inodes,
  of_logs,
  of_chains,
  of_pointers,
  of_pages,
  at_magic,
  at_version,
  at_pages,
  at_inodes,
  at_gate,
  at_state,
  at_cut,
}
use Rattle.dn_model.specs.Growth.{Prepared, new_head, new_footer, new_slot}
use Rattle.dn_model.specs.Valid.{IsValid}
use Rattle.law_write.proofs.Unread.{read_in_data}

-- the words behind the inode table
abbrev pub IsHigh : Geometry → ℕ → Type 0
IsHigh g a = 512 * direct_page g ≤ a

pub high_not_inode : (g : Geometry) (a ino field : ℕ) → IsHigh g a → ino < g.inodes → field < 16 → a ≢ inode_word ino field
high_not_inode g a ino field high in_table small e = omega arith

pub data_high : (g : Geometry) (page r a : ℕ) → InData g page → a ≡ 512 * page + r → IsHigh g a
unfolding first_data
data_high g page r a in_data place = omega (arith, in_data.low, place)

pub chain_high : (g : Geometry) (p : ℕ) (rs : List Row) (a v : ℕ) → ChainSays g p rs a v → IsHigh g a
chain_high g p rs a v (at_direct_page place value) = omega arith
chain_high g p rs a v (at_direct_next place value) = omega arith
chain_high g p rs a v (at_row told) = rows_high rs told
  where
    rows_high : (rs : List Row) → RowsSay g rs a v → IsHigh g a
    rows_high [] says = elim says [ ]
    rows_high (row ∷ rs) (at_field j lt place value) = omega arith
    rows_high (row ∷ rs) (at_next place value) = omega arith
    rows_high (row ∷ rs) (at_later later) = rows_high rs later

pub pointer_high : (g : Geometry) (page a : ℕ) → a ≡ pointer_word g page → IsHigh g a
unfolding pointer_word
pointer_high g page a place = omega arith

-- a word of a log is its head, its tail, or behind the inode table
pub data LogPlace (g : Geometry) (ino a : ℕ) : Type 0 where
  is_head : a ≡ inode_word ino 1 → LogPlace g ino a
  is_tail : a ≡ inode_word ino 2 → LogPlace g ino a
  is_high : IsHigh g a → LogPlace g ino a

pub log_place : (g : Geometry) (ino : ℕ) (log : Log) (a v : ℕ) → IsPaged g log → LogSays ino log a v → LogPlace g ino a
log_place g ino log a v paged (at_tail place value) = is_tail place
log_place g ino log a v paged (at_head some place value) = is_head place
log_place g ino log a v paged (at_footer k lt place value) = is_high (data_high g (slice_index log.pages k) 504 a (paged.in_data k (omega arith))
    place)
log_place g ino log a v paged (at_slot k j lt word place value) =
    is_high (data_high g (slice_index log.pages (k / 63)) (8 * (k % 63) + j) a (paged.in_data (k / 63) (omega (arith, paged.fits)))
    (omega (arith, place)))

-- what is prepared for a log is its head, or behind the inode table
pub prepared_place : (g : Geometry) (ino : ℕ) (old new : Log) (a v : ℕ) → IsPaged g new → Prepared ino old new a v → (a ≡ inode_word ino 1) ⊎ IsHigh g
    a
prepared_place g ino old new a v paged (new_head none some place value) = inl place
prepared_place g ino old new a v paged (new_footer k late lt place value) = inr (data_high g (slice_index new.pages k) 504 a
    (paged.in_data k (omega arith)) place)
prepared_place g ino old new a v paged (new_slot k j late lt word place value) =
    inr (data_high g (slice_index new.pages (k / 63)) (8 * (k % 63) + j) a (paged.in_data (k / 63) (omega (arith, paged.fits)))
    (omega (arith, place)))

-- a word of which a valid disk speaks lies in its first page, is the gate, is an inode's, or is behind the inode table
pub data PlaceOf (g : Geometry) (a : ℕ) : Type 0 where
  first_page : a < 512 → PlaceOf g a
  the_gate : a ≡ gate_word → PlaceOf g a
  of_inode : (ino field : ℕ) → a ≡ inode_word ino field → PlaceOf g a
  behind : IsHigh g a → PlaceOf g a

-- what of an inode is said by one of its words
pub data SaidOfInode (d : Disk) (ino field : ℕ) : Type 0 where
  said_state : field ≡ 0 → SaidOfInode d ino field
  said_cut : (c : ℕ) → (d.inode ino).use_of ≡ Dying c → SaidOfInode d ino field
  said_log : IsUsed (d.inode ino).use_of → field ≤ 2 → SaidOfInode d ino field

module _ (d : Disk) (valid : IsValid d) where
  log_place_of : (ino a : ℕ) → LogPlace d.geometry ino a → PlaceOf d.geometry a
  log_place_of ino a (is_head e) = of_inode ino 1 e
  log_place_of ino a (is_tail e) = of_inode ino 2 e
  log_place_of ino a (is_high high) = behind high

  pub place_of : (a v : ℕ) → DiskSays d a v → PlaceOf d.geometry a
  place_of a v (of_head (at_magic place value)) = first_page (omega arith)
  place_of a v (of_head (at_version place value)) = first_page (omega arith)
  place_of a v (of_head (at_pages place value)) = first_page (omega arith)
  place_of a v (of_head (at_inodes place value)) = first_page (omega arith)
  place_of a v (of_head (at_gate place value)) = the_gate place
  place_of a v (of_inodes (at_state i lt place value)) = of_inode i 0 place
  place_of a v (of_inodes (at_cut i c lt dying place value)) = of_inode i 3 place
  place_of a v (of_logs told) = log_place_of told.ino a (log_place d.geometry told.ino (d.inode told.ino).log a v
      (valid.logs told.ino told.in_table told.used).paged told.says)
  place_of a v (of_chains told) = behind (chain_high d.geometry told.prefix (d.chain told.prefix) a v told.says)
  place_of a v (of_pointers told) = behind (pointer_high d.geometry told.page a told.place)
  place_of a v (of_pages told) = behind (data_high d.geometry told.page told.k a (read_in_data d valid told.page told.read) told.place)

  -- of the journal's page only the gate is read
  pub only_gate : (a v : ℕ) → IsInPage 1 a → DiskSays d a v → a ≡ gate_word
  only_gate a v here says = elim (place_of a v says) [
    | first_page low ↦ omega (arith, here.0)
    | the_gate e ↦ e
    | of_inode ino field e ↦ omega (arith, here.1, e)
    | behind high ↦ omega (arith, here.1, high)
  ]

  -- what is said of an inode's word
  module _ (ino field a v : ℕ) (in_table : ino < d.geometry.inodes) (small : field < 16) (place : a ≡ inode_word ino field) where
    not_high : IsHigh d.geometry a → ⊥
    not_high high = high_not_inode d.geometry a ino field high in_table small place

    by_log : (i : ℕ) → IsUsed (d.inode i).use_of → LogPlace d.geometry i a → SaidOfInode d ino field
    by_log i used (is_head e) = let same : i ≡ ino = omega arith in said_log (subst (λ (k : ℕ). IsUsed (d.inode k).use_of) same used) (omega arith)
    by_log i used (is_tail e) = let same : i ≡ ino = omega arith in said_log (subst (λ (k : ℕ). IsUsed (d.inode k).use_of) same used) (omega arith)
    by_log i used (is_high high) = absurd (not_high high)

    pub said_of_inode : DiskSays d a v → SaidOfInode d ino field
    said_of_inode (of_head (at_magic at value)) = absurd (omega arith)
    said_of_inode (of_head (at_version at value)) = absurd (omega arith)
    said_of_inode (of_head (at_pages at value)) = absurd (omega arith)
    said_of_inode (of_head (at_inodes at value)) = absurd (omega arith)
    said_of_inode (of_head (at_gate at value)) = absurd (omega arith)
    said_of_inode (of_inodes (at_state i lt at value)) = said_state (omega arith)
    said_of_inode (of_inodes (at_cut i c lt dying at value)) = let same : i ≡ ino = omega arith in
        said_cut c (subst (λ (k : ℕ). (d.inode k).use_of ≡ Dying c) same dying)
    said_of_inode (of_logs told) = by_log told.ino told.used (log_place d.geometry told.ino (d.inode told.ino).log a v
        (valid.logs told.ino told.in_table told.used).paged told.says)
    said_of_inode (of_chains told) = absurd (not_high (chain_high d.geometry told.prefix (d.chain told.prefix) a v told.says))
    said_of_inode (of_pointers told) = absurd (not_high (pointer_high d.geometry told.page a told.place))
    said_of_inode (of_pages told) = absurd (not_high (data_high d.geometry told.page told.k a (read_in_data d valid told.page told.read) told.place))
