-- While a log grows, what the logs of other inodes say stands.
use Rattle.std.proofs.Common.{◌≡◌, ◌≢◌, ◌⊎◌, inl, inr, ℕ, ◌+◌, ◌*◌, ◌/◌, ◌%◌, ◌<◌, List, length, sym, ◌∙◌, arith}
use Rattle.std.specs.Prelude.{slice_index}
use Rattle.pm_device.specs.State.{State}
use Rattle.pm_device.specs.Settled.{StoresOnly}
use Rattle.pm_device.specs.Reading.{Said}
use Rattle.pm_device.proofs.Layers.{leaves_only-stores}
use Rattle.pm_device.proofs.OneWord.{stands-stores}
use Rattle.pm_layout.specs.declared.Geometry.{Geometry}
use Rattle.pm_layout.specs.Geometry.{InData, inode_word}
use Rattle.dn_model.specs.Log.{Log, LogSays, at_tail, at_head, at_footer, at_slot, IsPaged}
use Rattle.dn_model.specs.Growth.{Prepared, new_head, new_footer, new_slot}
use Rattle.dn_model.proofs.Append.{same_page}
use Rattle.dn_model.proofs.Regions.{inode_not_data}
use Rattle.inode_log.specs.OtherLogs.{IsOtherLog, KeepsOtherLogs}

-- a word of an inode
pub record IsInodes (ino a : ℕ) : Type 0 where
  pub field : ℕ
  pub small : field < 16
  pub place : a ≡ inode_word ino field

-- a word on one of these pages
pub record IsOnPages (pages : List ℕ) (a : ℕ) : Type 0 where
  pub k : ℕ
  pub r : ℕ
  pub lt : k < length pages
  pub small : r < 512
  pub place : a ≡ 512 * slice_index pages k + r

abbrev pub IsLogs : ℕ → List ℕ → ℕ → Type 0
IsLogs ino pages a = IsInodes ino a ⊎ IsOnPages pages a

said_there : (g : Geometry) (ino : ℕ) (log : Log) → IsPaged g log → (a v : ℕ) → LogSays ino log a v → IsLogs ino log.pages a
said_there g ino log paged a v (at_tail place value) = inl (record { field = 2; small = omega arith; place = place })
said_there g ino log paged a v (at_head some place value) = inl (record { field = 1; small = omega arith; place = place })
said_there g ino log paged a v (at_footer k lt place value) =
    inr (record { k = k; r = 504; lt = omega (arith, lt); small = omega arith; place = place })
said_there g ino log paged a v (at_slot k j lt word place value) =
    inr (record { k = k / 63; r = 8 * (k % 63) + j; lt = omega (arith, lt, paged.fits); small = omega (arith, word); place = omega (arith, place) })

pub prepared_there : (g : Geometry) (ino : ℕ) (old new : Log) → IsPaged g new → (a v : ℕ) → Prepared ino old new a v → IsLogs ino new.pages a
prepared_there g ino old new paged a v (new_head none some place value) = inl (record { field = 1; small = omega arith; place = place })
prepared_there g ino old new paged a v (new_footer k late lt place value) =
    inr (record { k = k; r = 504; lt = omega (arith, lt); small = omega arith; place = place })
prepared_there g ino old new paged a v (new_slot k j late lt word place value) =
    inr (record { k = k / 63; r = 8 * (k % 63) + j; lt = omega (arith, lt, paged.fits); small = omega (arith, word); place = omega (arith, place) })

same_inode : (i j f h : ℕ) → f < 16 → h < 16 → inode_word i f ≡ inode_word j h → i ≡ j
same_inode i j f h fs hs e = omega (arith, fs, hs, e)

module _ (g : Geometry) (ino : ℕ) (pages : List ℕ) (in_table : ino < g.inodes) (in_data : (k : ℕ) → k < length pages → InData g (slice_index pages k))
    (s t : State) where
  no_word : (other : ℕ) (log : Log) → IsOtherLog g ino pages other log s → (a : ℕ) → IsLogs other log.pages a → IsLogs ino pages a → ⊥
  no_word other log is a (inl one) (inl two) = is.different (same_inode other ino one.field two.field one.small two.small (sym one.place ∙ two.place))
  no_word other log is a (inl one) (inr two) =
      inode_not_data g other one.field (slice_index pages two.k) two.r is.in_table one.small (in_data two.k two.lt) (sym one.place ∙ two.place)
  no_word other log is a (inr one) (inl two) =
      inode_not_data g ino two.field (slice_index log.pages one.k) one.r in_table two.small (is.paged.in_data one.k one.lt)
      (sym two.place ∙ one.place)
  no_word other log is a (inr one) (inr two) =
      is.apart one.k two.k one.lt two.lt
      (same_page (slice_index log.pages one.k) (slice_index pages two.k) one.r two.r one.small two.small (sym one.place ∙ two.place))

  pub others_stand : (W : ℕ → Type 0) → StoresOnly W s t → ((a : ℕ) → W a → IsLogs ino pages a) → KeepsOtherLogs g ino pages s t
  others_stand W only there other log is = record {
    images = leaves_only-stores W s t (LogSays other log) only apart is.stands;
    stands = stands-stores W s t only (LogSays other log) apart is.stands;
  }
    where
      apart : (a v : ℕ) → LogSays other log a v → W a → ⊥
      apart a v told stored = no_word other log is a (said_there g other log is.paged a v told) (there a stored)
