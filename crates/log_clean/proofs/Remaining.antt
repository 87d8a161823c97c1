-- What the log of an inode says still, by the disk for which the device stands.
use Rattle.std.proofs.Common.{◌≡◌, ℕ, zero, suc, ◌<◌, true, false, List, [], ◌∷◌, map, sym, ◌∙◌, ap, subst, arith}
use Rattle.std.specs.Prelude.{slice_get, Some, All}
use Rattle.std.specs.Option.{option_map}
use Rattle.std.specs.FinMap.{get}
use Rattle.std.proofs.lemmas.Bool.{false≢true}
use Rattle.std.proofs.lemmas.Option.{slice_get_within}
use Rattle.std.proofs.lemmas.List.Elements.{All-nil, All-cons, All-head, All-tail}
use Rattle.pm_device.specs.State.{State}
use Rattle.pm_layout.specs.declared.Geometry.{Geometry}
use Rattle.pm_layout.specs.Geometry.{IsAccepted}
use Rattle.log_entry.specs.Spelling.{spelled, IsSpelled}
use Rattle.log_entry.specs.declared.item.LogItem.{LogItem}
use Rattle.log_entry.specs.declared.item.LogItem.TheVariants.{Write, Size, Add, Forget}
use Rattle.file_content.specs.Content.{kept}
use Rattle.dn_model.specs.Log.{placed}
use Rattle.dn_model.specs.Maps.{mapping, size_of}
use Rattle.dn_model.specs.Disk.{Disk, Use, Live, IsUsed, of_logs, maps, maps_by_use}
use Rattle.dn_model.specs.Valid.{MayStand, IsLog}
use Rattle.log_walk.specs.Items.{seen}
use Rattle.log_walk.specs.declared.items.Placed.{Placed as PlacedItem}
use Rattle.log_walk.specs.Walk.{HasLog}
use Rattle.log_walk.specs.Laws.{ReadsAs}
use Rattle.log_walk.proofs.OneEnd.{one_log}
use Rattle.file_scan.specs.Index.{MayBeIndexed, HasSmallBlocks}
use Rattle.law_clean.specs.Cleaned.{cleaned_items}
use Rattle.law_clean.proofs.Cleaning.{is_spelled, may_stand}
use Rattle.clean_items.specs.Cleaning.{IsKeptOf}
use Rattle.dn_volume.specs.declared.volume.InodeState.{InodeState}
use Rattle.dn_volume.specs.declared.volume.Parts.{Parts}
use Rattle.dn_volume.specs.declared.volume.Volume.{Volume}
use Rattle.dn_volume.specs.Agrees.{Agrees, IsVolume, agrees_with, is_stopped}
use Rattle.dn_volume.specs.Cleans.{may_clean}
use Rattle.dn_volume.specs.Inodes.{IsInodeOf, as_use}
use Rattle.log_clean.specs.Planning.{MayBeLaid}
use Rattle.log_clean.proofs.Cleanable.{IsCleanable, cleanable, opt_at}
use Rattle.log_clean.proofs.Planned.{placed_indexed}

-- a volume that isn't stopped agrees with a disk
pub volume_of : {D F : Type 0} (state : D → State) (v : Volume D F) → Agrees state v → v.parts.stopped ≡ false
    → (d : Disk) × IsVolume d v.parts (state v.device)
volume_of state v (agrees_with d is) running = (d, is)
volume_of state v (is_stopped is) running = absurd (false≢true (sym running ∙ is.stopped))

-- items of a log may be laid out
small_blocks : (g : Geometry) (ino : ℕ) → IsAccepted g → (x : LogItem) → IsSpelled x → MayStand g ino x → HasSmallBlocks x
small_blocks g zero accepted (Write first n block size flag mask) spelled may = absurd may
small_blocks g (suc k) accepted (Write first n block size flag mask) spelled may = omega (arith, may.1.high, accepted.few_pages, spelled.0)
small_blocks g ino accepted (Size size) spelled may = tt
small_blocks g ino accepted (Add i name) spelled may = tt
small_blocks g ino accepted (Forget name) spelled may = tt

pub may_be_laid : (g : Geometry) (ino : ℕ) → IsAccepted g → (xs : List LogItem) → All IsSpelled xs → All (MayStand g ino) xs → All MayBeLaid xs
may_be_laid g ino accepted [] spelled may = All-nil MayBeLaid
may_be_laid g ino accepted (x ∷ xs) spelled may =
    let s : IsSpelled x = All-head IsSpelled x xs spelled in
    let m : MayStand g ino x = All-head (MayStand g ino) x xs may in
    All-cons MayBeLaid x xs (s, small_blocks g ino accepted x s m)
    (may_be_laid g ino accepted xs (All-tail IsSpelled x xs spelled) (All-tail (MayStand g ino) x xs may))

-- the items that are read may be indexed
pub read_indexed : (g : Geometry) (c : List ℕ) (ino : ℕ) (items : List PlacedItem) → IsAccepted g → HasLog g c ino items → All MayBeIndexed items
read_indexed g c ino items accepted has =
    placed_indexed has.log.pages 0 has.log.items items (may_be_laid g ino accepted has.log.items has.valid.spelled has.valid.standing) has.items_are

-- The inode of a log that may be cleaned.
module _ (d : Disk) (b : Parts) (s : State) (v : IsVolume d b s) (ino : ℕ) (n : InodeState) (at : slice_get b.inodes.items ino ≡ Some n)
    (may : may_clean b ino ≡ true) where
  pub can : IsCleanable b ino n
  can = cleanable b ino n (sym (opt_at b ino n at) ∙ may)

  pub in_table : ino < d.geometry.inodes
  in_table = let lt = slice_get_within b.inodes.items ino n at in let all = v.inodes.all in omega (arith, lt, all)

  pub is_kept : IsInodeOf d ino n
  is_kept = v.inodes.each ino n at

  pub live : (d.inode ino).use_of ≡ Live
  live = is_kept.use_is ∙ ap as_use can.live

  pub used : IsUsed (d.inode ino).use_of
  used = subst IsUsed (sym live) tt

  pub good : IsLog d.geometry ino (d.inode ino).log
  good = v.fast.valid.logs ino in_table used

  pub places_are : (idx : ℕ) → maps d ino idx ≡ mapping (d.inode ino).log idx
  unfolding maps
  places_are idx = ap (λ (u : Use). maps_by_use u (d.inode ino).log idx) live

  pub size_same : size_of (d.inode ino).log ≡ n.size
  size_same = is_kept.size_is used

  pub kept_same : (idx : ℕ) → get n.map.map idx ≡ option_map kept (mapping (d.inode ino).log idx)
  kept_same idx = is_kept.places idx ∙ ap (option_map kept) (places_are idx)

  pub kept_of : IsKeptOf (d.inode ino).log n.size n.map.map
  kept_of = record { size_is = size_same; each = kept_same }

  pub reads_so : ReadsAs b.geometry s.now ino (d.inode ino).log
  reads_so = record {
    reads = λ a w says. v.fast.stands.reads a w (of_logs (record { ino = ino; in_table = in_table; used = used; says = says }));
    valid = subst (λ (g : Geometry). IsLog g ino (d.inode ino).log) v.fast.geometry good;
  }

  -- what is read is the log's
  pub items_same : (items : List PlacedItem) → HasLog b.geometry s.now ino items → map seen items ≡ placed (d.inode ino).log
  items_same items has = has.items_are
      ∙ ap placed (one_log b.geometry s.now ino has.log (d.inode ino).log (record { reads = has.reads; valid = has.valid }) reads_so)

  -- the items of the new log
  pub new_laid : All MayBeLaid (cleaned_items ino (d.inode ino).log)
  new_laid = may_be_laid d.geometry ino v.fast.valid.accepted (cleaned_items ino (d.inode ino).log)
      (is_spelled d.geometry ino (d.inode ino).log good) (may_stand d.geometry ino (d.inode ino).log good)
