-- The laws of cleaned logs.
use Rattle.std.proofs.Common.{◌≡◌, inl, inr, ℕ, zero, suc, ◌+◌, ◌*◌, ◌/◌, ◌<◌, ◌≤◌, Bool, true, false, List, [], ◌∷◌, length, refl, sym, ◌∙◌, ap, subst, arith}
use Rattle.std.specs.Prelude.{◌==◌, if◌then◌else◌, slice_index, All, Option, Some, None}
use Rattle.pm_layout.specs.declared.Geometry.{Geometry}
use Rattle.log_entry.specs.Spelling.{IsSpelled, spelled}
use Rattle.log_entry.specs.declared.item.Flag.TheVariants.{Complete}
use Rattle.log_entry.specs.declared.item.LogItem.{LogItem}
use Rattle.log_entry.specs.declared.item.LogItem.TheVariants.{Write, Size, Add, Forget}
use Rattle.dn_model.specs.Log.{Log, count, tail_at, placed_from}
use Rattle.dn_model.specs.Maps.{Mapping, mapping, mapped_after, size_of}
use Rattle.dn_model.specs.Disk.{IsUsed}
use Rattle.dn_model.specs.Files.{named_after}
use Rattle.dn_model.specs.Own.{IsAlone}
use Rattle.dn_model.specs.Valid.{IsLog, MayStand}
use Rattle.law_write.proofs.MappedPlaces.{size-small}
use Rattle.law_log_swap.specs.Relogged.{block_of}
use Rattle.law_log_swap.specs.Replaced.{AreAlike}
use Rattle.law_log_swap.proofs.ReplacedLog.{two_pages_spared}
use Rattle.law_clean.specs.Cleaned.{last_adds, still_mapped, or_size, cleaned_items, cleaned_log, cleaned_slots}
use Rattle.law_clean.specs.CleanLaws.{CleanedIsSpelled, CleanedMayStand, CleanedMapsAlike, CleanedKeepsPlaces, CleanedKeepsDone, CleanedIsShorter, NamesTakeNoMore, EmptyHasNoPage, CleanedMayReplace, NothingIsMapped}
use Rattle.law_clean.proofs.Among.{Among, All-from_among, All-among}
use Rattle.law_clean.proofs.Parts.{AreKept, is_covered, is_part, part_kept, part_mapped, part_spelled, part_stands}
use Rattle.law_clean.proofs.Alike.{parts_alike, parts_size}
use Rattle.law_clean.proofs.Naming.{IsOfNames, last_adds-named, last_among, last_fewer, names-mapped, names-size}

-- the items of a file's cleaned log are parts, or a Size
of_parts : (P : LogItem → Type 0) (size : ℕ) (items : List LogItem) → ((item : LogItem) → Among item items → P item) → P (Size size)
    → (item : LogItem) → Among item (or_size size items) → P item
of_parts P size [] each one item in' = by_test (size == 0) in'
  where
    by_test : (b : Bool) → Among item (if b then [] else (Size size ∷ [])) → P item
    by_test true none = absurd none
    by_test false (inl e) = subst P e one
    by_test false (inr none) = absurd none
of_parts P size (x ∷ items) each one item in' = each item in'

module _ (g : Geometry) (log : Log) where
  kept : (k : ℕ) → IsLog g (suc k) log → (item : LogItem) → Among item (still_mapped log) → AreKept log item
  kept k good item in' = part_kept log item (is_part log item in') g (suc k) good

  pub cleaned_spelled : (ino : ℕ) → IsLog g ino log → All IsSpelled (cleaned_items ino log)
  unfolding cleaned_items
  cleaned_spelled zero good = All-from_among IsSpelled (last_adds log.items)
      (λ item in'. All-among IsSpelled item log.items good.spelled (last_among item log.items in'))
  cleaned_spelled (suc k) good = All-from_among IsSpelled (or_size (size_of log) (still_mapped log))
      (of_parts IsSpelled (size_of log) (still_mapped log) (λ item in'. part_spelled log item (is_part log item in') g (suc k) good)
      (size-small log good.spelled))

  pub cleaned_stands : (ino : ℕ) → IsLog g ino log → All (MayStand g ino) (cleaned_items ino log)
  unfolding cleaned_items
  cleaned_stands zero good = All-from_among (MayStand g 0) (last_adds log.items)
      (λ item in'. All-among (MayStand g 0) item log.items good.standing (last_among item log.items in'))
  cleaned_stands (suc k) good = All-from_among (MayStand g (suc k)) (or_size (size_of log) (still_mapped log))
      (of_parts (MayStand g (suc k)) (size_of log) (still_mapped log) (λ item in'. part_stands log item (is_part log item in') g k good) tt)

  -- what may stand in the root's log is of names
  of_names : (item : LogItem) → MayStand g 0 item → IsOfNames item
  of_names (Write first n block size flag mask) stands = stands
  of_names (Size size) stands = stands
  of_names (Add ino name) stands = tt
  of_names (Forget name) stands = tt

  items_of_names : IsLog g 0 log → (item : LogItem) → Among item log.items → IsOfNames item
  items_of_names good item in' = of_names item (All-among (MayStand g 0) item log.items good.standing in')

  pub cleaned_alike : (ino : ℕ) (pages : List ℕ) → IsLog g ino log → (idx : ℕ)
      → AreAlike (mapping log idx) (mapping (cleaned_log ino log pages) idx)
  unfolding mapping cleaned_items
  cleaned_alike zero pages good idx =
      subst (λ (o : Option Mapping). AreAlike o (mapped_after idx None (placed_from pages 0 (last_adds log.items))))
      (sym (names-mapped idx None log.pages 0 log.items (items_of_names good)))
      (subst (AreAlike None) (sym (names-mapped idx None pages 0 (last_adds log.items)
      (λ item in'. items_of_names good item (last_among item log.items in')))) tt)
  cleaned_alike (suc k) pages good idx = parts_alike log pages (kept k good) idx

  pub cleaned_size : (ino : ℕ) (pages : List ℕ) → IsLog g ino log → size_of (cleaned_log ino log pages) ≡ size_of log
  unfolding size_of cleaned_items
  cleaned_size zero pages good =
      names-size 0 (last_adds log.items) (λ item in'. items_of_names good item (last_among item log.items in'))
      ∙ sym (names-size 0 log.items (items_of_names good))
  cleaned_size (suc k) pages good = parts_size log pages (kept k good)

  pub cleaned_names : (ino : ℕ) → ino ≡ 0 → (name : List ℕ) → named_after name None (cleaned_items ino log) ≡ named_after name None log.items
  unfolding cleaned_items
  cleaned_names zero root name = last_adds-named name log.items
  cleaned_names (suc k) root name = absurd (omega (arith, root))

alike_blocks : (m n : Option Mapping) → AreAlike m n → block_of n ≡ block_of m
alike_blocks None None same = refl
alike_blocks None (Some n) same = absurd same
alike_blocks (Some m) None same = absurd same
alike_blocks (Some m) (Some n) same = ap Some same.block

alike_done : (o p : Option Mapping) (m n : Mapping) → AreAlike o p → o ≡ Some m → p ≡ Some n
    → (m.flag ≡ Complete → n.flag ≡ Complete) × (IsAlone m → IsAlone n)
alike_done None p m n same e f = cc
alike_done (Some x) None m n same e f = cc
alike_done (Some x) (Some y) m n same e f =
    let was : x ≡ m = cc in
    let now : y ≡ n = cc in (
      λ done. ap (λ (z : Mapping). z.flag) (sym now) ∙ same.flag ∙ ap (λ (z : Mapping). z.flag) was ∙ done,
      λ alone. subst IsAlone now (same.alone (subst IsAlone (sym was) alone)),
    )

-- no part is left where no place is mapped
pub nothing_mapped : NothingIsMapped
nothing_mapped log = (λ none. by_list none (still_mapped log) refl, λ none idx. unmapped none idx (mapping log idx) refl)
  where
    by_list : ((idx : ℕ) → mapping log idx ≡ None) → (items : List LogItem) → still_mapped log ≡ items → still_mapped log ≡ []
    by_list none [] e = e
    by_list none (x ∷ items) e =
        let at = part_mapped log x (is_part log x (subst (Among x) (sym e) (inl refl))) in
        let clash : None ≡ Some at.1 = sym (none at.0) ∙ at.2 in cc

    unmapped : still_mapped log ≡ [] → (idx : ℕ) (o : Option Mapping) → mapping log idx ≡ o → mapping log idx ≡ None
    unmapped none idx None e = e
    unmapped none idx (Some m) e =
        let is = is_covered log idx m e in
        absurd (subst (Among is.item) none is.among)

pub is_spelled : CleanedIsSpelled
is_spelled g ino log good = cleaned_spelled g log ino good

pub may_stand : CleanedMayStand
may_stand g ino log good = cleaned_stands g log ino good

pub maps_alike : CleanedMapsAlike
maps_alike g ino log pages good idx = cleaned_alike g log ino pages good idx

pub keeps_places : CleanedKeepsPlaces
keeps_places g ino log pages good = record {
  size = cleaned_size g log ino pages good;
  blocks = λ idx. alike_blocks (mapping log idx) (mapping (cleaned_log ino log pages) idx) (cleaned_alike g log ino pages good idx);
  names = cleaned_names g log ino;
}

pub keeps_done : CleanedKeepsDone
keeps_done g ino log pages good idx m n was now =
    alike_done (mapping log idx) (mapping (cleaned_log ino log pages) idx) m n (cleaned_alike g log ino pages good idx) was now

pub is_shorter : CleanedIsShorter
is_shorter g ino log paged worth = fewer (cleaned_slots ino log) (count log) (length log.pages) paged.fits worth.two worth.half
  where
    fewer : (l c p : ℕ) → p ≡ (c + 62) / 63 → 2 ≤ p → 2 * ((l + 62) / 63) ≤ p → l < c
    fewer l c p fits two half = omega arith

pub empty_has_no_page : EmptyHasNoPage
unfolding count
empty_has_no_page g ino log pages paged none = by_pages pages (cleaned_slots ino log) paged.fits
    (ap (λ (items : List LogItem). length (spelled items)) none)
  where
    by_pages : (ps : List ℕ) (n : ℕ) → length ps ≡ (n + 62) / 63 → n ≡ 0 → (slice_index ps 0 ≡ 0) × (tail_at ps n ≡ 0)
    by_pages [] n fits e = (refl, ap (tail_at []) e)
    by_pages (p ∷ ps) n fits e = absurd (omega arith)

pub names_take_no_more : NamesTakeNoMore
unfolding cleaned_items count
names_take_no_more log = last_fewer log.items

pub may_replace : CleanedMayReplace
may_replace d ino pages valid in_table live worth paged unused =
    let good : IsLog d.geometry ino (d.inode ino).log = valid.logs ino in_table (subst IsUsed (sym live) tt) in
    record {
      valid = valid;
      in_table = in_table;
      live = live;
      good = record {
        paged = paged;
        spelled = cleaned_spelled d.geometry (d.inode ino).log ino good;
        standing = cleaned_stands d.geometry (d.inode ino).log ino good;
      };
      size = cleaned_size d.geometry (d.inode ino).log ino pages good;
      alike = cleaned_alike d.geometry (d.inode ino).log ino pages good;
      names = cleaned_names d.geometry (d.inode ino).log ino;
      unused = unused;
      left = two_pages_spared d ino (cleaned_log ino (d.inode ino).log pages) valid in_table live unused worth.two;
    }
