-- A log is replaced by head and tail together.
use Rattle.std.proofs.Common.{
  ◌≡◌,
  ◌≢◌,
  ◌⊎◌,
  inl,
  inr,
  ⊎_elim,
  ℕ,
  zero,
  suc,
  ◌*◌,
  ◌/◌,
  ◌%◌,
  ◌<◌,
  ◌≤◌,
  List,
  [],
  ◌∷◌,
  length,
  refl,
  sym,
  ◌∙◌,
  ap,
  subst,
  arith,
}
use Rattle.std.specs.Prelude.{slice_index, Contains, Option, Some, None}
use Rattle.std.proofs.lemmas.Bool.{cases_eq}
use Rattle.std.proofs.lemmas.List.Elements.{Contains-get_or}
use Rattle.pm_device.specs.State.{State, Agree}
use Rattle.pm_device.specs.Settled.{LeavesOnly, StoresOnly}
use Rattle.pm_device.specs.Reading.{Said, Stands, IsReady}
use Rattle.pm_device.specs.Pages.{IsInPage}
use Rattle.pm_device.proofs.OneWord.{stands-stores}
use Rattle.pm_device.proofs.Layers.{leaves_only-stores, ready-weaken}
use Rattle.pm_layout.specs.declared.Geometry.{Geometry}
use Rattle.pm_layout.specs.Geometry.{InData, inode_word}
use Rattle.log_entry.specs.declared.item.Flag.TheVariants.{Complete}
use Rattle.dn_model.specs.Log.{Log, LogSays, at_tail, at_head, at_footer, at_slot, IsPaged, count, tail_at}
use Rattle.dn_model.specs.Maps.{Mapping, mapping}
use Rattle.dn_model.specs.Rolled.{IsJournaled}
use Rattle.dn_model.specs.Disk.{
  Disk,
  IsUsed,
  DiskSays,
  of_head,
  of_inodes,
  of_logs,
  of_chains,
  of_pointers,
  of_pages,
  at_magic,
  at_version,
  at_pages,
  at_inodes,
  at_gate,
  at_state,
  at_cut,
}
use Rattle.dn_model.specs.Own.{Print, IsAlone, HasRow, IsOwn, Settled}
use Rattle.dn_model.specs.Valid.{IsValid}
use Rattle.dn_model.specs.Image.{StandsFor}
use Rattle.law_write.proofs.Unread.{read_in_data, unused_unsaid}
use Rattle.law_write.proofs.WriteEvent.{length-left, stands_for_read}
use Rattle.name_journal.specs.declared.change.Change.{Change}
use Rattle.name_journal.specs.Changes.{address, AreChanges, IsNamed, NewValues}
use Rattle.name_journal.specs.AllOrNone.{AllOrNone, IsAllDone, DiffersBy}
use Rattle.law_names.specs.AllOrNoneLaws.{FreshWord, AreAllOrNone}
use Rattle.law_names.specs.NameLaws.{StandsStill}
use Rattle.law_names.proofs.Places.{IsHigh, high_not_inode, data_high, chain_high, pointer_high, LogPlace, is_head, is_tail, is_high, log_place}
use Rattle.law_names.proofs.AllWords.{all_or_none_images, all_or_none_stands}
use Rattle.law_log_swap.specs.Relogged.{relogged, block_of, was_log, MayRelog, MovesLog, TellsDone, KeepsDone}
use Rattle.law_log_swap.specs.Replaced.{AreAlike, IsAlike, MayReplace, TwoPagesAreSpared, log_changes, BodySays, body_footer, body_slot, SwapsLog}
use Rattle.law_log_swap.proofs.Relogged.{log_here, same_geometry, above, maps_before, relogged_valid, relogged_says}
use Rattle.law_log_swap.proofs.KeptPlaces.{is_relog, moves_log, own_kept, settled_kept}

-- two pages of a log are left
pub two_pages_spared : TwoPagesAreSpared
two_pages_spared d ino log valid in_table live unused two = (
  slice_index pages 0,
  slice_index pages 1,
  apart,
  was_log (listed 0 (omega (arith, two))) (untaken 0 (omega (arith, two))),
  was_log (listed 1 (omega (arith, two))) (untaken 1 (omega (arith, two))),
)
  where
    pages : List ℕ
    pages = (d.inode ino).log.pages

    used : IsUsed (d.inode ino).use_of
    used = subst IsUsed (sym live) tt

    apart : slice_index (d.inode ino).log.pages 0 ≢ slice_index (d.inode ino).log.pages 1
    apart e = let same : 0 ≡ 1 = (valid.logs ino in_table used).paged.apart 0 1 (omega (arith, two)) (omega (arith, two)) e in omega (arith, same)

    listed : (k : ℕ) → k < length (d.inode ino).log.pages → Contains (d.inode ino).log.pages (slice_index (d.inode ino).log.pages k)
    listed k lt = Contains-get_or (d.inode ino).log.pages k 0 lt

    untaken : (k : ℕ) → k < length (d.inode ino).log.pages → Contains log.pages (slice_index (d.inode ino).log.pages k) → ⊥
    untaken k lt here = (unused (slice_index (d.inode ino).log.pages k) here).free.in_no_log
        (record { ino = ino; in_table = in_table; used = used; listed = listed k lt })

alike_blocks : (m n : Option Mapping) → AreAlike m n → block_of n ≡ block_of m
alike_blocks None None same = refl
alike_blocks None (Some n) same = absurd same
alike_blocks (Some m) None same = absurd same
alike_blocks (Some m) (Some n) same = ap Some same.block

alike_some : (m n : Option Mapping) (x : Mapping) → AreAlike m n → n ≡ Some x → (y : Mapping) × (m ≡ Some y) × IsAlike y x
alike_some None None x same e = cc
alike_some None (Some n) x same e = absurd same
alike_some (Some m) None x same e = cc
alike_some (Some m) (Some n) x same e = let is : n ≡ x = cc in (m, refl, subst (IsAlike m) is same)

-- what is said of a head or a tail is said by that inode's log
module _ (d : Disk) (valid : IsValid d) (ino field a v : ℕ) (in_table : ino < d.geometry.inodes) (low : 1 ≤ field) (high : field ≤ 2)
    (place : a ≡ inode_word ino field) where
  not_high : IsHigh d.geometry a → ⊥
  not_high far = high_not_inode d.geometry a ino field far in_table (omega arith) place

  same_inode : (i : ℕ) → LogPlace d.geometry i a → i ≡ ino
  same_inode i (is_head e) = omega arith
  same_inode i (is_tail e) = omega arith
  same_inode i (is_high far) = absurd (not_high far)

  pub said_by_log : DiskSays d a v → LogSays ino (d.inode ino).log a v
  said_by_log (of_head (at_magic at value)) = absurd (omega arith)
  said_by_log (of_head (at_version at value)) = absurd (omega arith)
  said_by_log (of_head (at_pages at value)) = absurd (omega arith)
  said_by_log (of_head (at_inodes at value)) = absurd (omega arith)
  said_by_log (of_head (at_gate at value)) = absurd (omega arith)
  said_by_log (of_inodes (at_state i lt at value)) = absurd (omega arith)
  said_by_log (of_inodes (at_cut i c lt dying at value)) = absurd (omega arith)
  said_by_log (of_logs told) = subst (λ (i : ℕ). LogSays i (d.inode i).log a v)
      (same_inode told.ino (log_place d.geometry told.ino (d.inode told.ino).log a v (valid.logs told.ino told.in_table told.used).paged told.says))
      told.says
  said_by_log (of_chains told) = absurd (not_high (chain_high d.geometry told.prefix (d.chain told.prefix) a v told.says))
  said_by_log (of_pointers told) = absurd (not_high (pointer_high d.geometry told.page a told.place))
  said_by_log (of_pages told) = absurd (not_high (data_high d.geometry told.page told.k a (read_in_data d valid told.page told.read) told.place))

-- the parts of what a log says
pub data LogPart (ino : ℕ) (log : Log) (a v : ℕ) : Type 0 where
  its_head : a ≡ inode_word ino 1 → v ≡ slice_index log.pages 0 → LogPart ino log a v
  its_tail : a ≡ inode_word ino 2 → v ≡ tail_at log.pages (count log) → LogPart ino log a v
  its_body : BodySays log a v → LogPart ino log a v

log_part : (ino : ℕ) (log : Log) (a v : ℕ) → LogSays ino log a v → LogPart ino log a v
log_part ino log a v (at_tail place value) = its_tail place value
log_part ino log a v (at_head some place value) = its_head place value
log_part ino log a v (at_footer k lt place value) = its_body (body_footer k lt place value)
log_part ino log a v (at_slot k j lt word place value) = its_body (body_slot k j lt word place value)

-- a word of the body lies in a page of the log
body_page : (g : Geometry) (log : Log) (a v : ℕ) → IsPaged g log → BodySays log a v → (page : ℕ) × Contains log.pages page × IsInPage page a
body_page g log a v paged (body_footer k lt place value) = (
  slice_index log.pages k,
  Contains-get_or log.pages k 0 (omega arith),
  (omega (arith, place), omega (arith, place)),
)
body_page g log a v paged (body_slot k j lt word place value) = (
  slice_index log.pages (k / 63),
  Contains-get_or log.pages (k / 63) 0 (omega (arith, lt, paged.fits)),
  (omega (arith, place), omega (arith, place, word)),
)

-- two words of one inode
module _ (inodes ino head tail : ℕ) (in_table : ino < inodes) where
  abbrev both : List Change
  both = record { at = inode_word ino 1; value = head } ∷ record { at = inode_word ino 2; value = tail } ∷ []

  pub two_changes : AreChanges inodes both
  two_changes = record { journaled = journaled; apart = apart }
    where
      journaled : (i : ℕ) → i < 2 → IsJournaled inodes (address both i)
      journaled zero lt = record { ino = ino; field = 1; in_table = in_table; first_three = omega arith; is = refl }
      journaled (suc zero) lt = record { ino = ino; field = 2; in_table = in_table; first_three = omega arith; is = refl }
      journaled (suc (suc i)) lt = absurd (omega (arith, lt))

      apart : (i j : ℕ) → i < 2 → j < 2 → address both i ≡ address both j → i ≡ j
      apart zero zero il jl e = refl
      apart zero (suc zero) il jl e = absurd (omega (arith, e))
      apart (suc zero) zero il jl e = absurd (omega (arith, e))
      apart (suc zero) (suc zero) il jl e = refl
      apart (suc (suc i)) j il jl e = absurd (omega (arith, il))
      apart zero (suc (suc j)) il jl e = absurd (omega (arith, jl))
      apart (suc zero) (suc (suc j)) il jl e = absurd (omega (arith, jl))

  pub not_two : (a : ℕ) → a ≢ inode_word ino 1 → a ≢ inode_word ino 2 → IsNamed both a → ⊥
  not_two a ne ne' named = by_index named.i named.lt named.is
    where
      by_index : (i : ℕ) → i < 2 → a ≡ address both i → ⊥
      by_index zero lt e = ne e
      by_index (suc zero) lt e = ne' e
      by_index (suc (suc i)) lt e = omega (arith, lt)

module _ (d : Disk) (ino : ℕ) (log : Log) (may : MayReplace d ino log) where
  abbrev new : Disk
  new = relogged d ino log

  abbrev changes : List Change
  changes = log_changes ino log

  pub may_relog : MayRelog d ino log
  may_relog = record {
    valid = may.valid;
    in_table = may.in_table;
    live = may.live;
    good = may.good;
    keeps = record {
      size = may.size;
      blocks = λ idx. alike_blocks (mapping (d.inode ino).log idx) (mapping log idx) (may.alike idx);
      names = may.names;
    };
    pages = λ page listed. inr (may.unused page listed);
    left = may.left;
  }

  new_valid : IsValid new
  new_valid = relogged_valid d ino log (is_relog d ino log may_relog)

  pub body_unsaid : (a v w : ℕ) → BodySays log a v → DiskSays d a w → ⊥
  body_unsaid a v w told says =
      let at = body_page d.geometry log a v may.good.paged told in
      unused_unsaid d may.valid at.0 (may.unused at.0 at.1) a w at.2 says

  -- a word of the body isn't head or tail
  body_high : (a v : ℕ) → BodySays log a v → IsHigh d.geometry a
  body_high a v told =
      let at = body_page d.geometry log a v may.good.paged told in
      high_in (may.unused at.0 at.1).free.data_page at.2
    where
      high_in : {page : ℕ} → InData d.geometry page → IsInPage page a → IsHigh d.geometry a
      high_in {page} in_data here = data_high d.geometry page (a % 512) a in_data (omega (arith, here.0, here.1))

  not_named : (a : ℕ) → a ≢ inode_word ino 1 → a ≢ inode_word ino 2 → IsNamed changes a → ⊥
  not_named = not_two d.geometry.inodes ino (slice_index log.pages 0) (tail_at log.pages (count log)) may.in_table

  now_said : (field a v : ℕ) → 1 ≤ field → field ≤ 2 → a ≡ inode_word ino field → DiskSays new a v → LogSays ino log a v
  now_said field a v low high place says = subst (λ (l : Log). LogSays ino l a v) (log_here d ino log)
      (said_by_log new new_valid ino field a v (above d ino log ino may.in_table) low high place says)

  abbrev Parts : ℕ → ℕ → Type 0
  Parts a v = NewValues changes 2 a v ⊎ ((IsNamed changes a → ⊥) × (DiskSays d a v ⊎ FreshWord d new changes a v))

  -- of a word that is head or tail the log speaks
  by_part : (a v : ℕ) → (a ≡ inode_word ino 1) ⊎ (a ≡ inode_word ino 2) → LogPart ino log a v → Parts a v
  by_part a v word (its_head place value) = inl (record { i = 0; lt = omega arith; place = place; value = value })
  by_part a v word (its_tail place value) = inl (record { i = 1; lt = omega arith; place = place; value = value })
  by_part a v word (its_body told) = absurd (⊎_elim
      (λ (e : a ≡ inode_word ino 1). high_not_inode d.geometry a ino 1 (body_high a v told) may.in_table (omega arith) e)
      (λ (e : a ≡ inode_word ino 2). high_not_inode d.geometry a ino 2 (body_high a v told) may.in_table (omega arith) e) word)

  -- another word
  other_part : (a v : ℕ) → DiskSays new a v → a ≢ inode_word ino 1 → a ≢ inode_word ino 2 → LogPart ino log a v → Parts a v
  other_part a v says no_head no_tail (its_head place value) = absurd (no_head place)
  other_part a v says no_head no_tail (its_tail place value) = absurd (no_tail place)
  other_part a v says no_head no_tail (its_body told) =
      inr (
        not_named a no_head no_tail,
        inr (record {
          read = says;
          unnamed = not_named a no_head no_tail;
          unread = λ said. body_unsaid a v said.value
              told said.told;
        }),
      )

  replaced_differs : DiffersBy changes (DiskSays d) (DiskSays new) (FreshWord d new changes)
  replaced_differs a v says = elim (cases_eq a (inode_word ino 1)) [
    | inl e ↦ by_part a v (inl e) (log_part ino log a v (now_said 1 a v (omega arith) (omega arith) e says))
    | inr no_head ↦ elim (cases_eq a (inode_word ino 2)) [
      | inl e ↦ by_part a v (inr e) (log_part ino log a v (now_said 2 a v (omega arith) (omega arith) e says))
      | inr no_tail ↦ ⊎_elim
          (λ (was : DiskSays d a v). inr (not_named a no_head no_tail, inl was))
          (λ (told : LogSays ino log a v). other_part a v says no_head no_tail (log_part ino log a v told))
          (relogged_says d ino log (is_relog d ino log may_relog) a v says)
    ]
  ]

  pub replaced_all_or_none : AreAllOrNone d new changes
  replaced_all_or_none = record {
    geometry = same_geometry d ino log;
    old_valid = may.valid;
    new_valid = new_valid;
    some = omega arith;
    few = omega arith;
    journaled = two_changes d.geometry.inodes ino (slice_index log.pages 0) (tail_at log.pages (count log)) may.in_table;
    differs = replaced_differs;
  }

  -- the fresh words are the body's
  of_body : (a v : ℕ) → FreshWord d new changes a v → LogPart ino log a v → BodySays log a v
  of_body a v word (its_head place value) = absurd (word.unnamed (record { i = 0; lt = omega arith; is = place }))
  of_body a v word (its_tail place value) = absurd (word.unnamed (record { i = 1; lt = omega arith; is = place }))
  of_body a v word (its_body told) = told

  fresh_is : (a v : ℕ) → FreshWord d new changes a v → BodySays log a v
  fresh_is a v word = ⊎_elim
      (λ (was : DiskSays d a v). absurd (word.unread (record { value = v; told = was })))
      (λ (told : LogSays ino log a v). of_body a v word (log_part ino log a v told)) (relogged_says d ino log (is_relog d ino log may_relog) a v
      word.read)

  pub body_suffices : (who : ℕ) (s : State) → IsReady who (BodySays log) s → IsReady who (FreshWord d new changes) s
  body_suffices who s = ready-weaken who s (BodySays log) (FreshWord d new changes) fresh_is

  pub body_stores : (s t : State) → StoresOnly (Said (BodySays log)) s t → Stands (DiskSays d) s → Agree t.now t.past
      → length t.now ≡ 512 * d.geometry.pages → StandsStill d s t
  body_stores s t only stands agree size = record {
    stands = stands-stores (Said (BodySays log)) s t only (DiskSays d) apart stands;
    images =
        let reads = leaves_only-stores (Said (BodySays log)) s t (DiskSays d) only apart stands in
        record {
          extends = reads.extends;
          each = λ m c late left. stands_for_read d c may.valid (reads.each m c late left)
              (length-left t.past t.now m c agree left ∙ size);
        };
  }
    where
      apart : (a v : ℕ) → DiskSays d a v → Said (BodySays log) a → ⊥
      apart a v says told = body_unsaid a told.value v told.told says

  pub replaced_images : (who : ℕ) (s t : State) → Agree s.now s.past → length s.now ≡ 512 * d.geometry.pages → Stands (DiskSays d) s
      → IsReady who (BodySays log) s
      → LeavesOnly s t (AllOrNone d.geometry.inodes who changes s) → LeavesOnly s t (λ c. StandsFor c d ⊎ StandsFor c new)
  replaced_images who s t agree size stands ready = all_or_none_images d new changes replaced_all_or_none who s t agree size stands
      (body_suffices who s ready)

  pub replaced_stands : (who : ℕ) (s t : State) → Agree s.now s.past → length s.now ≡ 512 * d.geometry.pages → Stands (DiskSays d) s
      → IsReady who (BodySays log) s
      → IsAllDone who changes s t → Stands (DiskSays new) t
  replaced_stands who s t agree size stands ready = all_or_none_stands d new changes replaced_all_or_none who s t agree size stands
      (body_suffices who s ready)

  pub swaps_log : SwapsLog d new ino log
  swaps_log = record {
    were_free = λ page listed. (may.unused page listed).free;
    taken = moves.taken;
    freed = λ page listed. moves.freed page listed (λ here. (may.unused page here).free.in_no_log
        (record { ino = ino; in_table = may.in_table; used = subst IsUsed (sym may.live) tt; listed = listed }));
    kept = moves.free_kept;
    only = moves.free_only;
  }
    where
      moves : MovesLog d new ino log
      moves = moves_log d ino log may_relog

  tells_done : ((idx : ℕ) (m : Mapping) → mapping (d.inode ino).log idx ≡ Some m → m.flag ≡ Complete → IsAlone m ⊎ HasRow d m.block) → TellsDone d log
  tells_done own idx m is done =
      let was = alike_some (mapping (d.inode ino).log idx) (mapping log idx) m (may.alike idx) is in
      ⊎_elim (λ (alone : IsAlone was.0). inl (was.2.alone alone)) (λ (row : HasRow d was.0.block). inr (subst (HasRow d) (sym was.2.block) row))
      (own idx was.0 was.1 (sym was.2.flag ∙ done))

  pub replaced_own : (print : Print) → IsOwn print d → IsOwn print new
  replaced_own print own = own_kept d ino log may_relog print
      (tells_done (λ idx m is. own.complete ino idx m (record {
        in_table = may.in_table;
        live = may.live;
        maps = maps_before d ino log may.live
            idx ∙ is;
      }))) own

  keeps_done : KeepsDone (d.inode ino).log log
  keeps_done idx m n was now =
      let by = alike_some (mapping (d.inode ino).log idx) (mapping log idx) n (may.alike idx) now in
      let same : by.0 ≡ m = one by.0 m (sym by.1 ∙ was) in
      ((λ e. by.2.flag ∙ ap (λ (x : Mapping). x.flag) same ∙ e), (λ alone. by.2.alone (subst IsAlone (sym same) alone)))
    where
      one : (x y : Mapping) → Some x ≡ Some y → x ≡ y
      one x y e = cc

  pub replaced_settled : Settled d → Settled new
  replaced_settled = settled_kept d ino log may_relog keeps_done
