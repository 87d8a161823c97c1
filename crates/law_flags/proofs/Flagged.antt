-- A disk on which a Write has another flag or mask: one word decides, and what it means.
use Rattle.std.proofs.Common.{◌≡◌, ◌≢◌, ◌⊎◌, inl, inr, ⊎_elim, ℕ, ◌+◌, ◌*◌, ◌/◌, ◌<◌, List, [], length, refl, sym, ◌∙◌, ap, subst, arith}
use Rattle.std.specs.Prelude.{slice_index, Contains, Option, Some, None, option_map}
use Rattle.std.proofs.lemmas.Bool.{cases_eq}
use Rattle.std.proofs.lemmas.List.Elements.{Contains-get_or}
use Rattle.pm_device.specs.Reading.{DiffersAt}
use Rattle.pm_device.specs.Pages.{IsInPage, SaysRun}
use Rattle.pm_layout.specs.Geometry.{InData}
use Rattle.log_entry.specs.Spelling.{spelled}
use Rattle.log_entry.specs.declared.item.Flag.TheVariants.{Complete}
use Rattle.log_entry.specs.declared.item.LogItem.{LogItem}
use Rattle.dn_model.specs.Log.{Log, LogSays, at_slot, count, log_word, spelled_word}
use Rattle.dn_model.specs.Maps.{Mapping, mapping}
use Rattle.dn_model.specs.Disk.{Disk, IsUsed, maps, DiskSays, of_logs}
use Rattle.dn_model.specs.Counts.{IsLogPage, IsFree}
use Rattle.dn_model.specs.Own.{IsAlone, HasRow}
use Rattle.dn_model.specs.Valid.{IsLog, IsValid}
use Rattle.dn_model.proofs.Append.{log_word_in_data}
use Rattle.law_write.proofs.Unread.{log_page_said}
use Rattle.inode_log.proofs.Reflagged.{IsWordChange, place_within, reflagged_differs}
use Rattle.law_table_on_disk.specs.OneWord.{IsOneWord}
use Rattle.law_log_swap.specs.Relogged.{relogged, was_free, MayRelog, MovesLog, TellsDone, KeepsDone}
use Rattle.law_log_swap.proofs.Relogged.{log_here, use_same, at_other, same_geometry, above, maps_here, maps_before, relogged_valid, relogged_says}
use Rattle.law_log_swap.proofs.KeptPlaces.{is_relog, keeps_data, moves_log}
use Rattle.law_flags.specs.FlagLaws.{MayReflag, KeepsPages}
use Rattle.law_flags.proofs.Retagged.{IsRetag, retagged, keeps_places}

-- a mapped option is some only of some
map_some : (r : Mapping → Mapping) (o : Option Mapping) (m : Mapping) → option_map r o ≡ Some m → (n : Mapping) × (o ≡ Some n) × (m ≡ r n)
map_some r None m e = cc
map_some r (Some n) m e = let same : r n ≡ m = cc in (n, refl, sym same)

module _ (d : Disk) (ino : ℕ) (change : LogItem → LogItem) (slot : ℕ) (log : Log) (may : MayReflag d ino change slot log)
    (good : IsLog d.geometry ino log) (r : Mapping → Mapping) (is : IsRetag change slot r) where
  abbrev new : Disk
  new = relogged d ino log

  was_used : IsUsed (d.inode ino).use_of
  was_used = subst IsUsed (sym may.live) tt

  log_before : IsLog d.geometry ino (d.inode ino).log
  log_before = may.valid.logs ino may.in_table was_used

  listed_before : (page : ℕ) → Contains log.pages page → Contains (d.inode ino).log.pages page
  listed_before page = subst (λ (ps : List ℕ). Contains ps page) may.reflags.pages

  was_log_page : (page : ℕ) → Contains log.pages page → IsLogPage d page
  was_log_page page listed = record { ino = ino; in_table = may.in_table; used = was_used; listed = listed_before page listed }

  pub may_relog : MayRelog d ino log
  may_relog = record {
    valid = may.valid;
    in_table = may.in_table;
    live = may.live;
    good = good;
    keeps = keeps_places change slot r is d.geometry (d.inode ino).log log log_before.paged may.reflags ino;
    pages = λ page listed. inl (listed_before page listed);
    left = let two = may.valid.roomy in (
      two.0,
      two.1,
      two.2,
      was_free two.3 (λ listed. two.3.in_no_log (was_log_page two.0 listed)),
      was_free two.4 (λ listed. two.4.in_no_log (was_log_page two.1 listed)),
    );
  }

  -- what the place maps
  pub now_maps : (idx : ℕ) → maps new ino idx ≡ option_map r (maps d ino idx)
  now_maps idx = maps_here d ino log may.live idx ∙ retagged change slot r is d.geometry (d.inode ino).log log log_before.paged may.reflags idx ∙ ap
      (option_map r) (sym (maps_before d ino log may.live idx))

  log_page_kept : (page : ℕ) → IsLogPage d page → IsLogPage new page
  log_page_kept page p = elim (cases_eq p.ino ino) [
    | inl e ↦ record {
      ino = ino;
      in_table = above d ino log ino may.in_table;
      used = subst IsUsed (sym (use_same d ino log ino)) was_used;
      listed = subst (λ (l : Log). Contains l.pages page) (sym (log_here d ino log))
          (subst (λ (ps : List ℕ). Contains ps page) (sym may.reflags.pages) (subst (λ (i : ℕ). Contains (d.inode i).log.pages page) e p.listed));
    }
    | inr ne ↦ record {
      ino = p.ino;
      in_table = above d ino log p.ino p.in_table;
      used = subst IsUsed (sym (use_same d ino log p.ino)) p.used;
      listed = subst (λ n. Contains n.log.pages page) (sym (at_other d ino log p.ino ne)) p.listed;
    }
  ]

  pub keeps_pages : KeepsPages d new ino
  keeps_pages = record {
    places = keeps_data d ino log may_relog;
    log_pages = record {
      kept = log_page_kept;
      only = λ page p. ⊎_elim (λ (was : IsLogPage d page). was) (λ (listed : Contains log.pages page). was_log_page page listed)
          (moves.log_pages_only page p);
    };
    free = record {
      kept = λ page free. moves.free_kept page free (λ listed. free.in_no_log (was_log_page page listed));
      only = λ page free. ⊎_elim (λ (was : IsFree d page). was)
          (λ (listed : Contains (d.inode ino).log.pages page). absurd
          (free.in_no_log (log_page_kept page (record { ino = ino; in_table = may.in_table; used = was_used; listed = listed }))))
          (moves.free_only page free);
    };
  }
    where
      moves : MovesLog d new ino log
      moves = moves_log d ino log may_relog

  -- a mapping of the new log was one of the old
  was_mapping : (idx : ℕ) (m : Mapping) → mapping log idx ≡ Some m → (n : Mapping) × (maps d ino idx ≡ Some n) × (m ≡ r n)
  was_mapping idx m e = map_some r (maps d ino idx) m (sym (now_maps idx) ∙ maps_here d ino log may.live idx ∙ e)

  pub tells_done : ((idx : ℕ) (n : Mapping) → maps d ino idx ≡ Some n → (r n).flag ≡ Complete → IsAlone (r n) ⊎ HasRow d n.block) → TellsDone d log
  tells_done each idx m e done =
      let was = was_mapping idx m e in
      ⊎_elim (λ (alone : IsAlone (r was.0)). inl (subst IsAlone (sym was.2) alone))
      (λ (row : HasRow d was.0.block). inr (subst (HasRow d) (sym (ap (λ (x : Mapping). x.block) was.2 ∙ is.block was.0)) row))
      (each idx was.0 was.1 (ap (λ (x : Mapping). x.flag) (sym was.2) ∙ done))

  pub keeps_done : ((idx : ℕ) (n : Mapping) → maps d ino idx ≡ Some n → (n.flag ≡ Complete → (r n).flag ≡ Complete) × (IsAlone n → IsAlone (r n)))
      → KeepsDone (d.inode ino).log log
  keeps_done each idx m n was now =
      let by = was_mapping idx n now in
      let same : by.0 ≡ m = one by.0 m (sym by.1 ∙ maps_before d ino log may.live idx ∙ was) in
      let both = each idx m (maps_before d ino log may.live idx ∙ was) in
      let into : n ≡ r m = by.2 ∙ ap r same in
      ((λ e. ap (λ (x : Mapping). x.flag) into ∙ both.0 e), (λ alone. subst IsAlone (sym into) (both.1 alone)))
    where
      one : (x y : Mapping) → Some x ≡ Some y → x ≡ y
      one x y e = cc

  -- the word
  module _ (j value : ℕ) (small : j < 8) (changes : IsWordChange change j value may.reflags.item) where
    abbrev at : ℕ
    at = 8 * slot + j

    abbrev here : ℕ
    here = length (spelled may.reflags.front)

    within : here < count (d.inode ino).log
    within = place_within change j value slot (d.inode ino).log log may.reflags changes

    at_is : at ≡ log_word (d.inode ino).log.pages here j
    at_is = omega (arith, may.reflags.slot_is)

    abbrev page : ℕ
    page = slice_index (d.inode ino).log.pages (here / 63)

    in_data : InData d.geometry page
    in_data = log_word_in_data d.geometry (d.inode ino).log here log_before.paged within

    in_page : IsInPage page at
    in_page = (omega (arith, at_is), omega (arith, at_is))

    listed : Contains (d.inode ino).log.pages page
    listed = Contains-get_or (d.inode ino).log.pages (here / 63) 0 (omega (arith, within, log_before.paged.fits))

    differs_log : DiffersAt (LogSays ino (d.inode ino).log) (LogSays ino log) (λ a v. ⊥) at value
    differs_log = reflagged_differs change j value slot (d.inode ino).log log may.reflags changes d.geometry ino log_before.paged may.in_table small

    of_log : (a v : ℕ) → LogSays ino (d.inode ino).log a v → DiskSays d a v
    of_log a v says = of_logs (record { ino = ino; in_table = may.in_table; used = was_used; says = says })

    differs_here : (a v : ℕ) → a ≡ at → LogSays ino log a v → v ≡ value
    differs_here a v e says = ⊎_elim
        (λ (new_one : (a ≡ at) × (v ≡ value)). new_one.1)
        (λ (other : (a ≢ at) × (LogSays ino (d.inode ino).log a v ⊎ ⊥)). absurd (other.0 e)) (differs_log a v says)

    differs_there : (a v : ℕ) → a ≢ at → LogSays ino log a v → DiskSays d a v
    differs_there a v ne says = ⊎_elim
        (λ (new_one : (a ≡ at) × (v ≡ value)). absurd (ne new_one.0))
        (λ (other : (a ≢ at) × (LogSays ino (d.inode ino).log a v ⊎ ⊥)). ⊎_elim (λ (was : LogSays ino (d.inode ino).log a v). of_log a v was)
        (λ none. absurd none) other.1)
        (differs_log a v says)

    new_valid : IsValid new
    new_valid = relogged_valid d ino log (is_relog d ino log may_relog)

    now_said : (a v : ℕ) → a ≡ at → DiskSays new a v → LogSays ino log a v
    now_said a v e says = subst (λ (l : Log). LogSays ino l a v) (log_here d ino log)
        (log_page_said new new_valid ino page a v (above d ino log ino may.in_table) (subst IsUsed (sym (use_same d ino log ino)) was_used)
        (subst (λ (l : Log). Contains l.pages page) (sym (log_here d ino log)) (subst (λ (ps : List ℕ). Contains ps page) (sym may.reflags.pages)
        listed))
        (subst (IsInPage page) (sym e) in_page) says)

    retag_differs : DiffersAt (DiskSays d) (DiskSays new) (SaysRun 0 []) at value
    retag_differs a v says = elim (cases_eq a at) [
      | inl e ↦ inl (e, differs_here a v e (now_said a v e says))
      | inr ne ↦ inr (
        ne,
        inl (⊎_elim (λ (was : DiskSays d a v). was) (λ (told : LogSays ino log a v). differs_there a v ne told)
            (relogged_says d ino log (is_relog d ino log may_relog) a v says)),
      )
    ]

    pub one_word : IsOneWord d new 0 [] at value
    one_word = record {
      geometry = same_geometry d ino log;
      old_valid = may.valid;
      new_valid = new_valid;
      inside = omega (arith, in_page.1, in_data.high);
      said = record {
        value = spelled_word (d.inode ino).log here j;
        told = of_log at (spelled_word (d.inode ino).log here j)
            (at_slot here j within small at_is refl);
      };
      differs = retag_differs;
    }
