-- Flags and masks, each such a change.
use Rattle.std.proofs.Common.{◌≡◌, ◌≢◌, ◌⊎◌, inl, inr, ⊎_elim, ℕ, Bool, true, false, [], ◌∷◌, ◌++◌, refl, sym, ◌∙◌, ap, subst, arith}
use Rattle.std.specs.Prelude.{if◌then◌else◌, ◌==◌, Some, IsBitSet, option_map}
use Rattle.std.proofs.lemmas.Bool.{cases_eq}
use Rattle.std.proofs.lemmas.Bool.Decides.{nat_tests}
use Rattle.log_entry.specs.Spelling.{flag_number}
use Rattle.log_entry.specs.declared.item.Flag.{Flag}
use Rattle.log_entry.specs.declared.item.Flag.TheVariants.{Complete}
use Rattle.log_entry.specs.declared.item.LogItem.{LogItem}
use Rattle.log_entry.specs.declared.item.LogItem.TheVariants.{Write}
use Rattle.dn_model.specs.Log.{Log}
use Rattle.dn_model.specs.Maps.{Mapping, mapping}
use Rattle.dn_model.specs.Disk.{Disk, IsUsed, maps}
use Rattle.dn_model.specs.Own.{Print, IsAlone, HasRow, IsOwn, Settled}
use Rattle.dn_model.specs.Valid.{IsLog}
use Rattle.inode_log.specs.Reflags.{with_flag, with_mask, flag_word, mask_word, Reflags}
use Rattle.inode_log.proofs.Reflagged.{flag_changes, mask_changes, flag_keeps_log, mask_keeps_log}
use Rattle.law_table_on_disk.specs.OneWord.{IsOneWord}
use Rattle.law_log_swap.specs.Relogged.{relogged}
use Rattle.law_log_swap.proofs.Relogged.{maps_before}
use Rattle.law_log_swap.proofs.KeptPlaces.{own_kept, settled_kept}
use Rattle.law_flags.specs.FlagLaws.{MayReflag, MoreBitsKeepAlone, MayFlag, MayMask, flagged, masked, IsDoneAt, KeepsAlone, KeepsPages}
use Rattle.law_flags.proofs.Retagged.{IsRetag, retagged}
use Rattle.law_flags.proofs.Flagged.{may_relog, now_maps, keeps_pages, tells_done, keeps_done, one_word}

itself : (a : ℕ) → (a == a) ≡ true
itself a = grind (arith, nat_tests)

different : (a b : ℕ) → a ≢ b → (a == b) ≡ false
different a b ne = grind (arith, nat_tests)

-- what a mapping by this slot, and one by another, becomes
module _ (slot : ℕ) (m n : Mapping) where
  abbrev chosen : Mapping
  chosen = if m.slot == slot then n else m

  at_slot : m.slot ≡ slot → chosen ≡ n
  at_slot e = ap (λ (b : Bool). if b then n else m) (ap (λ (s : ℕ). s == slot) e ∙ itself slot)

  elsewhere : m.slot ≢ slot → chosen ≡ m
  elsewhere ne = ap (λ (b : Bool). if b then n else m) (different m.slot slot ne)

  chosen_block : n.block ≡ m.block → chosen.block ≡ m.block
  chosen_block e = elim (cases_eq m.slot slot) [
    | inl here ↦ ap (λ (x : Mapping). x.block) (at_slot here) ∙ e
    | inr ne ↦ ap (λ (x : Mapping). x.block) (elsewhere ne)
  ]

abbrev with_this_flag : Flag → Mapping → Mapping
with_this_flag flag m = record { block = m.block; slot = m.slot; bit = m.bit; flag = flag; mask = m.mask }

abbrev with_this_mask : ℕ → Mapping → Mapping
with_this_mask mask m = record { block = m.block; slot = m.slot; bit = m.bit; flag = m.flag; mask = mask }

flag_retag : (flag : Flag) (slot : ℕ) → IsRetag (with_flag flag) slot (flagged slot flag)
flag_retag flag slot = record {
  new_flag = λ was. flag;
  new_mask = λ mask. mask;
  of_write = λ first n block size was mask. refl;
  other = λ m ne. elsewhere slot m (with_this_flag flag m) ne;
  here = λ block bit was mask. let m : Mapping = record { block = block; slot = slot; bit = bit; flag = was; mask = mask } in
      at_slot slot m (with_this_flag flag m) refl;
  block = λ m. chosen_block slot m (with_this_flag flag m) refl;
}

mask_retag : (mask slot : ℕ) → IsRetag (with_mask mask) slot (masked slot mask)
mask_retag mask slot = record {
  new_flag = λ flag. flag;
  new_mask = λ was. mask;
  of_write = λ first n block size flag was. refl;
  other = λ m ne. elsewhere slot m (with_this_mask mask m) ne;
  here = λ block bit flag was. let m : Mapping = record { block = block; slot = slot; bit = bit; flag = flag; mask = was } in
      at_slot slot m (with_this_mask mask m) refl;
  block = λ m. chosen_block slot m (with_this_mask mask m) refl;
}

module _ (d : Disk) (ino : ℕ) (flag : Flag) (slot : ℕ) (log : Log) (may : MayFlag d ino flag slot log) where
  flag_good : IsLog d.geometry ino log
  flag_good = flag_keeps_log d.geometry ino flag slot (d.inode ino).log log may.reflags
      (may.valid.logs ino may.in_table (subst IsUsed (sym may.live) tt))

  abbrev as_flag : Mapping → Mapping
  as_flag = flagged slot flag

  pub flag_one_word : IsOneWord d (relogged d ino log) 0 [] (flag_word slot) (flag_number flag)
  flag_one_word = one_word d ino (with_flag flag) slot log may flag_good as_flag (flag_retag flag slot) 5 (flag_number flag) (omega arith)
      (flag_changes flag may.reflags.item may.reflags.is_write)

  pub flag_own : (print : Print) → (flag ≡ Complete → IsDoneAt d ino slot) → IsOwn print d → IsOwn print (relogged d ino log)
  flag_own print done own = own_kept d ino log (may_relog d ino (with_flag flag) slot log may flag_good as_flag (flag_retag flag slot)) print
      (tells_done d ino (with_flag flag) slot log may flag_good as_flag (flag_retag flag slot) (λ idx n is complete. by_slot idx n is complete
      (cases_eq n.slot slot))) own
    where
      by_slot : (idx : ℕ) (n : Mapping) → maps d ino idx ≡ Some n → (as_flag n).flag ≡ Complete → (n.slot ≡ slot) ⊎ (n.slot ≢ slot)
          → IsAlone (as_flag n) ⊎ HasRow d n.block
      by_slot idx n is complete (inl e) =
          let into = at_slot slot n (with_this_flag flag n) e in
          subst (λ (x : Mapping). IsAlone x ⊎ HasRow d n.block) (sym into) (done (ap (λ (x : Mapping). x.flag) (sym into) ∙ complete) idx n is e)
      by_slot idx n is complete (inr ne) =
          let same = elsewhere slot n (with_this_flag flag n) ne in
          subst (λ (x : Mapping). IsAlone x ⊎ HasRow d n.block) (sym same)
          (own.complete ino idx n (record { in_table = may.in_table; live = may.live; maps = is })
          (ap (λ (x : Mapping). x.flag) (sym same) ∙ complete))

  pub flag_settled : flag ≡ Complete → Settled d → Settled (relogged d ino log)
  flag_settled complete = settled_kept d ino log (may_relog d ino (with_flag flag) slot log may flag_good as_flag (flag_retag flag slot))
      (keeps_done d ino (with_flag flag) slot log may flag_good as_flag (flag_retag flag slot) (λ idx n is. by_slot n (cases_eq n.slot slot)))
    where
      by_slot : (n : Mapping) → (n.slot ≡ slot) ⊎ (n.slot ≢ slot) → (n.flag ≡ Complete → (as_flag n).flag ≡ Complete) × (IsAlone n
          → IsAlone (as_flag n))
      by_slot n (inl e) =
          let into = at_slot slot n (with_this_flag flag n) e in
          ((λ was. ap (λ (x : Mapping). x.flag) into ∙ complete), (λ alone. subst IsAlone (sym into) alone))
      by_slot n (inr ne) =
          let same = elsewhere slot n (with_this_flag flag n) ne in
          ((λ was. ap (λ (x : Mapping). x.flag) same ∙ was), (λ alone. subst IsAlone (sym same) alone))

  pub flag_maps : (idx : ℕ) → maps (relogged d ino log) ino idx ≡ option_map as_flag (maps d ino idx)
  flag_maps = now_maps d ino (with_flag flag) slot log may flag_good as_flag (flag_retag flag slot)

  pub flag_pages : KeepsPages d (relogged d ino log) ino
  flag_pages = keeps_pages d ino (with_flag flag) slot log may flag_good as_flag (flag_retag flag slot)

module _ (d : Disk) (ino mask slot : ℕ) (log : Log) (is : MayMask d ino mask slot log) where
  mask_good : IsLog d.geometry ino log
  mask_good = mask_keeps_log d.geometry ino mask slot (d.inode ino).log log is.may.reflags is.small
      (is.may.valid.logs ino is.may.in_table (subst IsUsed (sym is.may.live) tt))

  abbrev as_mask : Mapping → Mapping
  as_mask = masked slot mask

  pub mask_one_word : IsOneWord d (relogged d ino log) 0 [] (mask_word slot) mask
  mask_one_word = one_word d ino (with_mask mask) slot log is.may mask_good as_mask (mask_retag mask slot) 6 mask (omega arith)
      (mask_changes mask is.may.reflags.item is.may.reflags.is_write)

  pub mask_maps : (idx : ℕ) → maps (relogged d ino log) ino idx ≡ option_map as_mask (maps d ino idx)
  mask_maps = now_maps d ino (with_mask mask) slot log is.may mask_good as_mask (mask_retag mask slot)

  pub mask_pages : KeepsPages d (relogged d ino log) ino
  mask_pages = keeps_pages d ino (with_mask mask) slot log is.may mask_good as_mask (mask_retag mask slot)

  same_flag : (n : Mapping) → (as_mask n).flag ≡ n.flag
  same_flag n = elim (cases_eq n.slot slot) [
    | inl e ↦ ap (λ (x : Mapping). x.flag) (at_slot slot n (with_this_mask mask n) e)
    | inr ne ↦ ap (λ (x : Mapping). x.flag) (elsewhere slot n (with_this_mask mask n) ne)
  ]

  pub mask_own : (print : Print) → KeepsAlone d ino slot mask → IsOwn print d → IsOwn print (relogged d ino log)
  mask_own print keeps own = own_kept d ino log (may_relog d ino (with_mask mask) slot log is.may mask_good as_mask (mask_retag mask slot)) print
      (tells_done d ino (with_mask mask) slot log is.may mask_good as_mask (mask_retag mask slot) (λ idx n maps_to complete.
      ⊎_elim (λ (alone : IsAlone n). inl (keeps idx n maps_to alone)) (λ (row : HasRow d n.block). inr row)
      (own.complete ino idx n (record { in_table = is.may.in_table; live = is.may.live; maps = maps_to }) (sym (same_flag n) ∙ complete)))) own

  pub mask_settled : KeepsAlone d ino slot mask → Settled d → Settled (relogged d ino log)
  mask_settled keeps = settled_kept d ino log (may_relog d ino (with_mask mask) slot log is.may mask_good as_mask (mask_retag mask slot))
      (keeps_done d ino (with_mask mask) slot log is.may mask_good as_mask (mask_retag mask slot)
      (λ idx n maps_to. ((λ was. same_flag n ∙ was), (λ alone. keeps idx n maps_to alone))))

-- what an item maps has its flag and mask: it stays if the item gets those that it has
module _ (d : Disk) (ino : ℕ) (change : LogItem → LogItem) (slot : ℕ) (log : Log) (may : MayReflag d ino change slot log)
    (first n block size : ℕ) (flag : Flag) (mask : ℕ) (item : may.reflags.item ≡ Write first n block size flag mask) where
  was_log : IsLog d.geometry ino (d.inode ino).log
  was_log = may.valid.logs ino may.in_table (subst IsUsed (sym may.live) tt)

  same_reflags : (other : LogItem → LogItem) → other (Write first n block size flag mask) ≡ Write first n block size flag mask
      → Reflags other slot (d.inode ino).log (d.inode ino).log
  same_reflags other same = record {
    front = may.reflags.front;
    item = may.reflags.item;
    rest = may.reflags.rest;
    is_write = may.reflags.is_write;
    slot_is = may.reflags.slot_is;
    pages = refl;
    items = may.reflags.items;
    items' = may.reflags.items ∙ ap (λ (x : LogItem). may.reflags.front ++ x ∷ may.reflags.rest) (item ∙ sym same ∙ ap other (sym item));
  }

  retagged_same : (other : LogItem → LogItem) (r : Mapping → Mapping) → IsRetag other slot r → other (Write first n block size flag mask) ≡ Write
      first n block size flag mask
      → (idx : ℕ) (m : Mapping) → maps d ino idx ≡ Some m → m ≡ r m
  retagged_same other r is same idx m at = one m (r m) (sym before ∙ retagged other slot r is d.geometry (d.inode ino).log (d.inode ino).log
      was_log.paged (same_reflags other same) idx ∙ ap (option_map r) before)
    where
      before : mapping (d.inode ino).log idx ≡ Some m
      before = sym (maps_before d ino log may.live idx) ∙ at

      one : (x y : Mapping) → Some x ≡ Some y → x ≡ y
      one x y e = cc

  pub places_tell : (idx : ℕ) (m : Mapping) → maps d ino idx ≡ Some m → m.slot ≡ slot → (m.flag ≡ flag) × (m.mask ≡ mask)
  places_tell idx m at here = (
    ap (λ (x : Mapping). x.flag) (retagged_same (with_flag flag) (flagged slot flag) (flag_retag flag slot) refl idx m at ∙ at_slot slot m
        (with_this_flag flag m) here),
    ap (λ (x : Mapping). x.mask) (retagged_same (with_mask mask) (masked slot mask) (mask_retag mask slot) refl idx m at ∙ at_slot slot m
        (with_this_mask mask m) here),
  )

pub more_bits : MoreBitsKeepAlone
more_bits d ino mask slot log is first n block size flag was item more idx m at alone = elim (cases_eq m.slot slot) [
  | inl e ↦
      let told = places_tell d ino (with_mask mask) slot log is.may first n block size flag was item idx m at e in
      subst IsAlone (sym (at_slot slot m (with_this_mask mask m) e)) (more m.bit (subst (λ (k : ℕ). IsBitSet k m.bit) told.1 alone))
  | inr ne ↦ subst IsAlone (sym (elsewhere slot m (with_this_mask mask m) ne)) alone
]
