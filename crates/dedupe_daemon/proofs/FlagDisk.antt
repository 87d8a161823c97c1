-- A Write of a live file's log is flagged anew: what is so of the disk afterwards, and of what is kept in memory.
use Rattle.std.proofs.Common.{◌≡◌, ◌≢◌, ⊎_elim, ℕ, ◌+◌, ◌*◌, ◌/◌, ◌^◌, ◌<◌, ◌≤◌, Bool, true, false, refl, sym, ◌∙◌, ap, subst, arith}
use Rattle.std.specs.Prelude.{Contains, IsBitSet, slice_index, ◌==◌, if◌then◌else◌}
use Rattle.std.proofs.lemmas.Bool.Decides.{nat_tests}
use Rattle.std.proofs.lemmas.List.Elements.{Contains-get_or}
use Rattle.pm_device.specs.Pages.{IsInPage}
use Rattle.file_content.specs.Content.{kept}
use Rattle.log_entry.specs.Spelling.{flag_number}
use Rattle.log_entry.specs.declared.item.Flag.{Flag}
use Rattle.inode_log.specs.Reflags.{with_flag, with_mask, flag_word, mask_word}
use Rattle.dn_model.specs.Log.{Log}
use Rattle.dn_model.specs.Maps.{Mapping}
use Rattle.dn_model.specs.Disk.{Disk}
use Rattle.dn_model.specs.Own.{IsAlone, LivePlace}
use Rattle.dn_model.specs.Valid.{IsValid}
use Rattle.law_log_swap.specs.Relogged.{relogged}
use Rattle.law_flags.specs.FlagLaws.{MayFlag, MayMask, flagged, masked}
use Rattle.law_flags.proofs.Tags.{flag_one_word, flag_maps, flag_pages, mask_one_word, mask_maps, mask_pages}
use Rattle.dn_volume.specs.Accounts.{WasAloneOn}
use Rattle.dn_volume.proofs.Owned.{regions}
use Rattle.dedupe_daemon.proofs.ItemAt.{HasWrite, slots_before, within, good, slot_at, slot_in_data, changed, reflags}
use Rattle.dedupe_daemon.proofs.RelogDisk.{IsRetagged, place_was, bytes_still}

test_same : (a b : ℕ) → a ≡ b → (a == b) ≡ true
test_same a b e = grind (arith, nat_tests)

test_other : (a b : ℕ) → a ≢ b → (a == b) ≡ false
test_other a b ne = grind (arith, nat_tests)

abbrev with_this_flag : Flag → Mapping → Mapping
with_this_flag flag m = record { block = m.block; slot = m.slot; bit = m.bit; flag = flag; mask = m.mask }

abbrev with_this_mask : ℕ → Mapping → Mapping
with_this_mask mask m = record { block = m.block; slot = m.slot; bit = m.bit; flag = m.flag; mask = mask }

-- what a flag leaves of a mapping
abbrev FlagLeaves : Mapping → Mapping → Type 0
FlagLeaves n m = (kept n ≡ kept m) × (n.mask ≡ m.mask) × (n.slot ≡ m.slot)

pub flag_bits : (slot : ℕ) (flag : Flag) (m : Mapping) → (kept (flagged slot flag m) ≡ kept m) × ((flagged slot flag m).mask ≡ m.mask) ×
    ((flagged slot flag m).slot ≡ m.slot)
flag_bits slot flag m = elim (m.slot == slot) as (λ (t : Bool). FlagLeaves (if t then with_this_flag flag m else m) m)
    [ true ↦ (refl, refl, refl) | false ↦ (refl, refl, refl) ]

pub flag_here : (slot : ℕ) (flag : Flag) (m : Mapping) → m.slot ≡ slot → (flagged slot flag m).flag ≡ flag
flag_here slot flag m e = ap (λ (t : Bool). (if t then with_this_flag flag m else m).flag) (test_same m.slot slot e)

pub flag_there : (slot : ℕ) (flag : Flag) (m : Mapping) → m.slot ≢ slot → flagged slot flag m ≡ m
flag_there slot flag m ne = ap (λ (t : Bool). if t then with_this_flag flag m else m) (test_other m.slot slot ne)

-- and a mask
abbrev MaskLeaves : Mapping → Mapping → Type 0
MaskLeaves n m = (kept n ≡ kept m) × (n.flag ≡ m.flag) × (n.slot ≡ m.slot)

pub mask_bits : (slot mask : ℕ) (m : Mapping) → (kept (masked slot mask m) ≡ kept m) × ((masked slot mask m).flag ≡ m.flag) ×
    ((masked slot mask m).slot ≡ m.slot)
mask_bits slot mask m = elim (m.slot == slot) as (λ (t : Bool). MaskLeaves (if t then with_this_mask mask m else m) m)
    [ true ↦ (refl, refl, refl) | false ↦ (refl, refl, refl) ]

pub mask_here : (slot mask : ℕ) (m : Mapping) → m.slot ≡ slot → (masked slot mask m).mask ≡ mask
mask_here slot mask m e = ap (λ (t : Bool). (if t then with_this_mask mask m else m).mask) (test_same m.slot slot e)

pub mask_there : (slot mask : ℕ) (m : Mapping) → m.slot ≢ slot → masked slot mask m ≡ m
mask_there slot mask m ne = ap (λ (t : Bool). if t then with_this_mask mask m else m) (test_other m.slot slot ne)

module _ (d : Disk) (valid : IsValid d) (ino slot first n block size : ℕ) (flag : Flag) (mask : ℕ)
    (has : HasWrite d ino slot first n block size flag mask) where
  -- the words of its slot
  abbrev page : ℕ
  page = slice_index (d.inode ino).log.pages (slots_before d valid ino slot first n block size flag mask has / 63)

  pub log_page : Contains (d.inode ino).log.pages page
  log_page = Contains-get_or (d.inode ino).log.pages _ 0
      (omega (arith, within d valid ino slot first n block size flag mask has, (good d valid ino slot first n block size flag mask has).paged.fits))

  pub word_in_page : (j : ℕ) → j < 8 → IsInPage page (8 * slot + j)
  word_in_page j small =
      let is = slot_at d valid ino slot first n block size flag mask has in
      (omega (arith, is), omega (arith, is, small))

  pub word_high : (j : ℕ) → 4 ≤ 8 * slot + j
  word_high j =
      let inside = slot_in_data d valid ino slot first n block size flag mask has in
      let low = regions d.geometry valid.accepted in omega (arith, inside.low, low.0)

  abbrev pub flag_log : Flag → Log
  flag_log new = changed d valid ino slot first n block size flag mask has (with_flag new)

  pub may_flag : (new : Flag) → MayFlag d ino new slot (flag_log new)
  may_flag new = record {
    valid = valid;
    in_table = has.in_table;
    live = has.live;
    reflags = reflags d valid ino slot first n block size flag mask has (with_flag new);
  }

  pub flag_retags : (new : Flag) → IsRetagged d ino (flag_log new) (flag_word slot) (flag_number new) (flagged slot new)
  flag_retags new = record {
    in_table = has.in_table;
    live = has.live;
    one = flag_one_word d ino new slot (flag_log new) (may_flag new);
    pages = flag_pages d ino new slot (flag_log new) (may_flag new);
    same_pages = refl;
    now_maps = flag_maps d ino new slot (flag_log new) (may_flag new);
    same_kept = λ m. (flag_bits slot new m).0;
    page = page;
    log_page = log_page;
    in_page = word_in_page 5 (omega arith);
    high = word_high 5;
  }

  abbrev pub mask_log : ℕ → Log
  mask_log new = changed d valid ino slot first n block size flag mask has (with_mask new)

  pub may_mask : (new : ℕ) → new < 2 ^ n → MayMask d ino new slot (mask_log new)
  may_mask new small = record {
    may = record {
      valid = valid;
      in_table = has.in_table;
      live = has.live;
      reflags = reflags d valid ino slot first n block size flag mask has (with_mask new);
    };
    small = small;
  }

  pub mask_retags : (new : ℕ) → new < 2 ^ n → IsRetagged d ino (mask_log new) (mask_word slot) new (masked slot new)
  mask_retags new small = record {
    in_table = has.in_table;
    live = has.live;
    one = mask_one_word d ino new slot (mask_log new) (may_mask new small);
    pages = mask_pages d ino new slot (mask_log new) (may_mask new small);
    same_pages = refl;
    now_maps = mask_maps d ino new slot (mask_log new) (may_mask new small);
    same_kept = λ m. (mask_bits slot new m).0;
    page = page;
    log_page = log_page;
    in_page = word_in_page 6 (omega arith);
    high = word_high 6;
  }

  -- no place is left alone that wasn't
  pub flag_alone : (new : Flag) (i idx : ℕ) (m : Mapping) → LivePlace (relogged d ino (flag_log new)) i idx m → IsAlone m
      → WasAloneOn d (relogged d ino (flag_log new)) i idx m
  flag_alone new i idx m place alone =
      let was = place_was d ino (flag_log new) (flag_word slot) (flag_number new) (flagged slot new) (flag_retags new) i idx m place in
      ⊎_elim
      (λ here.
      let bits = flag_bits slot new was.0 in
      record {
        mapping = was.0;
        place = was.1;
        alone =
            let bit : m.bit ≡ was.0.bit = ap (λ (x : Mapping). x.bit) here.1 ∙ ap (λ k. k.bit) bits.0 in
            let mask_is : m.mask ≡ was.0.mask = ap (λ (x : Mapping). x.mask) here.1 ∙ bits.1 in
            alone_by m.mask m.bit was.0.mask was.0.bit mask_is bit alone;
        page_is = sym (ap (λ (x : Mapping). x.block) here.1 ∙ ap (λ k. k.block) bits.0);
        bytes_are = bytes_still d ino (flag_log new) m.block;
      })
      (λ there. record {
        mapping = was.0;
        place = was.1;
        alone = subst IsAlone there.1 alone;
        page_is = ap (λ (x : Mapping). x.block) (sym there.1);
        bytes_are = bytes_still d ino (flag_log new) m.block;
      }) was.2
    where
      alone_by : (a k b l : ℕ) → a ≡ b → k ≡ l → IsBitSet a k → IsBitSet b l
      alone_by a k b l mask_is bit set = subst (λ (x : ℕ). IsBitSet x l) mask_is
          (subst (IsBitSet a) bit set)
