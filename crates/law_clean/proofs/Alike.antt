-- A cleaned log maps each place as the log does, and tells its size.
use Rattle.std.proofs.Common.{◌≡◌, ◌⊎◌, inl, inr, ℕ, ◌+◌, ◌-◌, ◌<◌, ◌≤◌, Bool, true, false, List, [], ◌∷◌, length, refl, sym, ◌∙◌, ap, subst, arith}
use Rattle.std.specs.Prelude.{◌&&◌, ◌==◌, nat_le, nat_lt, if◌then◌else◌, Option, Some, None}
use Rattle.std.proofs.lemmas.Bool.{eqb-true}
use Rattle.std.proofs.lemmas.Bool.Decides.{nat_tests}
use Rattle.log_entry.specs.Spelling.{spelling, pages_of}
use Rattle.log_entry.specs.declared.item.Flag.{Flag}
use Rattle.log_entry.specs.declared.item.LogItem.{LogItem}
use Rattle.log_entry.specs.declared.item.LogItem.TheVariants.{Write, Size, Add, Forget}
use Rattle.dn_model.specs.Log.{Log, placed_from, slot_name}
use Rattle.dn_model.specs.Maps.{Mapping, mapping, mapped_after, remapped, cut_to, size_of, size_after}
use Rattle.dn_model.specs.Own.{IsAlone}
use Rattle.law_write.proofs.MappedPlaces.{mapping-below, uncut}
use Rattle.law_log_swap.specs.Replaced.{AreAlike}
use Rattle.law_clean.specs.Cleaned.{still_mapped, or_size}
use Rattle.law_clean.proofs.Among.{Among}
use Rattle.law_clean.proofs.Parts.{Covers, Fits, AreKept, is_covered}

-- a place that is mapped nowhere stays so
cut_none : (size idx : ℕ) → cut_to size idx None ≡ None
cut_none size idx = nothing (nat_lt idx (pages_of size)) None refl
  where
    nothing : (b : Bool) (o : Option Mapping) → o ≡ None → (if b then o else None) ≡ None
    nothing true o e = e
    nothing false o e = refl

module _ (log : Log) (idx : ℕ) where
  not_covered : mapping log idx ≡ None → (from n block size : ℕ) (flag : Flag) (mask : ℕ) → AreKept log (Write from n block size flag mask)
      → (nat_le from idx && nat_lt idx (from + n)) ≡ false
  not_covered none from n block size flag mask kept = by_test (nat_le from idx && nat_lt idx (from + n)) refl
    where
      by_test : (b : Bool) → (nat_le from idx && nat_lt idx (from + n)) ≡ b → (nat_le from idx && nat_lt idx (from + n)) ≡ false
      by_test false t = t
      by_test true t =
          let low : from ≤ idx = low_of t in
          let high : idx < from + n = high_of t in
          let fits = kept.1 idx low high in
          let clash : None ≡ Some fits.by = sym none ∙ fits.is in cc
        where
          low_of : (nat_le from idx && nat_lt idx (from + n)) ≡ true → from ≤ idx
          low_of e = grind (arith, nat_tests)

          high_of : (nat_le from idx && nat_lt idx (from + n)) ≡ true → idx < from + n
          high_of e = grind (arith, nat_tests)

  pub stays_none : mapping log idx ≡ None → (pages : List ℕ) (k : ℕ) (items : List LogItem) → ((item : LogItem) → Among item items
      → AreKept log item) → mapped_after idx None (placed_from pages k items) ≡ None
  stays_none none pages k [] kept = refl
  stays_none none pages k (Write from n block size flag mask ∷ items) kept =
      ap (λ (o : Option Mapping). mapped_after idx o (placed_from pages (k + length (spelling (Write from n block size flag mask))) items))
      (ap (λ (b : Bool). cut_to size idx (if b then Some (record {
        block = block + (idx - from);
        slot = slot_name pages k;
        bit = idx - from;
        flag = flag;
        mask = mask;
      }) else None)) (not_covered none from n block size flag mask (kept (Write from n block size flag mask) (inl refl))) ∙ cut_none size idx)
      ∙ stays_none none pages (k + length (spelling (Write from n block size flag mask))) items (λ item in'. kept item (inr in'))
  stays_none none pages k (Size size ∷ items) kept = absurd (kept (Size size) (inl refl))
  stays_none none pages k (Add ino name ∷ items) kept = absurd (kept (Add ino name) (inl refl))
  stays_none none pages k (Forget name ∷ items) kept = absurd (kept (Forget name) (inl refl))

  module _ (m : Mapping) (is : mapping log idx ≡ Some m) where
    abbrev Like : Option Mapping → Type 0
    Like o = AreAlike (Some m) o

    -- what a Write makes of the place
    fits_like : (from n block slot : ℕ) (flag : Flag) (mask : ℕ) → Fits log idx from block flag mask
        → Like (Some (record { block = block + (idx - from); slot = slot; bit = idx - from; flag = flag; mask = mask }))
    fits_like from n block slot flag mask fits =
        let same : fits.by ≡ m = one fits.by m (sym fits.is ∙ is) in
        record {
          block = fits.block_is ∙ ap (λ (x : Mapping). x.block) same;
          flag = fits.flag_is ∙ ap (λ (x : Mapping). x.flag) same;
          alone = λ alone. fits.alone.1 (subst IsAlone (sym same) alone);
          not_more = λ alone. subst IsAlone same (fits.alone.0 alone);
        }
      where
        one : (x y : Mapping) → Some x ≡ Some y → x ≡ y
        one x y e = cc

    by_write : (from n block size slot : ℕ) (flag : Flag) (mask : ℕ) (o : Option Mapping) → AreKept log (Write from n block size flag mask)
        → Like o ⊎ Covers idx (Write from n block size flag mask)
        → Like (remapped idx o (record { slot = slot; item = Write from n block size flag mask }))
    by_write from n block size slot flag mask o kept had =
        subst Like (sym (uncut size idx _ (subst (λ (s : ℕ). idx < pages_of s) (sym kept.0) (mapping-below log idx m is))))
        (by_test (nat_le from idx && nat_lt idx (from + n)) refl had)
      where
        by_test : (b : Bool) → (nat_le from idx && nat_lt idx (from + n)) ≡ b → Like o ⊎ Covers idx (Write from n block size flag mask)
            → Like (if b then Some (record { block = block + (idx - from); slot = slot; bit = idx - from; flag = flag; mask = mask }) else o)
        by_test true t had = fits_like from n block slot flag mask (kept.1 idx (low_of t) (high_of t))
          where
            low_of : (nat_le from idx && nat_lt idx (from + n)) ≡ true → from ≤ idx
            low_of e = grind (arith, nat_tests)

            high_of : (nat_le from idx && nat_lt idx (from + n)) ≡ true → idx < from + n
            high_of e = grind (arith, nat_tests)
        by_test false t (inl like) = like
        by_test false t (inr covers) = absurd (no_test covers.0 covers.1 t)
          where
            no_test : from ≤ idx → idx < from + n → (nat_le from idx && nat_lt idx (from + n)) ≡ false → ⊥
            no_test low high e = grind (arith, nat_tests)

    stays_like : (pages : List ℕ) (k : ℕ) (items : List LogItem) (o : Option Mapping) → ((item : LogItem) → Among item items → AreKept log item)
        → Like o → Like (mapped_after idx o (placed_from pages k items))
    stays_like pages k [] o kept like = like
    stays_like pages k (Write from n block size flag mask ∷ items) o kept like =
        stays_like pages (k + length (spelling (Write from n block size flag mask))) items
        (remapped idx o (record { slot = slot_name pages k; item = Write from n block size flag mask })) (λ item in'. kept item (inr in'))
        (by_write from n block size (slot_name pages k) flag mask o (kept (Write from n block size flag mask) (inl refl)) (inl like))
    stays_like pages k (Size size ∷ items) o kept like = absurd (kept (Size size) (inl refl))
    stays_like pages k (Add ino name ∷ items) o kept like = absurd (kept (Add ino name) (inl refl))
    stays_like pages k (Forget name ∷ items) o kept like = absurd (kept (Forget name) (inl refl))

    pub gets_like : (pages : List ℕ) (k : ℕ) (items : List LogItem) (o : Option Mapping) → ((item : LogItem) → Among item items → AreKept log item)
        → (item : LogItem) → Among item items → Covers idx item → Like (mapped_after idx o (placed_from pages k items))
    gets_like pages k [] o kept item in' covers = absurd in'
    gets_like pages k (Write from n block size flag mask ∷ items) o kept item (inl e) covers =
        stays_like pages (k + length (spelling (Write from n block size flag mask))) items
        (remapped idx o (record { slot = slot_name pages k; item = Write from n block size flag mask })) (λ x in'. kept x (inr in'))
        (by_write from n block size (slot_name pages k) flag mask o (kept (Write from n block size flag mask) (inl refl))
        (inr (subst (Covers idx) (sym e) covers)))
    gets_like pages k (Write from n block size flag mask ∷ items) o kept item (inr in') covers =
        gets_like pages (k + length (spelling (Write from n block size flag mask))) items
        (remapped idx o (record { slot = slot_name pages k; item = Write from n block size flag mask })) (λ x also. kept x (inr also)) item in' covers
    gets_like pages k (Size size ∷ items) o kept item in' covers = absurd (kept (Size size) (inl refl))
    gets_like pages k (Add ino name ∷ items) o kept item in' covers = absurd (kept (Add ino name) (inl refl))
    gets_like pages k (Forget name ∷ items) o kept item in' covers = absurd (kept (Forget name) (inl refl))

-- with the Size, if there is one
module _ (log : Log) (pages : List ℕ) (kept : (item : LogItem) → Among item (still_mapped log) → AreKept log item) where
  size_mapped : (idx : ℕ) → mapped_after idx None (placed_from pages 0 (or_size (size_of log) [])) ≡ None
  size_mapped idx = elim (size_of log == 0) as (λ b. mapped_after idx None (placed_from pages 0 (if b then [] else (Size (size_of log) ∷ []))) ≡ None)
      [ true ↦ refl | false ↦ cut_none (size_of log) idx ]

  -- the list of parts is empty or not
  by_parts : (idx : ℕ) (items : List LogItem) → still_mapped log ≡ items → (o : Option Mapping) → mapping log idx ≡ o
      → AreAlike o (mapped_after idx None (placed_from pages 0 (or_size (size_of log) items)))
  by_parts idx [] none None e = subst (AreAlike None) (sym (size_mapped idx)) tt
  by_parts idx [] none (Some m) e =
      let is = is_covered log idx m e in
      absurd (subst (Among is.item) none is.among)
  by_parts idx (x ∷ items) are None e = subst (AreAlike None) (sym (stays_none log idx e pages 0 (x ∷ items)
      (λ item in'. kept item (subst (Among item) (sym are) in')))) tt
  by_parts idx (x ∷ items) are (Some m) e =
      let is = is_covered log idx m e in
      gets_like log idx m e pages 0 (x ∷ items) None (λ item in'. kept item (subst (Among item) (sym are) in')) is.item
      (subst (Among is.item) are is.among) is.covers

  pub parts_alike : (idx : ℕ) → AreAlike (mapping log idx) (mapped_after idx None (placed_from pages 0 (or_size (size_of log) (still_mapped log))))
  parts_alike idx = by_parts idx (still_mapped log) refl (mapping log idx) refl

  -- Writes of one size tell it
  one_size : (items : List LogItem) → ((item : LogItem) → Among item items → AreKept log item) → size_after (size_of log) items ≡ size_of log
  one_size [] each = refl
  one_size (Write from n block size flag mask ∷ items) each =
      ap (λ (s : ℕ). size_after s items) (each (Write from n block size flag mask) (inl refl)).0 ∙ one_size items (λ item in'. each item (inr in'))
  one_size (Size size ∷ items) each = absurd (each (Size size) (inl refl))
  one_size (Add ino name ∷ items) each = absurd (each (Add ino name) (inl refl))
  one_size (Forget name ∷ items) each = absurd (each (Forget name) (inl refl))

  by_list : (items : List LogItem) → ((item : LogItem) → Among item items → AreKept log item) → size_after 0 (or_size (size_of log) items) ≡ size_of
      log
  by_list [] each = by_test (size_of log == 0) refl
    where
      by_test : (b : Bool) → (size_of log == 0) ≡ b → size_after 0 (if b then [] else (Size (size_of log) ∷ [])) ≡ size_of log
      by_test true t = sym (eqb-true (size_of log) 0 t)
      by_test false t = refl
  by_list (Write from n block size flag mask ∷ items) each =
      ap (λ (s : ℕ). size_after s items) (each (Write from n block size flag mask) (inl refl)).0 ∙ one_size items (λ item in'. each item (inr in'))
  by_list (Size size ∷ items) each = absurd (each (Size size) (inl refl))
  by_list (Add ino name ∷ items) each = absurd (each (Add ino name) (inl refl))
  by_list (Forget name ∷ items) each = absurd (each (Forget name) (inl refl))

  pub parts_size : size_after 0 (or_size (size_of log) (still_mapped log)) ≡ size_of log
  parts_size = by_list (still_mapped log) kept
