-- Bytes of a file are read part by part.
use Rattle.std.proofs.Common.{◌≡◌, inl, inr, ℕ, ◌+◌, ◌-◌, ◌<◌, min, List, [], length, take, drop, sym, ◌∙◌, ap, arith, zero-add}
use Rattle.std.specs.Prelude.{slice_index, Result, Ok, Err, IfOk}
use Rattle.std.specs.Ordering.{nat_cmp}
use Rattle.std.specs.FinMap.{FinMap}
use Rattle.std.proofs.lemmas.Bool.{cases_lt}
use Rattle.std.proofs.lemmas.Grind.{same_number_lists}
use Rattle.std.proofs.lemmas.List.{length-take, length-drop, get_or-take, get_or-drop}
use Rattle.pm_device.specs.State.{State}
use Rattle.pm_device.specs.Reading.{Stands}
use Rattle.file_index.specs.declared.page_map.Mapping.{Mapping}
use Rattle.dn_model.specs.Disk.{Disk, DiskSays}
use Rattle.dn_model.specs.Files.{bytes}
use Rattle.dn_model.specs.Valid.{IsValid}
use Rattle.law_write.proofs.WriteBytes.{length-bytes}
use Rattle.file_content.specs.Content.{IsFileOf, file_byte}
use Rattle.file_content.specs.ReadLoop.{AppendsBytes}
use Rattle.file_content.proofs.FileBytes.{byte_is}

pub if_ok_map : {A E : Type 0} (r : Result A E) (P Q : A → Type 0) → ((x : A) → P x → Q x) → IfOk r P → IfOk r Q
if_ok_map (Ok x) P Q f h = f x h
if_ok_map (Err e) P Q f h = h

module _ (image : List ℕ) (map : FinMap nat_cmp Mapping) (size : ℕ) where
  -- one part after another
  pub appends-then : (start from next : ℕ) (xs ys zs : List ℕ) → AppendsBytes image map size start from xs ys → AppendsBytes image map size from next
      ys zs → AppendsBytes image map size start next xs zs
  appends-then start from next xs ys zs first then_more = record {
    rises = omega (arith, first.rises, then_more.rises);
    whole = omega (arith, first.rises, then_more.rises, first.whole, then_more.whole);
    kept = λ i lt. then_more.kept i (omega (arith, lt, first.whole)) ∙ first.kept i lt;
    more = λ i lt. elim (cases_lt i (from - start)) [
      | inl low ↦ then_more.kept (length xs + i) (omega (arith, low, first.whole)) ∙ first.more i low
      | inr high ↦
          let place : length xs + i ≡ length ys + (i - (from - start)) = omega (arith, high, first.whole) in
          let byte : from + (i - (from - start)) ≡ start + i = omega (arith, high, first.rises) in
          ap (slice_index zs) place ∙ then_more.more (i - (from - start)) (omega (arith, lt, high, first.rises, then_more.rises)) ∙ ap
          (file_byte image map size) byte
    ];
  }

module _ (d : Disk) (ino size : ℕ) (map : FinMap nat_cmp Mapping) (is : IsFileOf d ino size map) (valid : IsValid d) (s : State)
    (stands : Stands (DiskSays d) s) where
  module _ (at count start more : ℕ) (start_is : start ≡ min at size) (more_is : more ≡ min count (size - start)) (found : List ℕ)
      (read : AppendsBytes s.now map size start (start + more) [] found) where
    found_long : length found ≡ more
    found_long = numbers (length found) read.whole
      where
        numbers : (l : ℕ) → l ≡ 0 + (start + more - start) → l ≡ more
        numbers l e = omega (arith, e)

    part_long : length (take count (drop at (bytes d ino))) ≡ more
    part_long = numbers (length (take count (drop at (bytes d ino)))) (length (drop at (bytes d ino))) (length (bytes d ino))
        (length-take count (drop at (bytes d ino))) (length-drop at (bytes d ino)) (length-bytes d ino ∙ is.size_is)
      where
        numbers : (a b l : ℕ) → a ≡ min count b → b ≡ l - at → l ≡ size → a ≡ more
        numbers a b l p q r = omega (arith, start_is, more_is)

    byte_found : (j : ℕ) → j < more → slice_index found j ≡ slice_index (take count (drop at (bytes d ino))) j
    byte_found j lt =
        ap (slice_index found) (sym (zero-add j)) ∙ read.more j (inside j lt) ∙ byte_is d ino size map is valid s stands (start + j) ∙ ap
        (slice_index (bytes d ino)) (same j lt)
        ∙ sym (get_or-drop at (bytes d ino) j 0) ∙ sym (get_or-take count (drop at (bytes d ino)) j 0 (before j lt))
      where
        inside : (j : ℕ) → j < more → j < start + more - start
        inside j lt = omega (arith, lt)

        same : (j : ℕ) → j < more → start + j ≡ at + j
        same j lt = omega (arith, lt, start_is, more_is)

        before : (j : ℕ) → j < more → j < count
        before j lt = omega (arith, lt, more_is)

    -- the bytes that are read are those from a place on, as far as the file goes
    pub found_is : found ≡ take count (drop at (bytes d ino))
    found_is = same_number_lists found (take count (drop at (bytes d ino))) (found_long ∙ sym part_long)
        (λ j lt. byte_found j (low j (length found) lt found_long))
      where
        low : (j l : ℕ) → j < l → l ≡ more → j < more
        low j l lt e = omega (arith, lt, e)
