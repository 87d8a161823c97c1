-- The bytes that are read of a file are the disk's.
use Rattle.std.proofs.Common.{◌≡◌, inl, inr, ℕ, ◌+◌, ◌*◌, ◌/◌, ◌%◌, ◌^◌, ◌<◌, ◌≤◌, Bool, true, false, List, refl, sym, ◌∙◌, ap, arith, zero-add}
use Rattle.std.specs.Prelude.{◌↔◌, slice_index, if◌then◌else◌, nat_lt, Option, Some, None}
use Rattle.std.specs.Option.{option_map}
use Rattle.std.specs.Ordering.{nat_cmp}
use Rattle.std.specs.FinMap.{FinMap, get}
use Rattle.std.proofs.lemmas.Bool.{cases_lt}
use Rattle.std.proofs.lemmas.Bool.Decides.{nat_tests}
use Rattle.std.proofs.lemmas.Grind.{same_number_lists}
use Rattle.std.proofs.lemmas.List.{get_or_past}
use Rattle.std.proofs.lemmas.List.FromFn.{length-map-range_with_len, get_or-map-range_with_len}
use Rattle.pm_device.specs.State.{State}
use Rattle.pm_device.specs.Reading.{Stands}
use Rattle.page_bytes.specs.Bytes.{page_byte}
use Rattle.file_index.specs.declared.page_map.Mapping.{Mapping}
use Rattle.dn_model.specs.Maps.{Mapping as DiskMapping}
use Rattle.dn_model.specs.Disk.{Disk, DiskSays, of_pages, IsMapped, maps}
use Rattle.dn_model.specs.Files.{bytes, byte_of, mapped_byte}
use Rattle.dn_model.specs.Valid.{IsValid}
use Rattle.dn_model.specs.Own.{file_page}
use Rattle.law_write.proofs.MappedPlaces.{maps-in_file}
use Rattle.law_write.proofs.WriteBytes.{length-bytes, byte_at}
use Rattle.file_content.specs.Content.{IsFileOf, kept, block_byte, file_byte, IsPlaceOf}
use Rattle.file_content.specs.ReadLoop.{place_byte}

pub if_true : (b : Bool) (x y : ℕ) → b ≡ true → (if b then x else y) ≡ x
if_true b x y t = ap (λ (c : Bool). if c then x else y) t

pub if_false : (b : Bool) (x y : ℕ) → b ≡ false → (if b then x else y) ≡ y
if_false b x y f = ap (λ (c : Bool). if c then x else y) f

pub below : (a b : ℕ) → a < b → nat_lt a b ≡ true
below a b lt = grind (arith, nat_tests)

pub not_below : (a b : ℕ) → b ≤ a → nat_lt a b ≡ false
not_below a b le = grind (arith, nat_tests)

module _ (image : List ℕ) (map : FinMap nat_cmp Mapping) (size place : ℕ) where
  -- byte k of a place, by its mapping
  pub byte_in_place : (mapping : Option Mapping) (inside : ℕ) → mapping ≡ get map place → ((k : ℕ) → (k < inside) ↔ (4096 * place + k < size))
      → (k : ℕ) → k < 4096
      → place_byte image mapping inside k ≡ file_byte image map size (4096 * place + k)
  unfolding file_byte
  byte_in_place mapping inside is bound k lt = elim (cases_lt k inside) [
    | inl low ↦ if_true (nat_lt k inside) _ _ (below k inside low) ∙ same ∙ sym (if_true (nat_lt (4096 * place + k) size) _ _
        (below (4096 * place + k) size ((bound k).0 low)))
    | inr high ↦ if_false (nat_lt k inside) _ _ (not_below k inside high) ∙ sym (if_false (nat_lt (4096 * place + k) size) _ _
        (not_below (4096 * place + k) size (above high)))
  ]
    where
      same : block_byte image k mapping ≡ block_byte image ((4096 * place + k) % 4096) (get map ((4096 * place + k) / 4096))
      same =
          let q : place ≡ (4096 * place + k) / 4096 = omega arith in
          let r : k ≡ (4096 * place + k) % 4096 = omega arith in
          ap (block_byte image k) is ∙ ap (λ (i : ℕ). block_byte image k (get map i)) q ∙ ap
          (λ (i : ℕ). block_byte image i (get map ((4096 * place + k) / 4096))) r

      above : inside ≤ k → size ≤ 4096 * place + k
      above le = elim (cases_lt (4096 * place + k) size) [ inl lower ↦ absurd (omega (arith, (bound k).1 lower, le)) | inr done ↦ done ]

module _ (d : Disk) (ino size : ℕ) (map : FinMap nat_cmp Mapping) (is : IsFileOf d ino size map) (valid : IsValid d) (s : State)
    (stands : Stands (DiskSays d) s) where
  -- a page to which a place is mapped is read
  pub mapped : (idx : ℕ) (m : DiskMapping) → maps d ino idx ≡ Some m → IsMapped d m.block
  mapped idx m e = record {
    ino = ino;
    idx = idx;
    maps_to = record {
      in_table = is.in_table;
      in_file = maps-in_file d valid ino idx m is.in_table e;
      by = m;
      is = e;
      block = refl;
    };
  }

  byte_read : (idx : ℕ) (m : DiskMapping) → maps d ino idx ≡ Some m → (k : ℕ) → k < 4096 → page_byte s.now m.block k ≡ byte_of d m.block k
  byte_read idx m e k lt =
      ap (λ (w : ℕ). w / 256 ^ (k % 8) % 256)
      (stands.reads (512 * m.block + k / 8) (d.word m.block (k / 8))
      (of_pages (record { page = m.block; k = k / 8; in_page = omega (arith, lt); read = inl (mapped idx m e); place = refl; value = refl })))

  -- byte j of the file, as it is read
  pub byte_is : (j : ℕ) → file_byte s.now map size j ≡ slice_index (bytes d ino) j
  unfolding file_byte
  byte_is j = elim (cases_lt j size) [
    | inl low ↦ if_true (nat_lt j size) _ _ (below j size low) ∙ by_map (maps d ino (j / 4096)) refl ∙ sym
        (byte_at d ino j (omega (arith, low, is.size_is)))
    | inr high ↦ if_false (nat_lt j size) _ _ (not_below j size high) ∙ sym
        (get_or_past (bytes d ino) j 0 (omega (arith, length-bytes d ino, is.size_is, high)))
  ]
    where
      by_map : (m : Option DiskMapping) → maps d ino (j / 4096) ≡ m → block_byte s.now (j % 4096) (get map (j / 4096)) ≡ mapped_byte d (j % 4096)
          (maps d ino (j / 4096))
      by_map None e = ap (block_byte s.now (j % 4096)) (is.places (j / 4096) ∙ ap (option_map kept) e) ∙ sym (ap (mapped_byte d (j % 4096)) e)
      by_map (Some m) e =
          ap (block_byte s.now (j % 4096)) (is.places (j / 4096) ∙ ap (option_map kept) e) ∙ byte_read (j / 4096) m e (j % 4096) (omega arith)
          ∙ sym (ap (mapped_byte d (j % 4096)) e)

  -- a place that is read is a page of the file
  pub page_is : (place : ℕ) (text : List ℕ) → IsPlaceOf s.now map size place text → text ≡ file_page (bytes d ino) place
  page_is place text read =
      same_number_lists text (file_page (bytes d ino) place)
      (read.whole ∙ sym (length-map-range_with_len (λ i. slice_index (bytes d ino) (4096 * place + i)) 0 4096))
      (λ k lt. let small : k < 4096 = omega (arith, lt, read.whole) in
      read.each k small ∙ byte_is (4096 * place + k) ∙ sym (get_or-map-range_with_len (λ i. slice_index (bytes d ino) (4096 * place + i)) 0 4096 k k 0
      small (zero-add k)))
