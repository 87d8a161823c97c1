-- A page of a live file is a page of the files.
use Rattle.std.proofs.Common.{◌≡◌, inl, inr, ℕ, zero-add, ◌+◌, ◌*◌, ◌/◌, ◌<◌, ◌≤◌, sym, ◌∙◌, ap, subst, arith, map}
use Rattle.std.specs.Prelude.{slice_index, Some}
use Rattle.std.specs.Option.{option_map}
use Rattle.std.specs.List.{range_with_len}
use Rattle.std.proofs.lemmas.Bool.{cases_lt}
use Rattle.std.proofs.lemmas.Grind.{same_number_lists}
use Rattle.std.proofs.lemmas.List.{get_or_past}
use Rattle.std.proofs.lemmas.List.FromFn.{get_or-map-range_with_len, length-map-range_with_len}
use Rattle.log_entry.specs.Spelling.{pages_of}
use Rattle.dn_model.specs.Maps.{Mapping, mapping, size_of}
use Rattle.dn_model.specs.Disk.{Disk, Use, maps, maps_by_use}
use Rattle.dn_model.specs.Files.{files, bytes, byte_of, mapped_byte}
use Rattle.dn_model.specs.Own.{Print, page_bytes, file_page, LivePlace, IsOwn}
use Rattle.dn_model.specs.Valid.{IsValid, IsLinked, HasOneName}
use Rattle.law_write.proofs.MappedPlaces.{mapping-below}
use Rattle.law_write.proofs.WriteBytes.{length-bytes, byte_at}
use Rattle.dn_volume.specs.Accounts.{HasPage}

module _ (d : Disk) (valid : IsValid d) (print : Print) (own : IsOwn print d) (ino idx : ℕ) (m : Mapping) (place : LivePlace d ino idx m) where
  abbrev size : ℕ
  size = size_of (d.inode ino).log

  in_log : mapping (d.inode ino).log idx ≡ Some m
  unfolding maps
  in_log = subst (λ (u : Use). maps_by_use u (d.inode ino).log idx ≡ Some m) place.live place.maps

  in_size : idx < pages_of size
  in_size = mapping-below (d.inode ino).log idx m in_log

  below_size : 4096 * idx < size
  below_size = omega (arith, in_size)

  byte_same : (k : ℕ) → k < 4096 → slice_index (bytes d ino) (4096 * idx + k) ≡ byte_of d m.block k
  byte_same k lt = elim (cases_lt (4096 * idx + k) size) [
    | inl low ↦
        byte_at d ino (4096 * idx + k) low
        ∙ ap (λ (j : ℕ). mapped_byte d j (maps d ino ((4096 * idx + k) / 4096))) (omega (arith, lt))
        ∙ ap (λ (j : ℕ). mapped_byte d k (maps d ino j)) (omega (arith, lt))
        ∙ ap (mapped_byte d k) place.maps
    | inr high ↦ get_or_past (bytes d ino) (4096 * idx + k) 0 (omega (arith, high, length-bytes d ino)) ∙ sym
        (own.zeros ino idx k m place (omega (arith, high)) lt)
  ]

  pub page_is : file_page (bytes d ino) idx ≡ page_bytes d m.block
  unfolding page_bytes
  page_is = same_number_lists (file_page (bytes d ino) idx) (map (byte_of d m.block) (range_with_len 0 4096))
      (length-map-range_with_len (λ k. slice_index (bytes d ino) (4096 * idx + k)) 0 4096 ∙ sym
      (length-map-range_with_len (byte_of d m.block) 0 4096))
      (λ k lt. let small : k < 4096 = omega (arith, lt, length-map-range_with_len (λ j. slice_index (bytes d ino) (4096 * idx + j)) 0 4096) in
      get_or-map-range_with_len (λ j. slice_index (bytes d ino) (4096 * idx + j)) 0 4096 k k 0 small (zero-add k) ∙ byte_same k small ∙ sym
      (get_or-map-range_with_len (byte_of d m.block) 0 4096 k k 0 small (zero-add k)))

  pub has_page : 1 ≤ ino → HasPage (files d) (page_bytes d m.block)
  has_page file =
      let link : HasOneName d ino = subst (IsLinked d ino) place.live (valid.links ino file place.in_table) in
      record {
        name = link.name;
        bytes = bytes d ino;
        idx = idx;
        file = ap (option_map (bytes d)) link.leads;
        in_file = omega (arith, below_size, length-bytes d ino);
        same = page_is;
      }
