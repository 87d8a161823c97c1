-- The page of an exact row is a page of the files, where no file is dying.
use Rattle.std.proofs.Common.{◌≡◌, ◌≢◌, inl, inr, ℕ, zero-add, ◌+◌, ◌*◌, ◌/◌, ◌<◌, ◌≤◌, refl, sym, ◌∙◌, ap, subst, arith, map}
use Rattle.std.specs.Prelude.{slice_index, Option, Some, None, Contains}
use Rattle.std.specs.Option.{option_map}
use Rattle.std.specs.List.{range_with_len}
use Rattle.std.proofs.lemmas.Bool.{cases_eq, cases_lt}
use Rattle.std.proofs.lemmas.Grind.{same_number_lists}
use Rattle.std.proofs.lemmas.List.{get_or_past}
use Rattle.std.proofs.lemmas.List.Elements.{All-contains}
use Rattle.std.proofs.lemmas.List.FromFn.{get_or-map-range_with_len, length-map-range_with_len}
use Rattle.log_entry.specs.Spelling.{pages_of}
use Rattle.dn_model.specs.Maps.{Mapping, mapping, size_of}
use Rattle.dn_model.specs.Table.{Row}
use Rattle.dn_model.specs.Disk.{Disk, Use, Free, Live, Dying, IsUsed, IsMapped, maps, maps_by_use, rows}
use Rattle.dn_model.specs.Counts.{mappings, Exact}
use Rattle.dn_model.specs.Files.{files, bytes, byte_of, mapped_byte}
use Rattle.dn_model.specs.Own.{Print, page_bytes, file_page, LivePlace, IsOwn}
use Rattle.dn_model.specs.Valid.{IsValid, IsLinked, HasOneName}
use Rattle.law_names.proofs.Kept.{names_map_nothing}
use Rattle.law_write.proofs.MappedPlaces.{mapping-below}
use Rattle.law_write.proofs.WriteBytes.{length-bytes, byte_at}
use Rattle.law_table_on_disk.specs.CountLaws.{IsExact}
use Rattle.law_table_on_disk.proofs.Mappings.{counted_mapped}
use Rattle.dn_volume.specs.Accounts.{HasPage}
use Rattle.dn_mount.specs.Mounted.{HasNoDying}

module _ (d : Disk) (valid : IsValid d) (print : Print) (own : IsOwn print d) where
  module _ (ino idx : ℕ) (m : Mapping) (place : LivePlace d ino idx m) where
    abbrev size : ℕ
    size = size_of (d.inode ino).log

    in_log : mapping (d.inode ino).log idx ≡ Some m
    unfolding maps
    in_log = subst (λ (u : Use). maps_by_use u (d.inode ino).log idx ≡ Some m) place.live place.maps

    in_size : idx < pages_of size
    in_size = mapping-below (d.inode ino).log idx m in_log

    below_size : 4096 * idx < size
    below_size = omega (arith, in_size)

    byte_same : (k : ℕ) → k < 4096 → slice_index (bytes d ino) (4096 * idx + k) ≡ byte_of d m.block k
    byte_same k lt = elim (cases_lt (4096 * idx + k) size) [
      | inl low ↦
          byte_at d ino (4096 * idx + k) low
          ∙ ap (λ (j : ℕ). mapped_byte d j (maps d ino ((4096 * idx + k) / 4096))) (omega (arith, lt))
          ∙ ap (λ (j : ℕ). mapped_byte d k (maps d ino j)) (omega (arith, lt))
          ∙ ap (mapped_byte d k) place.maps
      | inr high ↦ get_or_past (bytes d ino) (4096 * idx + k) 0 (omega (arith, high, length-bytes d ino)) ∙ sym
          (own.zeros ino idx k m place (omega (arith, high)) lt)
    ]

    page_is : file_page (bytes d ino) idx ≡ page_bytes d m.block
    unfolding page_bytes
    page_is = same_number_lists (file_page (bytes d ino) idx) (map (byte_of d m.block) (range_with_len 0 4096))
        (length-map-range_with_len (λ k. slice_index (bytes d ino) (4096 * idx + k)) 0 4096 ∙ sym
        (length-map-range_with_len (byte_of d m.block) 0 4096))
        (λ k lt. let small : k < 4096 = omega (arith, lt, length-map-range_with_len (λ j. slice_index (bytes d ino) (4096 * idx + j)) 0 4096) in
        get_or-map-range_with_len (λ j. slice_index (bytes d ino) (4096 * idx + j)) 0 4096 k k 0 small (zero-add k) ∙ byte_same k small ∙ sym
        (get_or-map-range_with_len (byte_of d m.block) 0 4096 k k 0 small (zero-add k)))

    -- the root maps nothing
    is_file : 1 ≤ ino
    is_file = elim (cases_eq ino 0) [
      | inl root ↦ absurd (none_some (mapping (d.inode ino).log idx) m (ap (λ (i : ℕ). mapping (d.inode i).log idx) root ∙ names_map_nothing d.geometry
          (d.inode 0).log idx (valid.logs 0 (omega (arith, valid.accepted.inodes)) (subst IsUsed (sym valid.root) tt)).standing) in_log)
      | inr other ↦ omega (arith, other)
    ]
      where
        none_some : (o : Option Mapping) (x : Mapping) → o ≡ None → o ≡ Some x → ⊥
        none_some o x none some = cc

    has_page : HasPage (files d) (page_bytes d m.block)
    has_page =
        let link : HasOneName d ino = subst (IsLinked d ino) place.live (valid.links ino is_file place.in_table) in
        record {
          name = link.name;
          bytes = bytes d ino;
          idx = idx;
          file = ap (option_map (bytes d)) link.leads;
          in_file = omega (arith, below_size, length-bytes d ino);
          same = page_is;
        }

  module _ (exact : Exact d) (none : HasNoDying d) where
    -- a place that is mapped is one of a live file
    live_by : (u : Use) (ino idx : ℕ) (m : Mapping) → ino < d.geometry.inodes → (d.inode ino).use_of ≡ u
        → maps_by_use u (d.inode ino).log idx ≡ Some m → (d.inode ino).use_of ≡ Live
    live_by Free ino idx m lt is mapped = cc mapped
    live_by Live ino idx m lt is mapped = is
    live_by (Dying cut) ino idx m lt is mapped = absurd (none.none ino cut lt is)

    live_place : (ino idx : ℕ) (m : Mapping) → ino < d.geometry.inodes → maps d ino idx ≡ Some m → LivePlace d ino idx m
    unfolding maps
    live_place ino idx m lt is = record { in_table = lt; live = live_by (d.inode ino).use_of ino idx m lt refl is; maps = is }

    pub row_page : (row : Row) → Contains (rows d) row → HasPage (files d) (page_bytes d row.page)
    row_page row has =
        let is : IsExact d row = All-contains (IsExact d) (rows d) row exact.counts has in
        let some : mappings d row.page ≢ 0 = λ zero_is. is.2 (is.1 ∙ zero_is) in
        let mapped : IsMapped d row.page = counted_mapped d row.page (omega (arith, some)) in
        let to = mapped.maps_to in
        subst (λ (page : ℕ). HasPage (files d) (page_bytes d page)) to.block
        (has_page mapped.ino mapped.idx to.by (live_place mapped.ino mapped.idx to.by to.in_table to.is))
