-- The bytes of a file that got Write items more.
use Rattle.std.proofs.Common.{
  ◌≡◌,
  ◌⊎◌,
  inl,
  inr,
  ⊎_elim,
  ℕ,
  ◌+◌,
  ◌-◌,
  ◌*◌,
  ◌/◌,
  ◌%◌,
  ◌^◌,
  ◌<◌,
  ◌≤◌,
  max,
  Bool,
  true,
  false,
  List,
  length,
  refl,
  sym,
  ◌∙◌,
  ap,
  arith,
  zero-add,
}
use Rattle.std.specs.Prelude.{slice_index, if◌then◌else◌, nat_le, nat_lt, ◌&&◌, Option, Some, None}
use Rattle.std.proofs.lemmas.Bool.{cases_lt}
use Rattle.std.proofs.lemmas.Bool.Decides.{nat_tests}
use Rattle.std.proofs.lemmas.List.{get_or_past}
use Rattle.std.proofs.lemmas.Grind.{same_number_lists}
use Rattle.std.proofs.lemmas.List.FromFn.{length-map-range_with_len, get_or-map-range_with_len}
use Rattle.log_entry.specs.Spelling.{pages_of}
use Rattle.dn_model.specs.Maps.{Mapping, size_of}
use Rattle.dn_model.specs.Disk.{Disk, MapsTo, maps}
use Rattle.dn_model.specs.Files.{bytes, byte_of, mapped_byte}
use Rattle.dn_model.specs.Apply.{written}
use Rattle.law_write.specs.Writing.{Writes, WritesWell, WritesBytes}
use Rattle.law_write.proofs.MappedPlaces.{maps-in_file, uncut}
use Rattle.law_write.proofs.WriteCounts.{own_or_other}

pub length-bytes : (d : Disk) (ino : ℕ) → length (bytes d ino) ≡ size_of (d.inode ino).log
unfolding bytes
length-bytes d ino = length-map-range_with_len _ 0 (size_of (d.inode ino).log)

pub byte_at : (d : Disk) (ino j : ℕ) → j < size_of (d.inode ino).log → slice_index (bytes d ino) j ≡ mapped_byte d (j % 4096) (maps d ino (j / 4096))
unfolding bytes
byte_at d ino j lt = get_or-map-range_with_len (λ i. mapped_byte d (i % 4096) (maps d ino (i / 4096))) 0 (size_of (d.inode ino).log) j j 0 lt
    (zero-add j)

module _ (ino : ℕ) (old new : Disk) (w : Writes ino old new) (ok : WritesWell ino old new w) (at : ℕ) (text : List ℕ)
    (is : WritesBytes ino old new w at text) where
  -- the words of mapped pages stay
  same : (idx : ℕ) (m : Mapping) (k : ℕ) → maps old ino idx ≡ Some m → byte_of new m.block k ≡ byte_of old m.block k
  same idx m k e =
      let to : MapsTo old ino idx m.block = record {
        in_table = w.in_table;
        in_file = maps-in_file old ok.valid ino idx m w.in_table e;
        by = m;
        is = e;
        block = refl;
      } in
      ap (λ (v : ℕ). v / 256 ^ (k % 8) % 256) (w.relogs.word m.block (k / 8) (inl (record { ino = ino; idx = idx; maps_to = to })))

  -- a byte of the old mapping, also past the old end
  old_byte : (j : ℕ) → mapped_byte new (j % 4096) (maps old ino (j / 4096)) ≡ slice_index (bytes old ino) j
  old_byte j = by_map (maps old ino (j / 4096)) refl
    where
      place : 4096 * (j / 4096) + j % 4096 ≡ j
      place = omega arith

      by_map : (m : Option Mapping) → maps old ino (j / 4096) ≡ m → mapped_byte new (j % 4096) m ≡ slice_index (bytes old ino) j
      by_map None e = elim (cases_lt j (size_of (old.inode ino).log)) [
        | inl low ↦ sym (byte_at old ino j low ∙ ap (mapped_byte old (j % 4096)) e)
        | inr high ↦ sym (get_or_past (bytes old ino) j 0 (omega (arith, length-bytes old ino, high)))
      ]
      by_map (Some m) e = elim (cases_lt j (size_of (old.inode ino).log)) [
        | inl low ↦ same (j / 4096) m (j % 4096) e ∙ sym (byte_at old ino j low ∙ ap (mapped_byte old (j % 4096)) e)
        | inr high ↦ same (j / 4096) m (j % 4096) e ∙ is.zeros (j / 4096) (j % 4096) m e (omega arith) (omega (arith, place, high)) ∙ sym
            (get_or_past (bytes old ino) j 0 (omega (arith, length-bytes old ino, high)))
      ]

  in_text : ℕ → Bool
  in_text j = nat_le at j && nat_lt j (at + length text)

  -- what stands at place j afterwards
  abbrev wanted : ℕ → ℕ
  wanted j = if nat_le at j && nat_lt j (at + length text) then slice_index text (j - at) else slice_index (bytes old ino) j

  wanted_in : (j : ℕ) → at ≤ j → j < at + length text → wanted j ≡ slice_index text (j - at)
  wanted_in j low high = let t : (nat_le at j && nat_lt j (at + length text)) ≡ true = grind (arith, nat_tests) in
      ap (λ (b : Bool). if b then slice_index text (j - at) else slice_index (bytes old ino) j) t

  wanted_out : (j : ℕ) → (at ≤ j → j < at + length text → ⊥) → wanted j ≡ slice_index (bytes old ino) j
  wanted_out j out = let t : (nat_le at j && nat_lt j (at + length text)) ≡ false = grind (arith, nat_tests) in
      ap (λ (b : Bool). if b then slice_index text (j - at) else slice_index (bytes old ino) j) t

  -- a byte of a new page
  own_byte : (j i : ℕ) → i < w.n → j / 4096 ≡ w.first + i → byte_of new (w.blocks i) (j % 4096) ≡ wanted j
  own_byte j i below at_place =
      let place : 4096 * (w.first + i) + j % 4096 ≡ j = omega arith in
      let small : j % 4096 < 4096 = omega arith in
      elim (cases_lt j at) [
        | inl before ↦ is.outside i (j % 4096) below small (λ a b. omega (arith, a, place, before)) ∙ ap (slice_index (bytes old ino)) place ∙ sym
            (wanted_out j (λ a b. omega (arith, a, before)))
        | inr from ↦ elim (cases_lt j (at + length text)) [
          | inl inside ↦ is.inside i (j % 4096) below small (omega (arith, place, from)) (omega (arith, place, inside)) ∙ ap
              (λ (i : ℕ). slice_index text (i - at)) place ∙ sym (wanted_in j from inside)
          | inr past ↦ is.outside i (j % 4096) below small (λ a b. omega (arith, b, place, past)) ∙ ap (slice_index (bytes old ino)) place ∙ sym
              (wanted_out j (λ a b. omega (arith, b, past)))
        ]
      ]

  -- a byte of a place that isn't the event's own
  other_byte : (j : ℕ) → j < w.size → (j / 4096 < w.first) ⊎ (w.first + w.n ≤ j / 4096) → mapped_byte new (j % 4096) (maps new ino (j / 4096)) ≡
      wanted j
  other_byte j lt out =
      ap (mapped_byte new (j % 4096)) (w.other (j / 4096) out ∙ uncut w.size (j / 4096) (maps old ino (j / 4096)) (in_pages j w.size lt)) ∙ old_byte j
      ∙ sym (wanted_out j (λ low high. apart (is.covers j low high)))
    where
      in_pages : (i size : ℕ) → i < size → i / 4096 < pages_of size
      in_pages i size lt = omega arith

      apart : (w.first ≤ j / 4096) × (j / 4096 < w.first + w.n) → ⊥
      apart c = ⊎_elim (λ (low : j / 4096 < w.first). omega arith) (λ (high : w.first + w.n ≤ j / 4096). omega arith) out

  new_byte : (j : ℕ) → j < w.size → mapped_byte new (j % 4096) (maps new ino (j / 4096)) ≡ wanted j
  new_byte j lt = elim (own_or_other w.first w.n (j / 4096)) [
    | inl own ↦
        let here = w.own own.0 own.1 in
        ap (λ (i : ℕ). mapped_byte new (j % 4096) (maps new ino i)) own.2 ∙ ap (mapped_byte new (j % 4096)) here.is
        ∙ ap (λ (page : ℕ). byte_of new page (j % 4096)) here.page ∙ own_byte j own.0 own.1 own.2
    | inr out ↦ other_byte j lt out
  ]

  pub bytes-written : bytes new ino ≡ written (bytes old ino) at text
  unfolding written
  bytes-written = same_number_lists (bytes new ino) _ (length-bytes new ino ∙ w.last_size ∙ is.size ∙ sym
      (length-map-range_with_len _ 0 (max (length (bytes old ino)) (at + length text))))
      (λ j lt. byte_at new ino j (omega (arith, lt, length-bytes new ino)) ∙ new_byte j (omega (arith, lt, length-bytes new ino, w.last_size))
      ∙ sym (get_or-map-range_with_len wanted 0 (max (length (bytes old ino)) (at + length text)) j j 0
      (omega (arith, lt, length-bytes new ino, w.last_size, is.size)) (zero-add j)))
