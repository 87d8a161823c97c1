-- A page that was filled and flushed.
use Rattle.std.proofs.Common.{◌≡◌, inl, inr, ℕ, ◌+◌, ◌*◌, ◌/◌, ◌%◌, ◌<◌, ◌≤◌, List, length, sym, ◌∙◌, ap, arith}
use Rattle.std.specs.Prelude.{slice_index, nat_lt, if◌then◌else◌}
use Rattle.std.specs.Ordering.{nat_cmp}
use Rattle.std.specs.FinMap.{FinMap, get}
use Rattle.std.proofs.lemmas.Bool.{cases_lt}
use Rattle.std.proofs.lemmas.List.{get_or_past}
use Rattle.pm_device.specs.State.{State}
use Rattle.pm_device.specs.Reading.{Stands}
use Rattle.page_bytes.specs.Bytes.{HoldsBytes}
use Rattle.file_index.specs.declared.page_map.Mapping.{Mapping}
use Rattle.dn_model.specs.Disk.{Disk, DiskSays}
use Rattle.dn_model.specs.Files.{bytes}
use Rattle.dn_model.specs.Valid.{IsValid}
use Rattle.law_write.proofs.WriteBytes.{length-bytes}
use Rattle.file_content.specs.Content.{IsFileOf, IsPlaceOf, IsFilledBy, file_byte, block_byte, kept_byte}
use Rattle.file_content.specs.PutLoop.{PutsText, put_byte}
use Rattle.file_content.proofs.FileBytes.{byte_is, if_true, if_false, below, not_below}

-- the bytes below the size are all that a file has
pub kept-all : (old : List ℕ) (size j : ℕ) → length old ≡ size → kept_byte size old j ≡ slice_index old j
kept-all old size j long = elim (cases_lt j size) [
  | inl low ↦ if_true (nat_lt j size) _ _ (below j size low)
  | inr high ↦ if_false (nat_lt j size) _ _ (not_below j size high) ∙ sym (get_or_past old j 0 (omega (arith, long, high)))
]

module _ (d : Disk) (ino whole : ℕ) (map : FinMap nat_cmp Mapping) (is : IsFileOf d ino whole map) (valid : IsValid d) (s : State)
    (stands : Stands (DiskSays d) s) where
  -- the bytes below a size, as they are read
  kept-read : (size j : ℕ) → size ≤ whole → file_byte s.now map size j ≡ kept_byte size (bytes d ino) j
  unfolding file_byte
  kept-read size j le = elim (cases_lt j size) [
    | inl low ↦
        if_true (nat_lt j size) _ _ (below j size low) ∙ sym (if_true (nat_lt j whole) _ _ (below j whole (omega (arith, low, le))))
        ∙ byte_is d ino whole map is valid s stands j ∙ sym (if_true (nat_lt j size) _ _ (below j size low))
    | inr high ↦ if_false (nat_lt j size) _ _ (not_below j size high) ∙ sym (if_false (nat_lt j size) _ _ (not_below j size high))
  ]

  pub filled_is : (t : State) (who block size place at : ℕ) (text page new : List ℕ) → size ≤ whole → IsPlaceOf s.now map size place page
      → PutsText (4096 * place) at text page new → HoldsBytes who block new t
      → IsFilledBy who t block (λ k. put_byte at text (4096 * place + k) (kept_byte size (bytes d ino) (4096 * place + k)))
  filled_is t who block size place at text page new le read puts holds = record {
    bytes_are = λ k lt.
        holds.reads k lt ∙ puts.each k (omega (arith, lt, read.whole))
        ∙ ap (put_byte at text (4096 * place + k)) (read.each k lt ∙ kept-read size (4096 * place + k) le);
    flushed = holds.flushed;
  }

-- all of the file is kept
pub filled-whole : (d : Disk) (ino size : ℕ) (map : FinMap nat_cmp Mapping) → IsFileOf d ino size map → (t : State) (who block place at : ℕ)
    (text : List ℕ)
    → IsFilledBy who t block (λ k. put_byte at text (4096 * place + k) (kept_byte size (bytes d ino) (4096 * place + k)))
    → IsFilledBy who t block (λ k. put_byte at text (4096 * place + k) (slice_index (bytes d ino) (4096 * place + k)))
filled-whole d ino size map is t who block place at text filled = record {
  bytes_are = λ k lt. filled.bytes_are k lt ∙ ap (put_byte at text (4096 * place + k)) (kept-all (bytes d ino) size (4096 * place + k)
      (length-bytes d ino ∙ is.size_is));
  flushed = filled.flushed;
}
