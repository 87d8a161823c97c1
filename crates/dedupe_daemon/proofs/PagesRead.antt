-- The bytes of a page that is read are the disk's.
use Rattle.std.proofs.Common.{◌≡◌, ℕ, zero-add, ◌+◌, ◌*◌, ◌/◌, ◌%◌, ◌^◌, ◌<◌, ◌≤◌, false, List, length, map, refl, sym, ◌∙◌, ap, arith}
use Rattle.std.specs.Prelude.{◌↔◌}
use Rattle.std.specs.List.{range_with_len}
use Rattle.std.proofs.lemmas.Grind.{same_number_lists}
use Rattle.std.proofs.lemmas.List.FromFn.{get_or-map-range_with_len, length-map-range_with_len}
use Rattle.pm_device.specs.State.{State}
use Rattle.page_bytes.specs.Bytes.{page_byte, IsPageOf}
use Rattle.dn_model.specs.Disk.{Disk, of_pages}
use Rattle.dn_model.specs.Files.{byte_of}
use Rattle.dn_model.specs.Own.{page_bytes}
use Rattle.law_write.specs.Events.{IsReadPage}
use Rattle.law_write.proofs.Unread.{read_in_data}
use Rattle.dn_volume.specs.declared.volume.Parts.{Parts}
use Rattle.dn_volume.specs.declared.volume.Volume.{Volume}
use Rattle.dn_volume.specs.Agrees.{IsVolume, Agrees}
use Rattle.dn_volume.proofs.Tables.{running_disk}
use Rattle.dedupe_daemon.specs.Pages.{IsRead}

module _ (d : Disk) (b : Parts) (s : State) (v : IsVolume d b s) (page : ℕ) (read : IsReadPage d page) where
  pub page_small : page < 65536
  page_small = let inside = read_in_data d v.fast.valid page read in omega (arith, inside.high, v.fast.valid.accepted.few_pages)

  pub page_inside : 512 * page + 512 ≤ length s.now
  page_inside = let inside = read_in_data d v.fast.valid page read in omega (arith, inside.high, v.fast.long)

  byte_read : (k : ℕ) → k < 4096 → page_byte s.now page k ≡ byte_of d page k
  byte_read k lt =
      ap (λ (w : ℕ). w / 256 ^ (k % 8) % 256)
      (v.fast.stands.reads (512 * page + k / 8) (d.word page (k / 8))
      (of_pages (record { page = page; k = k / 8; in_page = omega (arith, lt); read = read; place = refl; value = refl })))

  pub page_read : (bytes : List ℕ) → IsPageOf s.now page bytes → bytes ≡ page_bytes d page
  unfolding page_bytes
  page_read bytes is = same_number_lists bytes (map (byte_of d page) (range_with_len 0 4096))
      (is.whole ∙ sym (length-map-range_with_len (byte_of d page) 0 4096))
      (λ k lt. let small : k < 4096 = omega (arith, lt, is.whole) in
      is.each k small ∙ byte_read k small ∙ sym (get_or-map-range_with_len (byte_of d page) 0 4096 k k 0 small (zero-add k)))

module _ {D F : Type 0} (state : D → State) (w : Volume D F) (agrees : Agrees state w) (running : w.parts.stopped ≡ false) (page : ℕ)
    (read : IsRead w.parts (state w.device) page) where
  abbrev found : (d : Disk) × IsVolume d w.parts (state w.device)
  found = running_disk state w running agrees

  pub read_small : page < 65536
  read_small = page_small found.0 w.parts (state w.device) found.1 page (read found.0 found.1)

  pub read_inside : 512 * page + 512 ≤ length (state w.device).now
  read_inside = page_inside found.0 w.parts (state w.device) found.1 page (read found.0 found.1)

  pub read_bytes : (bytes : List ℕ) → IsPageOf (state w.device).now page bytes → (d : Disk) → IsVolume d w.parts (state w.device) → bytes ≡
      page_bytes d
      page
  read_bytes bytes is d v = page_read d w.parts (state w.device) v page (read d v) bytes is

pub equal_pages : (x y a b : List ℕ) → x ≡ a → y ≡ b → (P : Type 0) → (P ↔ (x ≡ y)) → P ↔ (a ≡ b)
equal_pages x y a b p q P both = ((λ is. sym p ∙ both.0 is ∙ q), (λ same. both.1 (p ∙ same ∙ sym q)))
