-- One page more is filled.
use Rattle.std.proofs.Common.{◌≡◌, ◌≢◌, inl, inr, ℕ, ◌+◌, ◌*◌, ◌/◌, ◌%◌, ◌<◌, ◌≤◌, List, length, ◌∙◌, ap, subst, arith}
use Rattle.std.specs.Prelude.{slice_index}
use Rattle.std.specs.Ordering.{nat_cmp}
use Rattle.std.specs.FinMap.{FinMap}
use Rattle.std.proofs.lemmas.Bool.{cases_lt}
use Rattle.pm_device.specs.State.{State}
use Rattle.pm_device.specs.Settled.{StoresOnly, KeepsFlushed, Anyone}
use Rattle.pm_device.specs.Reading.{Stands}
use Rattle.pm_device.specs.Pages.{IsInPage}
use Rattle.pm_device.proofs.Only.{stores_only-then, stores_only-weaken}
use Rattle.pm_device.proofs.Flushed.{keeps-then, keeps-weaken}
use Rattle.pm_device.proofs.OneWord.{stands-stores}
use Rattle.pm_layout.specs.declared.Geometry.{Geometry}
use Rattle.page_bytes.specs.Bytes.{word_byte}
use Rattle.file_index.specs.declared.page_map.Mapping.{Mapping}
use Rattle.dn_model.specs.Disk.{Disk, DiskSays}
use Rattle.dn_model.specs.Files.{bytes}
use Rattle.dn_model.specs.Valid.{IsValid}
use Rattle.law_write.specs.Events.{IsUnused}
use Rattle.law_write.proofs.Unread.{unused_unsaid}
use Rattle.file_content.specs.Content.{IsFileOf, IsFilledBy, merged_byte}
use Rattle.file_content.specs.Pages.{IsInPages, AreApart, FillsPlace}
use Rattle.file_content.specs.FillLoop.{FillsTo}
use Rattle.file_content.proofs.Filling.{filled-whole}

-- a page stays filled while another one is stored to
pub filled-stores : (who : ℕ) (s t : State) (block page : ℕ) (byte : ℕ → ℕ) → block ≢ page → 512 * block + 512 ≤ length s.now
    → StoresOnly (IsInPage page) s t → KeepsFlushed Anyone (IsInPage page) s t → IsFilledBy who s block byte → IsFilledBy who t block byte
filled-stores who s t block page byte differ inside only keeps filled = record {
  bytes_are = λ k lt. ap (λ (w : ℕ). word_byte w (k % 8)) (only.read (512 * block + k / 8) (out (k / 8) (omega (arith, lt)))) ∙ filled.bytes_are k lt;
  flushed = λ k lt. keeps.flushed who (512 * block + k) tt (out k lt) (omega (arith, lt, inside)) (filled.flushed k lt);
}
  where
    out : (k : ℕ) → k < 512 → IsInPage page (512 * block + k) → ⊥
    out k lt here = elim (cases_lt block page) [
      | inl low ↦ omega (arith, lt, here.0, low)
      | inr high ↦ differ (omega (arith, lt, here.1, high))
    ]

module _ (g : Geometry) (who : ℕ) (map : FinMap nat_cmp Mapping) (size first at : ℕ) (text pages : List ℕ) where
  -- a disk that uses none of the pages stands while they are stored to
  pub still_stands : (d : Disk) → IsValid d → ((i : ℕ) → i < length pages → IsUnused d (slice_index pages i)) → (s t : State)
      → StoresOnly (IsInPages pages) s t → Stands (DiskSays d) s → Stands (DiskSays d) t
  still_stands d valid unused s t only stands =
      stands-stores (IsInPages pages) s t only (DiskSays d) (λ a v says here. unused_unsaid d valid (slice_index pages here.i)
      (unused here.i here.below) a v here.in_page says) stands

  module _ (n : ℕ) (s t u : State) (lt : n < length pages) (to : FillsTo g who map size first at text pages n s t)
      (only : StoresOnly (IsInPage (slice_index pages n)) t u) (long : length s.now ≡ 512 * g.pages) where
    wider : (a : ℕ) → IsInPage (slice_index pages n) a → IsInPages pages a
    wider a here = record { i = n; below = lt; in_page = here }

    -- one page more
    pub fills-next : AreApart pages → KeepsFlushed Anyone (IsInPage (slice_index pages n)) t u → t.spare ≤ u.spare + 576 → t.faults ≤ u.faults
        → FillsPlace g who map size (first + n) at text (slice_index pages n) t u → FillsTo g who map size first at text pages (n + 1) s u
    fills-next apart keeps spare faults fills = record {
      pages_are = record {
        filled = λ d ino is valid same stands unused i below. elim (cases_lt i n) [
          | inl low ↦ filled-stores who t u (slice_index pages i) (slice_index pages n)
              (λ k. merged_byte (bytes d ino) at text (4096 * (first + i) + k))
              (λ e. omega (arith, low, apart i n (omega (arith, low, lt)) lt e))
              (omega (arith, (unused i (omega (arith, low, lt))).free.data_page.high, ap (λ (h : Geometry). h.pages) same, long, to.only.words)) only
              keeps (to.pages_are.filled d ino is valid same stands unused i low)
          | inr high ↦
              let here : n ≡ i = omega (arith, below, high) in
              subst (λ (j : ℕ). IsFilledBy who u (slice_index pages j) (λ k. merged_byte (bytes d ino) at text (4096 * (first + j) + k))) here
              (filled-whole d ino size map is u who (slice_index pages n) (first + n) at text (fills d ino size is (omega arith) valid same
              (still_stands d valid unused s t to.only stands)))
        ];
      };
      only = stores_only-then (IsInPages pages) s t u to.only (stores_only-weaken (IsInPage (slice_index pages n)) (IsInPages pages) t u wider only);
      keeps = keeps-then Anyone (IsInPages pages) s t u to.keeps (keeps-weaken Anyone Anyone (IsInPage (slice_index pages n)) (IsInPages pages) t u
          (λ q anyone. anyone) wider keeps);
      spare = omega (arith, spare, to.spare);
      faults = omega (arith, faults, to.faults);
    }
