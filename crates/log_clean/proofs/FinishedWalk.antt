-- The words of a device lead through the pages of each log; and the old log's pages, once given back, are as many more free ones.
use Rattle.std.proofs.Common.{◌≡◌, ◌≢◌, ℕ, zero, suc, ◌+◌, ◌-◌, ◌*◌, ◌/◌, ◌%◌, ◌<◌, List, length, refl, sym, ◌∙◌, ap, subst, arith}
use Rattle.std.specs.Prelude.{slice_index, Contains}
use Rattle.pm_device.specs.State.{State}
use Rattle.pm_layout.specs.declared.Geometry.{Geometry}
use Rattle.pm_layout.specs.Geometry.{inode_word}
use Rattle.dn_model.specs.Log.{Log, IsPaged, count, tail_at, at_tail, at_head, at_footer}
use Rattle.dn_model.specs.Disk.{Disk, IsUsed, of_logs}
use Rattle.law_write.specs.Events.{IsUnused}
use Rattle.dn_volume.specs.declared.volume.Parts.{Parts}
use Rattle.dn_volume.specs.Agrees.{IsVolume}
use Rattle.reclaim.specs.Walked.{LeadsThrough, CanGiveLog}
use Rattle.reclaim.proofs.LogWalk.{log_few}

slots_some : (log : Log) (g : Geometry) → IsPaged g log → 0 < length log.pages → 0 < count log
slots_some log g paged some = omega (arith, paged.fits, some)

tail_none : (pages : List ℕ) (n : ℕ) → n ≡ 0 → tail_at pages n ≡ 0
tail_none pages n none = ap (tail_at pages) none

tail_some : (pages : List ℕ) (n : ℕ) → 0 < n → tail_at pages n ≢ 0
tail_some pages zero some is = omega (arith, some)
tail_some pages (suc n) some is = omega (arith, is)

tail_page : (pages : List ℕ) (n : ℕ) → 0 < n → tail_at pages n / 64 ≡ slice_index pages ((n - 1) / 63)
tail_page pages zero some = absurd (omega (arith, some))
tail_page pages (suc n) some = by_page (slice_index pages (n / 63)) ∙ ap (λ (k : ℕ). slice_index pages (k / 63)) n_is
  where
    by_page : (p : ℕ) → (p * 64 + n % 63 + 1) / 64 ≡ p
    by_page p = omega arith

    n_is : n ≡ suc n - 1
    n_is = omega arith

module _ (d : Disk) (b : Parts) (s : State) (v : IsVolume d b s) (ino : ℕ) (in_table : ino < d.geometry.inodes)
    (used : IsUsed (d.inode ino).use_of) where
  abbrev log : Log
  log = (d.inode ino).log

  paged : IsPaged d.geometry log
  paged = (v.fast.valid.logs ino in_table used).paged

  tail_reads : slice_index s.now (inode_word ino 2) ≡ tail_at log.pages (count log)
  tail_reads = v.fast.stands.reads _ _ (of_logs (record { ino = ino; in_table = in_table; used = used; says = at_tail refl refl }))

  many : 0 < length log.pages → 0 < count log
  many some = slots_some log d.geometry paged some

  none_of : length log.pages ≡ 0 → count log ≡ 0
  none_of none = omega (arith, paged.fits, none)

  last_of : 0 < length log.pages → (count log - 1) / 63 ≡ length log.pages - 1
  last_of some = omega (arith, paged.fits, many some)

  inside : (k : ℕ) → k < length log.pages → slice_index log.pages k < d.geometry.pages
  inside k lt = (paged.in_data k lt).high

  leads : LeadsThrough s.now d.geometry ino log.pages
  leads = record {
    none = λ none. tail_reads ∙ tail_none log.pages (count log) (none_of none);
    some = λ some zero. tail_some log.pages (count log) (many some) (sym tail_reads ∙ zero);
    last = λ some. ap (λ (t : ℕ). t / 64) tail_reads ∙ tail_page log.pages (count log) (many some) ∙ ap (slice_index log.pages) (last_of some);
    head = λ some. v.fast.stands.reads _ _ (of_logs (record { ino = ino; in_table = in_table; used = used; says = at_head (many some) refl refl }));
    footer = λ k lt. v.fast.stands.reads _ _ (of_logs (record { ino = ino; in_table = in_table; used = used; says = at_footer k lt refl refl }));
    apart = λ i j il jl same. paged.apart i j il jl same;
    inside = inside;
    few = log_few d.geometry log paged;
  }

  pub used_leads : LeadsThrough s.now b.geometry ino log.pages
  used_leads = subst (λ (g : Geometry). LeadsThrough s.now g ino log.pages) v.fast.geometry leads

  pub old_used : (page : ℕ) → Contains log.pages page → IsUnused d page → ⊥
  old_used page listed unused = unused.free.in_no_log (record { ino = ino; in_table = in_table; used = used; listed = listed })

  pub used_can_give : CanGiveLog s.now b.geometry ino b.free
  used_can_give = record {
    pages = log.pages;
    leads = used_leads;
    taken = λ page listed free. old_used page listed ((v.space.free page).0 free).0;
    in_order = v.space.in_order;
    size = v.space.pages ∙ ap (λ (g : Geometry). g.pages) v.fast.geometry;
  }
