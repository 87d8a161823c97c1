-- The pages that are in use, where no page is taken into use.
use Rattle.std.proofs.Common.{◌≡◌, ◌≤◌, length, ap, arith, Option}
use Rattle.dn_volume.specs.declared.background.Cleaning.{Cleaning}
use Rattle.dn_volume.specs.declared.volume.Parts.{Parts}
use Rattle.dn_volume.specs.Works.{taken_to_clean, used_pages}

-- no fewer pages are free
pub used_less : (b b' : Parts) → b'.free.pages ≡ b.free.pages → length b.free.free ≤ length b'.free.free
    → b'.reclaiming.cleaning ≡ b.reclaiming.cleaning → used_pages b' ≤ used_pages b
used_less b b' pages more cleaning =
    let taken : taken_to_clean b'.reclaiming.cleaning ≡ taken_to_clean b.reclaiming.cleaning = ap (λ (c : Option Cleaning). taken_to_clean c) cleaning in
    omega (arith, pages, more, taken)

-- the same pages are free
pub used_same : (b b' : Parts) → b'.free ≡ b.free → b'.reclaiming.cleaning ≡ b.reclaiming.cleaning → used_pages b' ≤ used_pages b
used_same b b' free cleaning =
    let long : length b'.free.free ≡ length b.free.free = ap (λ (f : _). length f.free) free in
    used_less b b' (ap (λ (f : _). f.pages) free) (omega (arith, long)) cleaning
