-- The index of a file after a cut.
use Rattle.std.proofs.Common.{◌≡◌, ◌≢◌, ⊎_elim, ℕ, ◌+◌, ◌/◌, ◌≤◌, List, [], ◌∷◌, ◌++◌, length, sym, ◌∙◌, ap, arith}
use Rattle.std.specs.Prelude.{slice_get, slice_index, Some}
use Rattle.std.specs.Ordering.{nat_cmp}
use Rattle.pm_layout.specs.declared.Geometry.{Geometry}
use Rattle.file_index.specs.Index.{Index, Puts, CutsOff}
use Rattle.file_index.specs.declared.page_map.Mapping.{Mapping}
use Rattle.dn_model.specs.Log.{Log, IsPaged, count, tail_at, slot_name}
use Rattle.dn_volume.specs.declared.flight.DataChange.{DataChange}
use Rattle.dn_volume.specs.Planned.{gone_from}
use Rattle.size_ops.specs.Ending.{CutsMap}

-- where a place is filled anew, the places from it on go
pub from_first : (size first : ℕ) (blocks : List ℕ) → 1 ≤ length blocks → first ≡ size / 4096 → gone_from size blocks ≡ first
from_first size first [] some is = absurd (omega (arith, some))
from_first size first (x ∷ xs) some is = sym is

some_blocks : (blocks : List ℕ) → 1 ≤ length blocks → blocks ≡ [] → ⊥
some_blocks blocks some none = let same = ap length none in omega (arith, some, same)

-- the places are cut, and the one that is filled anew is mapped
pub map_refilled : (c : DataChange) (tail : ℕ) (fresh : List ℕ) (old mid new : Index nat_cmp Mapping) (from block slot : ℕ)
    → from ≡ gone_from c.size c.blocks.items → CutsOff from old mid → Puts c.first (record { block = block; slot = slot; bit = 0 }) mid new
    → 1 ≤ length c.blocks.items → block ≡ slice_index c.blocks.items 0 → c.first ≡ c.size / 4096
    → ((g : Geometry) (log : Log) → IsPaged g log → tail ≡ tail_at log.pages (count log) → slot ≡ slot_name (log.pages ++ fresh) (count log + 0))
    → CutsMap c tail fresh old.map new.map
map_refilled c tail fresh old mid new from block slot from_is cut put some block_is first_is slot_is =
    let starts = from_first c.size c.first c.blocks.items some first_is in
    record {
      kept = λ idx lt. put.others idx (λ e. omega (arith, e, lt, starts)) ∙ cut.below idx (omega (arith, lt, from_is));
      gone = λ idx past out. put.others idx (λ e. ⊎_elim (some_blocks c.blocks.items some) (λ (ne : idx ≢ c.first). ne e) out)
          ∙ cut.gone idx (omega (arith, past, from_is));
      anew = λ one g log paged is. put.there ∙ ap (λ (b : ℕ). Some (record { block = b; slot = slot; bit = 0 })) block_is ∙ ap
          (λ (s : ℕ). Some (record { block = slice_index c.blocks.items 0; slot = s; bit = 0 })) (slot_is g log paged is);
    }

pub first_read : (xs : List ℕ) (x : ℕ) → Some x ≡ slice_get xs 0 → x ≡ slice_index xs 0
first_read [] x e = absurd (cc)
first_read (y ∷ ys) x e = same x y e
  where
    same : (x y : ℕ) → Some x ≡ Some y → x ≡ y
    same x y e = cc
