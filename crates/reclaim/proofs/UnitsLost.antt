-- One place of a dying inode is gone: how many are left, and the units of work.
use Rattle.std.proofs.Common.{◌≡◌, ◌≢◌, ℕ, ◌+◌, ◌*◌, ◌<◌, ◌≤◌, ◌∙◌, ap, arith}
use Rattle.std.specs.Prelude.{Option, Some, None, is_some, if◌then◌else◌}
use Rattle.dn_model.specs.Maps.{Mapping}
use Rattle.dn_model.specs.Disk.{Disk, Use, Free, Dying, maps}
use Rattle.dn_model.specs.Counts.{total}
use Rattle.law_write.proofs.Counting.{total-same, total-change, total-zero, term-le}
use Rattle.dn_volume.specs.Reclaims.{mapped_places, units_by_use, dying_units}

abbrev one_some : Option Mapping → ℕ
one_some m = if is_some m then 1 else 0

-- where each place of an inode stays mapped or not
pub places_same : (d e : Disk) (ino : ℕ) → ((idx : ℕ) → maps e ino idx ≡ maps d ino idx) → mapped_places e ino ≡ mapped_places d ino
unfolding mapped_places
places_same d e ino same = total-same (λ idx. one_some (maps d ino idx)) (λ idx. one_some (maps e ino idx)) 4096
    (λ idx lt. ap one_some (same idx))

-- where one goes
pub places_less : (d e : Disk) (ino place : ℕ) (m : Mapping) → place < 4096 → maps d ino place ≡ Some m → maps e ino place ≡ None
    → ((idx : ℕ) → idx ≢ place → maps e ino idx ≡ maps d ino idx)
    → mapped_places e ino + 1 ≡ mapped_places d ino
unfolding mapped_places
places_less d e ino place m lt mapped gone same =
    let moved = total-change (λ idx. one_some (maps d ino idx)) (λ idx. one_some (maps e ino idx)) 4096 place lt
    (λ idx ne. ap one_some (same idx ne)) in
    let here : one_some (maps d ino place) ≡ 1 = ap one_some mapped in
    let there : one_some (maps e ino place) ≡ 0 = ap one_some gone in
    omega (arith, moved, here, there)

pub units_dying : (d : Disk) (ino cut : ℕ) → (d.inode ino).use_of ≡ Dying cut → dying_units d ino ≡ 1 + 4 * mapped_places d ino
units_dying d ino cut dying = ap (λ (u : Use). units_by_use u (mapped_places d ino)) dying

pub units_free : (d : Disk) (ino : ℕ) → (d.inode ino).use_of ≡ Free → dying_units d ino ≡ 0
units_free d ino free = ap (λ (u : Use). units_by_use u (mapped_places d ino)) free

module _ (d e : Disk) (ino : ℕ) (in_table : ino < d.geometry.inodes) (inodes : e.geometry.inodes ≡ d.geometry.inodes) (others : (i : ℕ) → i ≢ ino
    → (e.inode i).use_of ≡ (d.inode i).use_of)
    (maps_others : (i idx : ℕ) → i ≢ ino → maps e i idx ≡ maps d i idx) where
  units_other : (i : ℕ) → i ≢ ino → dying_units e i ≡ dying_units d i
  units_other i ne = ap (λ (u : Use). units_by_use u (mapped_places e i)) (others i ne) ∙ ap (units_by_use (d.inode i).use_of)
      (places_same d e i (λ idx. maps_others i idx ne))

  -- the units move by those of the inode
  pub units_move : total e.geometry.inodes (dying_units e) + dying_units d ino ≡ total d.geometry.inodes (dying_units d) + dying_units e ino
  units_move = ap (λ (n : ℕ). total n (dying_units e) + dying_units d ino) inodes ∙ total-change (dying_units d) (dying_units e) d.geometry.inodes ino
      in_table units_other

-- those of one inode are among all
pub units_some : (d : Disk) (ino : ℕ) → ino < d.geometry.inodes → dying_units d ino ≤ total d.geometry.inodes (dying_units d)
units_some d ino lt = term-le (dying_units d) d.geometry.inodes ino lt

-- some place is mapped
pub places_some : (d : Disk) (ino place : ℕ) (m : Mapping) → place < 4096 → maps d ino place ≡ Some m → 1 ≤ mapped_places d ino
unfolding mapped_places
places_some d ino place m lt mapped =
    let term = term-le (λ idx. one_some (maps d ino idx)) 4096 place lt in
    let here : one_some (maps d ino place) ≡ 1 = ap one_some mapped in
    omega (arith, term, here)

-- none is
pub no_places : (d : Disk) (ino : ℕ) → ((idx : ℕ) → maps d ino idx ≡ None) → mapped_places d ino ≡ 0
unfolding mapped_places
no_places d ino none = total-zero (λ idx. one_some (maps d ino idx)) 4096 (λ idx lt. ap one_some (none idx))
