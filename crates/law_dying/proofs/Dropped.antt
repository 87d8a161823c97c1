-- A dying inode that maps less: mappings, log pages and free pages.
use Rattle.std.proofs.Common.{◌≡◌, ◌≢◌, ◌⊎◌, inl, inr, ℕ, ◌<◌, ◌≤◌, refl, sym, ◌∙◌, ap, subst, arith}
use Rattle.std.specs.Prelude.{Contains, Option, Some, None}
use Rattle.std.proofs.lemmas.Bool.{cases_eq}
use Rattle.pm_layout.specs.declared.Geometry.{Geometry}
use Rattle.pm_layout.specs.Geometry.{InData}
use Rattle.dn_model.specs.Maps.{Mapping}
use Rattle.dn_model.specs.Disk.{Disk, Inode, Live, Dying, IsUsed, IsMapped, maps, maps_by_use}
use Rattle.dn_model.specs.Counts.{total, hit, mappings, IsLogPage, IsFree, Near}
use Rattle.dn_model.specs.Valid.{IsCut, IsValid}
use Rattle.law_write.proofs.Counting.{total-le}
use Rattle.law_dying.specs.Dying.{Step, use_after, stepped}
use Rattle.law_dying.proofs.Stepped.{at_ino, at_other, same_geometry}

-- what both steps stand on
pub record MayStep (d : Disk) (ino : ℕ) (step : Step) : Type 0 where
  pub valid : IsValid d
  pub in_table : ino < d.geometry.inodes
  pub before : ℕ
  pub dying : (d.inode ino).use_of ≡ Dying before
  pub small : IsCut (use_after step)
  pub less : (idx : ℕ) (m : Mapping) → maps_by_use (use_after step) (d.inode ino).log idx ≡ Some m → maps d ino idx ≡ Some m
  pub near : Near (stepped d ino step)

dying_live : (c : ℕ) → Dying c ≡ Live → ⊥
dying_live c e = cc

module _ (d : Disk) (ino : ℕ) (step : Step) (may : MayStep d ino step) where
  abbrev new : Disk
  new = stepped d ino step

  pub was_used : IsUsed (d.inode ino).use_of
  was_used = subst IsUsed (sym may.dying) tt

  -- it isn't the root
  pub file : 1 ≤ ino
  file = elim (cases_eq ino 0) [
    | inl e ↦ absurd (dying_live may.before (sym may.dying ∙ ap (λ (i : ℕ). (d.inode i).use_of) e ∙ may.valid.root))
    | inr ne ↦ omega (arith, ne)
  ]

  pub below : (i : ℕ) → i < new.geometry.inodes → i < d.geometry.inodes
  below i lt = omega (arith, lt, ap (λ (g : Geometry). g.inodes) (same_geometry d ino step))

  pub above : (i : ℕ) → i < d.geometry.inodes → i < new.geometry.inodes
  above i lt = omega (arith, lt, ap (λ (g : Geometry). g.inodes) (same_geometry d ino step))

  pub maps_others : (i idx : ℕ) → i ≢ ino → maps new i idx ≡ maps d i idx
  unfolding maps
  maps_others i idx ne = ap (λ (n : Inode). maps_by_use n.use_of n.log idx) (at_other d ino step i ne)

  pub maps_here : (idx : ℕ) → maps new ino idx ≡ maps_by_use (use_after step) (d.inode ino).log idx
  unfolding maps
  maps_here idx = ap (λ (n : Inode). maps_by_use n.use_of n.log idx) (at_ino d ino step)

  -- a mapping was one
  pub maps_only : (i idx : ℕ) (m : Mapping) → maps new i idx ≡ Some m → maps d i idx ≡ Some m
  maps_only i idx m is = elim (cases_eq i ino) [
    | inl e ↦ ap (λ (j : ℕ). maps d j idx) e ∙ may.less idx m (sym (maps_here idx) ∙ ap (λ (j : ℕ). maps new j idx) (sym e) ∙ is)
    | inr ne ↦ sym (maps_others i idx ne) ∙ is
  ]

  pub mapped_only : (page : ℕ) → IsMapped new page → IsMapped d page
  mapped_only page m =
      let to = m.maps_to in
      record {
        ino = m.ino;
        idx = m.idx;
        maps_to = record {
          in_table = below m.ino to.in_table;
          in_file = to.in_file;
          by = to.by;
          is = maps_only m.ino
              m.idx to.by to.is;
          block = to.block;
        };
      }

  hit-le : (page : ℕ) (a b : Option Mapping) → ((m : Mapping) → a ≡ Some m → b ≡ Some m) → hit page a ≤ hit page b
  hit-le page None b only = omega arith
  hit-le page (Some m) b only = let same : hit page b ≡ hit page (Some m) = ap (hit page) (only m refl) in omega (arith, same)

  pub mappings-le : (page : ℕ) → mappings new page ≤ mappings d page
  unfolding mappings
  mappings-le page = same_inodes _ _ _ (ap (λ (g : Geometry). total g.inodes (λ i. total 4096 (λ idx. hit page (maps new i idx))))
      (same_geometry d ino step))
      (total-le (λ i. total 4096 (λ idx. hit page (maps d i idx))) (λ i. total 4096 (λ idx. hit page (maps new i idx))) d.geometry.inodes
      (λ i lt. total-le (λ idx. hit page (maps d i idx)) (λ idx. hit page (maps new i idx)) 4096
      (λ idx small. hit-le page (maps new i idx) (maps d i idx) (maps_only i idx))))
    where
      same_inodes : (a b c : ℕ) → a ≡ b → b ≤ c → a ≤ c
      same_inodes a b c e le = omega arith

  log_page_at : (page : ℕ) (p : IsLogPage new page) → (p.ino ≡ ino) ⊎ (p.ino ≢ ino) → IsLogPage d page
  log_page_at page p (inl e) = record {
    ino = ino;
    in_table = may.in_table;
    used = was_used;
    listed = subst (λ (n : Inode). Contains n.log.pages page) (ap new.inode e ∙ at_ino d ino step) p.listed;
  }
  log_page_at page p (inr ne) = record {
    ino = p.ino;
    in_table = below p.ino p.in_table;
    used = subst (λ (n : Inode). IsUsed n.use_of) (at_other d ino step p.ino ne) p.used;
    listed = subst (λ (n : Inode). Contains n.log.pages page) (at_other d ino step p.ino ne) p.listed;
  }

  pub log_page_only : (page : ℕ) → IsLogPage new page → IsLogPage d page
  log_page_only page p = log_page_at page p (cases_eq p.ino ino)

  -- a log page that isn't the inode's stays one
  pub log_page_other : (page : ℕ) (p : IsLogPage d page) → p.ino ≢ ino → IsLogPage new page
  log_page_other page p ne = record {
    ino = p.ino;
    in_table = above p.ino p.in_table;
    used = subst (λ (n : Inode). IsUsed n.use_of) (sym (at_other d ino step p.ino ne)) p.used;
    listed = subst (λ (n : Inode). Contains n.log.pages page) (sym (at_other d ino step p.ino ne)) p.listed;
  }

  pub to_new : (page : ℕ) → InData d.geometry page → InData new.geometry page
  to_new page = subst (λ (g : Geometry). InData g page) (sym (same_geometry d ino step))

  pub free_kept : (page : ℕ) → IsFree d page → IsFree new page
  free_kept page free = record {
    data_page = to_new page free.data_page;
    in_no_log = λ p. free.in_no_log (log_page_only page p);
    unmapped = omega (arith, mappings-le page, free.unmapped);
  }
