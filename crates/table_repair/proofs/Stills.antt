-- A device that was still is still once the table is settled.
use Rattle.std.proofs.Common.{◌≡◌, inl, inr, ℕ, ◌+◌, ◌*◌, ◌-◌, ◌<◌, length, refl, sym, ◌∙◌, ap, arith}
use Rattle.std.proofs.lemmas.Bool.{cases_lt}
use Rattle.pm_device.specs.State.{State}
use Rattle.pm_device.specs.Settled.{IsSettled, Still, StoresOnly, SettlesAll}
use Rattle.pm_device.specs.Reading.{Stands}
use Rattle.pm_device.proofs.Calls.{settled_is_flushed}
use Rattle.pm_device.proofs.Layers.{settled-stores}
use Rattle.pm_layout.specs.declared.Geometry.{Geometry}
use Rattle.pm_layout.specs.Geometry.{pointer_word, pointer_page}
use Rattle.dn_model.specs.Disk.{Disk, DiskSays, of_pointers}
use Rattle.fact_changes.specs.Stale.{IsStaleWord}

-- all that was settled is
pub settles_still : (who : ℕ) (s t : State) → SettlesAll who s t → Still s → Still t
settles_still who s t all still a lt =
    let before : a < length s.now = omega (arith, lt, all.words) in all.own a before (settled_is_flushed s who a (still a before))

-- the pointers of the new disk stand, and nothing else was stored to
module _ (e f : Disk) (same : f.geometry ≡ e.geometry) (s u : State) (stores : StoresOnly (IsStaleWord e) s u) (stands : Stands (DiskSays f) u) where
  abbrev base : ℕ
  base = 512 * pointer_page e.geometry

  at_base : (page : ℕ) → pointer_word e.geometry page ≡ base + page
  unfolding pointer_word
  at_base page = refl

  kept : (a : ℕ) → (IsStaleWord e a → ⊥) → a < length u.now → Still s → IsSettled u a
  kept a not lt still = settled-stores (IsStaleWord e) s u a stores not (still a (omega (arith, lt, stores.words)))

  pub tidy_still : Still s → Still u
  tidy_still still a lt = elim (cases_lt a base) [
    | inl low ↦ kept a (λ w. omega (arith, low, w.place, at_base w.page)) lt still
    | inr high ↦ elim (cases_lt (a - base) e.geometry.pages) [
      | inl in_image ↦ stands.settled a (f.pointer (a - base)) (of_pointers (record {
        page = a - base;
        in_image = omega (arith, in_image, ap (λ (g : Geometry). g.pages) same);
        place = omega (arith, high, at_base (a - base)) ∙ ap (λ (g : Geometry). pointer_word g (a - base)) (sym same);
        value = refl;
      }))
      | inr past ↦ kept a (λ w. omega (arith, past, high, w.place, at_base w.page, w.stale.in_image)) lt still
    ]
  ]
