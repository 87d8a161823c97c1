-- A cleaning is as far as it was, after an event that is not for its inode and its pages.
use Rattle.std.proofs.Common.{◌≡◌, ℕ, List, refl, sym, ◌∙◌, arith}
use Rattle.std.specs.Prelude.{Some, Contains}
use Rattle.pm_device.specs.State.{State}
use Rattle.pm_device.specs.Settled.{StoresOnly}
use Rattle.dn_model.specs.Disk.{Disk}
use Rattle.law_write.specs.Events.{IsUnused}
use Rattle.dn_volume.specs.declared.background.Cleaning.{Cleaning}
use Rattle.dn_volume.specs.declared.volume.Parts.{Parts}
use Rattle.dn_volume.specs.Parties.{for_cleaning}
use Rattle.dn_volume.specs.Cleans.{Cleans}
use Rattle.dn_volume.specs.Agrees.{IsVolume}
use Rattle.dn_volume.specs.Rely.{KeepsRest, IsWordOf}
use Rattle.dn_volume.proofs.CleaningStays.{cleaning_stays}

-- its pages are unused, and taken by reclaim
pub cleaning_taker : (d : Disk) (b : Parts) (s : State) (v : IsVolume d b s) (c : Cleaning) → b.reclaiming.cleaning ≡ Some c → (page : ℕ)
    → Contains c.pages.items page → v.space.taker page ≡ 16
cleaning_taker d b s v c is page has = v.space.takes 16 page (for_cleaning c refl is has)

pub cleaning_unused : (d : Disk) (b : Parts) (s : State) → IsVolume d b s → (c : Cleaning) → b.reclaiming.cleaning ≡ Some c → (page : ℕ)
    → Contains c.pages.items page → IsUnused d page
cleaning_unused d b s v c is page has = v.space.unused page (λ none. let his = cleaning_taker d b s v c is page has in omega (arith, his, none))

pub cleaning_kept : (inodes pages : List ℕ) (d e : Disk) (b b' : Parts) (s t : State) → IsVolume d b s → KeepsRest inodes pages d e
    → StoresOnly (IsWordOf inodes pages d) s t → b'.reclaiming.cleaning ≡ b.reclaiming.cleaning
    → ((c : Cleaning) → b.reclaiming.cleaning ≡ Some c → Contains inodes c.ino → ⊥)
    → ((c : Cleaning) → b.reclaiming.cleaning ≡ Some c → (page : ℕ) → Contains c.pages.items page → Contains pages page → ⊥) → Cleans e b' t
cleaning_kept inodes pages d e b b' s t v rest only same out out_pages c now =
    let is = sym same ∙ now in
    cleaning_stays inodes pages d e s t v.fast.valid rest only c (out c is) (cleaning_unused d b s v c is) (out_pages c is) (v.cleaning c is)
