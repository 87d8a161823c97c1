-- What a cleaning has taken while operations come and go, and the pages that are left beside an operation.
use Rattle.std.proofs.Common.{inl, inr, ⊎_elim, ℕ, ◌-◌, ◌≤◌, arith, Option}
use Rattle.std.specs.Prelude.{Contains}
use Rattle.pm_device.specs.State.{State}
use Rattle.dn_model.specs.Disk.{Disk}
use Rattle.law_write.specs.Events.{IsUnused}
use Rattle.dn_volume.specs.declared.flight.Flight.{Flight}
use Rattle.dn_volume.specs.declared.volume.Parts.{Parts}
use Rattle.dn_volume.specs.Parties.{Flies, Takes, for_client, taken_by}
use Rattle.dn_volume.specs.Cleans.{IsLeft}
use Rattle.dn_volume.specs.Replaces.{Replaces}
use Rattle.dn_volume.specs.Agrees.{IsVolume}
use Rattle.dn_volume.proofs.Replaced.{client_few, taken_before}

-- what a cleaning has taken stays taken where an operation begins, goes on or ends
pub cleaning_takes : (who : ℕ) → 1 ≤ who → (old new : Option Flight) (b b' : Parts) → Replaces (who - 1) old new b b'
    → (page : ℕ) → Takes b 16 page → Takes b' 16 page
cleaning_takes who client old new b b' r page takes =
    ⊎_elim (λ own. let small = r.place in let him = own.0 in absurd (omega (arith, him, small))) (λ other. other.1)
    (taken_before who client old new b b' r 16 page takes)

-- a page that is left is unused, and no operation has taken it
pub left_unused : (d : Disk) (b : Parts) (s : State) → IsVolume d b s → (who : ℕ) (f : Flight) → Flies b who f → (page : ℕ) → IsLeft b page
    → IsUnused d page × (Contains (taken_by f) page → ⊥)
left_unused d b s v who f flies page (inl has) =
    let was = (v.space.free page).0 has in let none = was.1 in
    (was.0, λ took. let his = v.space.takes who page (for_client f flies took) in let some = flies.client in omega (arith, none, his, some))
left_unused d b s v who f flies page (inr takes) =
    let its = v.space.takes 16 page takes in (
      v.space.unused page (λ none. omega (arith, its, none)),
      λ took. let his = v.space.takes who page (for_client f flies took) in let few = client_few b who f v.flights.clients flies in
          omega (arith, its, his, few),
    )
