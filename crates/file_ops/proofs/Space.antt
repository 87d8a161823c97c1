-- The free pages, and those that are taken, once a flight is ended.
use Rattle.std.proofs.Common.{◌≡◌, inl, inr, ⊎_elim, ℕ, ◌-◌, ◌<◌, List, [], sym, ◌∙◌, ap, subst, arith, Some, None}
use Rattle.std.specs.Prelude.{Contains}
use Rattle.std.proofs.lemmas.Bool.{cases_eq}
use Rattle.std.proofs.lemmas.List.{get_or_default}
use Rattle.std.proofs.lemmas.List.Elements.{Contains-get_or}
use Rattle.dn_model.specs.Disk.{Disk}
use Rattle.law_write.specs.Events.{IsUnused}
use Rattle.file_content.specs.Pages.{AreApart}
use Rattle.dn_volume.specs.declared.flight.Flight.{Flight}
use Rattle.dn_volume.specs.declared.flight.Change.TheVariants.{Data}
use Rattle.dn_volume.specs.declared.flight.DataChange.{DataChange}
use Rattle.dn_volume.specs.declared.volume.Parts.{Parts}
use Rattle.dn_volume.specs.Parties.{Flies, for_client, taken_by}
use Rattle.dn_volume.specs.Space.{HasSpace}
use Rattle.dn_volume.specs.Replaces.{Replaces}
use Rattle.dn_volume.proofs.Lefts.{left_more}
use Rattle.dn_volume.proofs.Taken.{contains_or_not, taker_then, taker_gone, taker_kept, space_moved}
use Rattle.begin_steps.proofs.Cleanings.{cleaning_takes}
use Rattle.file_ops.specs.Ends.{ChangesData, IsFreed, GivesPages}
use Rattle.file_ops.proofs.Freed.{unused_kept, unused_only, freed_unused, freed_mapped, block_used, fresh_used}
use Rattle.file_ops.proofs.Taken.{fresh_taken, spare_taken, block_taken, taken_cases, fresh_not_spare, spare_no_block}

module _ (d e : Disk) (b b' : Parts) (who : ℕ) (f : Flight) (c : DataChange) (from n : ℕ) (space : HasSpace d b) (flies : Flies b who f)
    (kind : f.change ≡ Data c) (apart : AreApart (taken_by f))
    (disk : ChangesData d e f c from n) (ended : Replaces (who - 1) (Some f) None b b') (gives : GivesPages d f from n b b') where
  -- the event's pages are the flight's
  pub block_listed : (i : ℕ) → i < disk.event.n → Contains c.blocks.items (disk.event.blocks i)
  block_listed i lt = subst (Contains c.blocks.items) (sym (disk.blocks i lt)) (Contains-get_or c.blocks.items i 0 (omega (arith, lt, disk.places)))

  pub listed_block : (page : ℕ) → Contains c.blocks.items page → (i : ℕ) × (i < disk.event.n) × (disk.event.blocks i ≡ page)
  listed_block page has =
      let lt : has.0 < disk.event.n = omega (arith, has.1, disk.places) in
      (has.0, lt, disk.blocks has.0 lt ∙ get_or_default c.blocks.items has.0 0 page has.1 ∙ has.2)

  taken_his : (page : ℕ) → Contains (taken_by f) page → space.taker page ≡ who
  taken_his page has = space.takes who page (for_client f flies has)

  pub taken_unused : (page : ℕ) → Contains (taken_by f) page → IsUnused d page
  taken_unused page has = space.unused page (λ none. let his = taken_his page has in let some = flies.client in omega (arith, his, none, some))

  -- a page that he hasn't taken is unused still
  stays : (page : ℕ) → IsUnused d page → (Contains c.blocks.items page → ⊥) → (Contains f.fresh.items page → ⊥) → IsUnused e page
  stays page unused no_block not_fresh = unused_kept f.ino d e disk.event disk.well from n disk.drops page unused
      (λ i lt same. no_block (subst (Contains c.blocks.items) same (block_listed i lt)))
      (λ fresh. not_fresh (subst (λ (ps : List ℕ). Contains ps page) disk.takes fresh))

  -- he has taken nothing any more; another page has the taker that it had
  no_page : (page : ℕ) → Contains [] page → ⊥
  no_page page none = omega (arith, none.1)

  abbrev taken : ℕ → ℕ
  taken page = taker_then who flies.client (Some f) None b b' ended d space page

  taken-mine : (page : ℕ) → Contains (taken_by f) page → taken page ≡ 0
  taken-mine page has = taker_gone who flies.client (Some f) None b b' ended d space page (no_page page) has

  taken-other : (page : ℕ) → (Contains (taken_by f) page → ⊥) → taken page ≡ space.taker page
  taken-other page none = taker_kept who flies.client (Some f) None b b' ended d space page (no_page page) none

  others_stay : (page : ℕ) → (Contains (taken_by f) page → ⊥) → IsUnused d page → IsUnused e page
  others_stay page none unused = stays page unused (λ block. none (block_taken f c kind page block)) (λ fresh. none (fresh_taken f c kind page fresh))

  not_mine : (page : ℕ) → space.taker page ≡ 0 → Contains (taken_by f) page → ⊥
  not_mine page nobody has = let his = taken_his page has in let some = flies.client in omega (arith, nobody, his, some)

  free_then : (page : ℕ) → Contains b'.free.free page → IsUnused e page × (taken page ≡ 0)
  free_then page there = ⊎_elim
      (λ (was : Contains b.free.free page).
      let before = (space.free page).0 was in
      let other = not_mine page before.1 in (others_stay page other before.0, taken-other page other ∙ before.1))
      (λ came. ⊎_elim
      (λ (spare : Contains f.spare.items page).
      let his = spare_taken f c kind page spare in (
        stays page (taken_unused page his) (spare_no_block f c kind apart page spare) (λ fresh. fresh_not_spare f c kind apart page fresh spare),
        taken-mine page his,
      ))
      (λ (freed : IsFreed d f.ino from n page). elim (cases_eq (space.taker page) 0) [
        | inl none ↦ (freed_unused f.ino d e disk.event disk.well from n disk.drops page freed, taken-other page (not_mine page none) ∙ none)
        | inr some ↦ absurd (freed_mapped f.ino d e disk.event disk.well from n disk.drops page freed (space.unused page some))
      ]) came)
      ((gives.free page).0 there)

  then_free : (page : ℕ) → IsUnused e page × (taken page ≡ 0) → Contains b'.free.free page
  then_free page is = elim (contains_or_not page (taken_by f)) [
    | inl has ↦
        ⊎_elim
        (λ (fresh : Contains f.fresh.items page). absurd (fresh_used f.ino d e disk.event disk.well from n disk.drops page
        (subst (λ (ps : List ℕ). Contains ps page) (sym disk.takes) fresh) is.0))
        (λ rest. ⊎_elim (λ (spare : Contains f.spare.items page). (gives.free page).1 (inr (inl spare)))
        (λ (block : Contains c.blocks.items page).
        let by = listed_block page block in
        absurd (block_used f.ino d e disk.event disk.well from n disk.drops by.0 by.1 (subst (IsUnused e) (sym by.2) is.0))) rest)
        (taken_cases f c kind page has)
    | inr none ↦
        let nobody : space.taker page ≡ 0 = sym (taken-other page none) ∙ is.1 in
        ⊎_elim (λ (was : IsUnused d page). (gives.free page).1 (inl ((space.free page).1 (was, nobody))))
        (λ (freed : IsFreed d f.ino from n page). (gives.free page).1 (inr (inr freed))) (unused_only f.ino d e disk.event disk.well from n disk.drops
        page is.0)
  ]

  pub space_after : HasSpace e b'
  space_after = space_moved who flies.client (Some f) None b b' ended d space (λ page has. absurd (no_page page has)) e
      (gives.pages ∙ space.pages ∙ sym (ap (λ g. g.pages) disk.event.relogs.geometry)) gives.in_order (omega (arith, space.some, gives.no_less))
      (left_more b b' (λ page has. (gives.free page).1 (inl has)) (cleaning_takes who flies.client (Some f) None b b' ended) space.left)
      (λ page. (free_then page, then_free page)) (λ page has. absurd (no_page page has)) others_stay
