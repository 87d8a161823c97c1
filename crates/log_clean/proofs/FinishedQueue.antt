-- A cleaning ends: what waits for the daemon.
use Rattle.std.proofs.Common.{◌≡◌, ◌≢◌, inl, inr, ⊎_elim, ℕ, List, [], ◌∷◌, refl, sym, ◌∙◌, subst, arith}
use Rattle.std.specs.Prelude.{Some, Contains}
use Rattle.std.proofs.lemmas.Bool.{cases_eq}
use Rattle.std.proofs.lemmas.List.Elements.{Contains-append_left, Contains-append_right}
use Rattle.log_entry.specs.declared.item.Flag.TheVariants.{Complete}
use Rattle.dedupe_queue.specs.declared.Work.{Work}
use Rattle.page_alloc.specs.Free.{FreePages}
use Rattle.dn_model.specs.Maps.{Mapping, mapping}
use Rattle.dn_model.specs.Disk.{Disk}
use Rattle.law_table.proofs.Rows.{listed_here, listed_later, listed_cases}
use Rattle.log_replace.specs.CleanedLaws.{MayClean, cleaned_disk}
use Rattle.dn_volume.specs.declared.background.Cleaning.{Cleaning}
use Rattle.dn_volume.specs.declared.volume.Parts.{Parts}
use Rattle.dn_volume.specs.Cleans.{new_log}
use Rattle.dn_volume.specs.Shares.{IsWaiting, in_queue, is_begun, IsQueued}
use Rattle.log_clean.specs.Finishing.{due_works, EndsCleaning}
use Rattle.log_clean.proofs.FinishedHands.{taken_out}
use Rattle.log_clean.proofs.FinishedRest.{live_other, live_here}

-- each slot that is due has its item
listed_due : (ino round : ℕ) (slots : List ℕ) (slot : ℕ) → Contains slots slot
    → Contains (due_works ino round slots) (record { ino = ino; round = round; slot = slot })
listed_due ino round [] slot has = absurd (omega (arith, has.1))
listed_due ino round (x ∷ xs) slot has = ⊎_elim
    (λ (same : x ≡ slot). subst (λ (y : ℕ). Contains (due_works ino round (x ∷ xs)) (record { ino = ino; round = round; slot = y })) same
    (listed_here (record { ino = ino; round = round; slot = x }) (due_works ino round xs)))
    (λ (later : Contains xs slot). listed_later (record { ino = ino; round = round; slot = x }) (due_works ino round xs)
    (record { ino = ino; round = round; slot = slot }) (listed_due ino round xs slot later))
    (listed_cases x xs slot has)

module _ (d : Disk) (b b' : Parts) (c : Cleaning) (f : FreePages) (ends : EndsCleaning c (taken_out b f) b') where
  abbrev e : Disk
  e = cleaned_disk d c.ino c.pages.items

  abbrev round : ℕ
  round = ends.queue.node.round

  was_queued : (work : Work) → Contains b.queue.items work → Contains b'.queue.items work
  was_queued work has = subst (λ (ws : List Work). Contains ws work) (sym ends.queue.items)
      (Contains-append_left b.queue.items (due_works c.ino round c.due.items) work has)

  now_queued : (slot : ℕ) → Contains c.due.items slot → Contains b'.queue.items (record { ino = c.ino; round = round; slot = slot })
  now_queued slot has = subst (λ (ws : List Work). Contains ws (record { ino = c.ino; round = round; slot = slot })) (sym ends.queue.items)
      (Contains-append_right b.queue.items (due_works c.ino round c.due.items) (record { ino = c.ino; round = round; slot = slot })
      (listed_due c.ino round c.due.items slot has))

  waits_on : (ino slot : ℕ) → ino ≢ c.ino → IsWaiting b ino slot → IsWaiting b' ino slot
  waits_on ino slot ne (in_queue work n has of_ino of_slot at same) =
      in_queue work n (was_queued work has) of_ino of_slot (ends.inodes.others ino ne ∙ at) same
  waits_on ino slot ne (is_begun item at of_ino of_slot) = is_begun item (ends.sharing ∙ at) of_ino of_slot

  pub queued_then : (may : MayClean d c.ino c.pages.items)
      → ((idx : ℕ) (m : Mapping) → mapping (new_log d c) idx ≡ Some m → (m.flag ≡ Complete → ⊥) → Contains c.due.items m.slot)
      → IsQueued d b → IsQueued e b'
  queued_then may due was = record {
    waits = λ ino idx m place undone. elim (cases_eq ino c.ino) [
      | inl here ↦ subst (λ (i : ℕ). IsWaiting b' i m.slot) (sym here)
          (in_queue (record { ino = c.ino; round = round; slot = m.slot }) ends.queue.node
          (now_queued m.slot (due idx m (live_here d c.ino c.pages.items may ino idx m here place) undone)) refl refl ends.queue.at refl)
      | inr ne ↦ waits_on ino m.slot ne (was.waits ino idx m (live_other d c.ino c.pages.items may ino idx m ne place) undone)
    ];
  }
