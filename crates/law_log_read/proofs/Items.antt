-- The items that slots begin with, up to the first that may not stand in the log, or to where they end.
use Rattle.std.proofs.Common.{◌⊎◌, inl, inr, ℕ, zero, suc, ◌+◌, ◌-◌, ◌<◌, ◌≤◌, List, [], ◌∷◌, ◌++◌, length, drop, refl, arith}
use Rattle.std.proofs.lemmas.Bool.{cases_lt}
use Rattle.std.proofs.lemmas.List.{length-drop, nil_from_length}
use Rattle.pm_layout.specs.declared.Geometry.{Geometry}
use Rattle.pm_layout.specs.Geometry.{InData}
use Rattle.log_entry.specs.Spelling.{spelling}
use Rattle.log_entry.specs.Fronts.{BeginsWith}
use Rattle.log_entry.specs.declared.item.LogItem.{LogItem}
use Rattle.log_entry.specs.declared.item.LogItem.TheVariants.{Write, Size, Add, Forget}
use Rattle.log_entry.proofs.Spelled.{spelling_some}
use Rattle.dn_model.specs.Log.{slot_name}
use Rattle.dn_model.specs.Valid.{MayStand}
use Rattle.log_walk.specs.Items.{AreFront, IsEnd}
use Rattle.log_walk.specs.declared.items.Placed.{Placed}
use Rattle.log_walk.specs.declared.items.End.{End}
use Rattle.log_walk.specs.declared.items.End.TheVariants.{Filled, Cut, Bad}
use Rattle.log_walk.proofs.Filled.{none_fill, fronts_more}
use Rattle.law_log_read.proofs.Decided.{Decided, le_decided, lt_decided, both_decided}
use Rattle.law_log_read.proofs.FrontDecided.{fronts_decided}
use Rattle.law_log_read.proofs.Pages.{data_decided}

stand_decided : (g : Geometry) (ino : ℕ) (item : LogItem) → Decided (MayStand g ino item)
stand_decided g zero (Write first count block size flag mask) = inr (λ none. none)
stand_decided g (suc k) (Write first count block size flag mask) =
    both_decided (InData g block) (InData g (block + count - 1)) (data_decided g block) (data_decided g (block + count - 1))
stand_decided g zero (Size size) = inr (λ none. none)
stand_decided g (suc k) (Size size) = inl tt
stand_decided g zero (Add ino name) = both_decided (1 ≤ ino) (ino < g.inodes) (le_decided 1 ino) (lt_decided ino g.inodes)
stand_decided g (suc k) (Add ino name) = inr (λ none. none)
stand_decided g zero (Forget name) = inl tt
stand_decided g (suc k) (Forget name) = inr (λ none. none)

module _ (g : Geometry) (ino : ℕ) (pages : List ℕ) (slots : List (List ℕ)) where
  pub record AllItems : Type 0 where
    pub items : List Placed
    pub taken : ℕ
    pub end : End
    pub front : AreFront g ino pages slots items taken
    pub ends : IsEnd g ino (drop taken slots) end

  -- an item comes next that may stand there
  record GoesOn (n : ℕ) : Type 0 where
    pub inside : n < length slots
    pub item : LogItem
    pub begins : BeginsWith item (drop n slots)
    pub stands : MayStand g ino item

  step : (items : List Placed) (n : ℕ) → AreFront g ino pages slots items n → AllItems ⊎ GoesOn n
  step items n front = elim (cases_lt n (length slots)) [
    | inl lt ↦
        let some : 0 < length (drop n slots) = omega (arith, lt, length-drop n slots) in
        elim (fronts_decided (drop n slots)) [
          | inl begins ↦ elim (stand_decided g ino begins.0) [
            | inl stands ↦ inr (record { inside = lt; item = begins.0; begins = begins.1; stands = stands })
            | inr bad ↦ inl (record { items = items; taken = n; end = Bad; front = front; ends = (inr (begins.0, begins.1, bad), some) })
          ]
          | inr (inl part) ↦ inl (record { items = items; taken = n; end = Cut; front = front; ends = (part, some) })
          | inr (inr nothing) ↦ inl (record { items = items; taken = n; end = Bad; front = front; ends = (inl nothing, some) })
        ]
    | inr le ↦ inl (record {
      items = items;
      taken = n;
      end = Filled;
      front = front;
      ends = nil_from_length (drop n slots)
          (omega (arith, le, length-drop n slots));
    })
  ]

  items_from : (fuel : ℕ) (items : List Placed) (n : ℕ) → AreFront g ino pages slots items n → length slots ≤ n + fuel → AllItems
  items_from zero items n front enough = elim (step items n front) [
    | inl done ↦ done
    | inr on ↦ absurd (omega (arith, enough, on.inside))
  ]
  items_from (suc fuel) items n front enough = elim (step items n front) [
    | inl done ↦ done
    | inr on ↦
        let p : Placed = record { slot = slot_name pages n; item = on.item } in
        items_from fuel (items ++ p ∷ []) (n + length (spelling on.item))
        (fronts_more g ino pages slots items n front p on.begins on.stands refl)
        (omega (arith, enough, spelling_some on.item))
  ]

  pub all_items : AllItems
  all_items = items_from (length slots) [] 0 (none_fill g ino pages slots) (omega arith)
