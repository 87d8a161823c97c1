-- The open items of a log wait one after another.
use Rattle.std.proofs.Common.{
  ◌≡◌,
  Bool,
  true,
  false,
  inl,
  inr,
  ⊎_elim,
  ℕ,
  zero,
  suc,
  ◌+◌,
  ◌-◌,
  ◌<◌,
  ◌≤◌,
  List,
  [],
  ◌∷◌,
  ◌++◌,
  length,
  map,
  take,
  get_or,
  refl,
  sym,
  ◌∙◌,
  ap,
  subst,
  arith,
}
use Rattle.std.specs.Prelude.{◌↔◌, Option, Some, None, Contains}
use Rattle.std.specs.Option.{option_map}
use Rattle.std.specs.Ordering.{nat_cmp}
use Rattle.std.specs.FinMap.{FinMap, get}
use Rattle.std.proofs.lemmas.Bool.{cases_eq}
use Rattle.law_unique.proofs.Listings.{cons_cases}
use Rattle.std.proofs.lemmas.List.{take_more, take_all, map-append, append_assoc, append-nil}
use Rattle.std.proofs.lemmas.List.Elements.{Contains-push, Contains-append_left, Contains-append_right}
use Rattle.dedupe_queue.specs.declared.Work.{Work}
use Rattle.dedupe_queue.specs.Queue.{Waiting}
use Rattle.file_index.specs.declared.page_map.Mapping.{Mapping as KeptMapping}
use Rattle.file_content.specs.Content.{kept}
use Rattle.dn_model.specs.Log.{Log, Placed, placed}
use Rattle.dn_model.specs.Maps.{Mapping, mapping}
use Rattle.dn_model.specs.Disk.{Inode, Use, Live}
use Rattle.log_walk.specs.Items.{seen}
use Rattle.log_walk.specs.declared.items.Placed.{Placed as PlacedItem}
use Rattle.file_scan.specs.declared.index.FileIndex.{FileIndex}
use Rattle.file_scan.specs.Index.{IsIndexOf}
use Rattle.image_keep.specs.Waiting.{
  IsOpenItem,
  IsOpenBy,
  work_for,
  AreWorksOf,
  WaitFor,
  WaitBelow,
}
use Rattle.image_keep.specs.Keeping.{QueuesOne, QueuesAll}

-- works for items with one property are works for those with the same property
pub works_same : (Is Js : Placed → Type 0) → ((p : Placed) → Is p ↔ Js p) → (ino : ℕ) (ps : List Placed) (works : List Work)
    → AreWorksOf Is ino ps works → AreWorksOf Js ino ps works
works_same Is Js same ino [] works none = none
works_same Is Js same ino (p ∷ ps) works (inl here) = inl ((same p).0 here.0, (here.1.0, here.1.1, works_same Is Js same ino ps here.1.0 here.1.2))
works_same Is Js same ino (p ∷ ps) works (inr past) = inr (λ js. past.0 ((same p).1 js), works_same Is Js same ino ps works past.1)

-- one item more, which is open or not
pub works_open : (Is : Placed → Type 0) (ino : ℕ) (ps : List Placed) (works : List Work) (p : Placed) → AreWorksOf Is ino ps works → Is p
    → AreWorksOf Is ino (ps ++ p ∷ []) (works ++ work_for ino p ∷ [])
works_open Is ino [] works p none is = inl (is, ([], ap (λ (ws : List Work). ws ++ work_for ino p ∷ []) none, refl))
works_open Is ino (q ∷ ps) works p (inl here) is =
    let rest = works_open Is ino ps here.1.0 p here.1.2 is in
    inl (here.0, (here.1.0 ++ work_for ino p ∷ [], ap (λ (ws : List Work). ws ++ work_for ino p ∷ []) here.1.1, rest))
works_open Is ino (q ∷ ps) works p (inr past) is = inr (past.0, works_open Is ino ps works p past.1 is)

pub works_closed : (Is : Placed → Type 0) (ino : ℕ) (ps : List Placed) (works : List Work) (p : Placed) → AreWorksOf Is ino ps works → (Is p → ⊥)
    → AreWorksOf Is ino (ps ++ p ∷ []) works
works_closed Is ino [] works p none is = inr (is, none)
works_closed Is ino (q ∷ ps) works p (inl here) is = inl (here.0, (here.1.0, here.1.1, works_closed Is ino ps here.1.0 p here.1.2 is))
works_closed Is ino (q ∷ ps) works p (inr past) is = inr (past.0, works_closed Is ino ps works p past.1 is)

-- each of these items has its work
pub work_there : (Is : Placed → Type 0) (ino : ℕ) (ps : List Placed) (works : List Work) → AreWorksOf Is ino ps works → (p : Placed) → Contains ps p
    → Is p → Contains works (work_for ino p)
work_there Is ino [] works none p there is = absurd (omega (arith, there.1))
work_there Is ino (q ∷ ps) works (inl here) p there is =
    subst (λ (ws : List Work). Contains ws (work_for ino p)) (sym here.1.1) (⊎_elim
    (λ (same : q ≡ p). subst (λ (r : Placed). Contains (work_for ino q ∷ here.1.0) (work_for ino r)) same
    (Contains-append_left (work_for ino q ∷ []) here.1.0 (work_for ino q) (Contains-push [] (work_for ino q))))
    (λ (old : Contains ps p). Contains-append_right (work_for ino q ∷ []) here.1.0 (work_for ino p) (work_there Is ino ps here.1.0 here.1.2 p old is))
    (cons_cases q p ps there))
work_there Is ino (q ∷ ps) works (inr past) p there is = ⊎_elim
    (λ (same : q ≡ p). absurd (past.0 (subst Is (sym same) is)))
    (λ (old : Contains ps p). work_there Is ino ps works past.1 p old is)
    (cons_cases q p ps there)

pub waits_none : (inode : ℕ → Inode) → WaitBelow inode 0 []
unfolding WaitBelow
waits_none inode = refl

pub waits_next : (inode : ℕ → Inode) (k : ℕ) (before more : List Work) → WaitBelow inode k before → WaitFor k (inode k).use_of (inode k).log more
    → WaitBelow inode (suc k) (before ++ more)
unfolding WaitBelow
waits_next inode k before more below last = (before, more, below, last, refl)

-- so has each open item of a live inode below the end
pub waits_below : (inode : ℕ → Inode) (end : ℕ) (works : List Work) → WaitBelow inode end works → (ino : ℕ) → ino < end
    → (inode ino).use_of ≡ Live → (p : Placed) → Contains (placed (inode ino).log) p → IsOpenItem (inode ino).log p → Contains works (work_for ino p)
unfolding WaitBelow
waits_below inode zero works none ino lt live p there is = absurd (omega (arith, lt))
waits_below inode (suc k) works waits ino lt live p there is =
    subst (λ (ws : List Work). Contains ws (work_for ino p)) (sym waits.4) (elim (cases_eq ino k) [
      | inl same ↦ Contains-append_right waits.0 waits.1 (work_for ino p) (here same)
      | inr other ↦ Contains-append_left waits.0 waits.1 (work_for ino p)
          (waits_below inode k waits.0 waits.2 ino (omega (arith, lt, other)) live p there is)
    ])
  where
    here : ino ≡ k → Contains waits.1 (work_for ino p)
    here same =
        let last : WaitFor ino (inode ino).use_of (inode ino).log waits.1 =
        subst (λ (i : ℕ). WaitFor i (inode i).use_of (inode i).log waits.1) (sym same) waits.3 in
        let by_live : WaitFor ino Live (inode ino).log waits.1 = subst (λ (u : Use). WaitFor ino u (inode ino).log waits.1) live last in
        work_there (IsOpenItem (inode ino).log) ino (placed (inode ino).log) waits.1 by_live p there is

-- the mapping that is kept is one of the log
from_kept : (o : Option Mapping) (by : KeptMapping) → option_map kept o ≡ Some by → (m : Mapping) × (o ≡ Some m) × (m.slot ≡ by.slot)
from_kept None by e = cc
from_kept (Some m) by e = (m, refl, same (kept m) by e)
  where
    same : (a b : KeptMapping) → Some a ≡ Some b → a.slot ≡ b.slot
    same a b e = let one : a ≡ b = cc in ap (λ (x : KeptMapping). x.slot) one

-- items are open by what is kept of the log just where they are open in the log
pub open_same : (log : Log) (index : FileIndex) → IsIndexOf log index → (p : Placed) → IsOpenBy index.map.map p ↔ IsOpenItem log p
open_same log index is p = (to, from)
  where
    to : IsOpenBy index.map.map p → IsOpenItem log p
    to by =
        let found = from_kept (mapping log (by.first + by.still.i)) by.still.is.by (sym (is.places (by.first + by.still.i)) ∙ by.still.is.at) in
        record {
          first = by.first;
          count = by.count;
          block = by.block;
          size = by.size;
          flag = by.flag;
          mask = by.mask;
          item = by.item;
          incomplete = by.incomplete;
          place = by.first + by.still.i;
          low = omega arith;
          high = omega (arith, by.still.few);
          by = found.0;
          mapped = found.1;
          slot_is = found.2 ∙ by.still.is.slot_is;
        }

    from : IsOpenItem log p → IsOpenBy index.map.map p
    from is_open =
        let at : is_open.first + (is_open.place - is_open.first) ≡ is_open.place = omega (arith, is_open.low) in
        record {
          first = is_open.first;
          count = is_open.count;
          block = is_open.block;
          size = is_open.size;
          flag = is_open.flag;
          mask = is_open.mask;
          item = is_open.item;
          incomplete = is_open.incomplete;
          still = record {
            i = is_open.place - is_open.first;
            few = omega (arith, is_open.low, is_open.high);
            is = record {
              by = kept is_open.by;
              at = ap (get index.map.map) at ∙ is.places is_open.place ∙ ap (option_map kept) is_open.mapped;
              slot_is = is_open.slot_is;
            };
          };
        }

module _ (ino : ℕ) (map_of : FinMap nat_cmp KeptMapping) where
  pub queued_none : (items : List PlacedItem) (q : Waiting) → QueuesAll ino (take 0 items) map_of q q
  queued_none items q = record { more = []; items = sym (append-nil q.items); are = refl }

  module _ (items : List PlacedItem) (k : ℕ) (d : PlacedItem) (q mid new : Waiting) (lt : k < length items)
      (all : QueuesAll ino (take k items) map_of q mid) (one : QueuesOne ino (get_or items k d) map_of mid new) where
    abbrev p : PlacedItem
    p = get_or items k d

    abbrev front : List Placed
    front = map seen (take k items)

    abbrev AreWorks : List Placed → List Work → Type 0
    AreWorks = AreWorksOf (IsOpenBy map_of) ino

    split : map seen (take (k + 1) items) ≡ front ++ seen p ∷ []
    split = ap (map seen) (take_more items k d lt) ∙ map-append seen (take k items) (p ∷ [])

    same : (IsOpenBy map_of (seen p) → ⊥) → all.more ++ one.more ≡ all.more
    same closed = ap (λ (ws : List Work). all.more ++ ws) (one.none closed) ∙ append-nil all.more

    works : AreWorks (front ++ seen p ∷ []) (all.more ++ one.more)
    works = ⊎_elim
        (λ (is_open : IsOpenBy map_of (seen p)). subst (AreWorks (front ++ seen p ∷ []))
        (sym (ap (λ (ws : List Work). all.more ++ ws) (one.one is_open)))
        (works_open (IsOpenBy map_of) ino front all.more (seen p) all.are is_open))
        (λ (closed : IsOpenBy map_of (seen p) → ⊥). subst (AreWorks (front ++ seen p ∷ []))
        (sym (same closed)) (works_closed (IsOpenBy map_of) ino front all.more (seen p) all.are closed))
        one.whether

    pub queued_next : QueuesAll ino (take (k + 1) items) map_of q new
    queued_next = record {
      more = all.more ++ one.more;
      items = one.items ∙ ap (λ (ws : List Work). ws ++ one.more) all.items ∙ append_assoc q.items all.more one.more;
      are = subst (λ (qs : List Placed). AreWorks qs (all.more ++ one.more)) (sym split) works;
    }

  pub queued_all : (items : List PlacedItem) (k : ℕ) (q new : Waiting) → length items ≤ k → QueuesAll ino (take k items) map_of q new
      → QueuesAll ino items map_of q new
  queued_all items k q new all = subst (λ (xs : List PlacedItem). QueuesAll ino xs map_of q new) (take_all k items all)

-- a test that failed
pub refuted : (b : Bool) (P : Type 0) → (P → b ≡ true) → b ≡ false → P → ⊥
refuted b P from failed p = let e : true ≡ false = sym (from p) ∙ failed in cc
