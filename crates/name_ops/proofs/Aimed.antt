-- What an operation on names speaks of, as the disk has it.
use Rattle.std.proofs.Common.{◌≡◌, ◌≢◌, inl, inr, ⊎_elim, ℕ, ◌+◌, ◌*◌, ◌<◌, ◌≤◌, Bool, true, false}
use Rattle.std.proofs.Common.{List, [], ◌∷◌, ◌++◌, length, refl, sym, ◌∙◌, ap, subst, arith, Option, Some, None}
use Rattle.std.specs.Prelude.{Contains, slice_get, if◌then◌else◌, nat_lt}
use Rattle.pm_device.specs.State.{State}
use Rattle.law_unique.proofs.Listings.{none_listed, cons_cases}
use Rattle.law_names.proofs.Links.{names_eq}
use Rattle.law_names.proofs.Operating.{named_file, named_live}
use Rattle.dn_model.specs.Disk.{Disk, Use, Free, Live, Dying}
use Rattle.dn_model.specs.Files.{named}
use Rattle.dn_model.specs.Log.{Log}
use Rattle.dn_model.specs.History.{needed, reserve, extra, room}
use Rattle.dn_model.specs.declared.op.Op.{Op}
use Rattle.dn_model.specs.declared.op.Op.TheVariants.{Create, Write, Read, Cut, Remove, Rename, Size, List as ListAll}
use Rattle.dn_model.specs.declared.op.Reply.TheVariants.{Refused}
use Rattle.dn_model.specs.declared.op.Refusal.TheVariants.{NoSpace}
use Rattle.dn_volume.specs.declared.volume.InodeState.{InodeState}
use Rattle.dn_volume.specs.declared.volume.Parts.{Parts}
use Rattle.dn_volume.specs.PlannedNames.{inode_list}
use Rattle.dn_volume.specs.Reclaims.{one_if}
use Rattle.dn_volume.specs.Agrees.{IsVolume}
use Rattle.dn_volume.specs.Begins.{wants, AreLoose, LacksSpace, LacksReleases, lost_rows, IsUnhindered, IsAnswerOf, no_space}
use Rattle.name_ops.specs.declared.found.Found.{Found}
use Rattle.name_ops.specs.declared.found.Found.TheVariants.{Answer, Held, Waits, Files}
use Rattle.name_ops.specs.Finding.{Aims, IsAimed, IsFoundRoom, IsRoomy, AreTooFew, LooksAtRoom, op_slots}

pub extra_few : (k : ℕ) (log : Log) → extra k log ≤ 1
extra_few k log = by (nat_lt (room log) k)
  where
    by : (t : Bool) → (if t then 1 else 0) ≤ 1
    by true = omega arith
    by false = omega arith

-- the pages that it needs, and its rows and reserve
pub needs_extra : (d : Disk) (b : Parts) (op : Op) (ino : ℕ) (other : Option ℕ) → Aims d b op ino other
    → needed d op ≡ extra (op_slots op) (d.inode 0).log
needs_extra d b (Create name) ino other aims = refl
needs_extra d b (Write name at text) ino other aims = absurd aims
needs_extra d b (Read name at count) ino other aims = absurd aims
needs_extra d b (Cut name to) ino other aims = absurd aims
needs_extra d b (Remove name) ino other aims = refl
needs_extra d b (Rename from to) ino other aims = ⊎_elim (λ same. absurd (aims.apart (sym same.1)))
    (λ away. ap (λ (x : Bool). if x then 0 else extra (op_slots (Rename from to)) (d.inode 0).log) away.0) (names_eq from to)
needs_extra d b (Size name) ino other aims = absurd aims
needs_extra d b ListAll ino other aims = absurd aims

pub loses_none : (d : Disk) (b : Parts) (op : Op) (ino : ℕ) (other : Option ℕ) → Aims d b op ino other → lost_rows d op ≡ []
loses_none d b (Create name) ino other aims = refl
loses_none d b (Write name at text) ino other aims = absurd aims
loses_none d b (Read name at count) ino other aims = absurd aims
loses_none d b (Cut name to) ino other aims = absurd aims
loses_none d b (Remove name) ino other aims = refl
loses_none d b (Rename from to) ino other aims = refl
loses_none d b (Size name) ino other aims = absurd aims
loses_none d b ListAll ino other aims = absurd aims

pub reserve_two : (op : Op) → 2 ≤ reserve op
reserve_two (Create name) = omega arith
reserve_two (Write name at text) = omega arith
reserve_two (Read name at count) = omega arith
reserve_two (Cut name to) = omega arith
reserve_two (Remove name) = omega arith
reserve_two (Rename from to) = omega arith
reserve_two (Size name) = omega arith
reserve_two ListAll = omega arith

one_if_few : {X : Type 0} (o : Option X) → one_if o ≤ 1
one_if_few None = omega arith
one_if_few (Some x) = omega arith

-- where too many releases wait, reclaim has work
waits_some : (waiting up check releases sum : ℕ) → waiting + up ≡ check + 2 * releases + sum → up ≤ 1 → 1048576 < releases → 0 < waiting
waits_some waiting up check releases sum is few many = omega (arith, is, few, many)

-- Space and room for releases were looked at.
module _ (d : Disk) (b : Parts) (s : State) (v : IsVolume d b s) (op : Op) (pages spare ino : ℕ) (other : Option ℕ) (aimed : IsAimed d b op ino other)
    (needs : pages ≡ extra (op_slots op) (d.inode 0).log) (spare_is : spare ≡ reserve op) where
  pub needs_is : pages ≡ needed d op
  needs_is = needs ∙ sym (needs_extra d b op ino other aimed.aims)

  lacks : AreTooFew b pages spare → LacksSpace d b op
  lacks few = (
    (let some = few.some in let same = needs_is in omega (arith, some, same)),
    (let less = few.few in let same = needs_is in omega (arith, less, same, spare_is)),
  )

  too_few : LacksSpace d b op → AreTooFew b pages spare
  too_few few = record {
    some = let some = few.0 in let same = needs_is in omega (arith, some, same);
    few = let less = few.1 in let same = needs_is in omega (arith, less, same, spare_is);
  }

  no_rows : length (lost_rows d op) ≡ 0
  no_rows = ap length (loses_none d b op ino other aimed.aims)

  too_many : 1048576 < length b.reclaiming.releases.items → LacksReleases d b op
  too_many many = let none = no_rows in omega (arith, many, none)

  many_wait : LacksReleases d b op → 1048576 < length b.reclaiming.releases.items
  many_wait many = let none = no_rows in omega (arith, many, none)

  work_waits : 1048576 < length b.reclaiming.releases.items → 0 < b.reclaiming.waiting
  work_waits many = waits_some b.reclaiming.waiting (one_if b.reclaiming.raised) (one_if b.reclaiming.zero_check)
      (length b.reclaiming.releases.items) _ v.reclaiming.waiting (one_if_few b.reclaiming.raised) many

  pub found_room : (found : Found) → LooksAtRoom b pages spare ino other found → IsFoundRoom d b op found
  found_room (Answer reply) looks = subst (IsAnswerOf d b op) (sym (looks.2 ∙ ap (λ (n : ℕ). Refused (NoSpace n (length b.free.free))) needs_is))
      (no_space aimed.unhindered looks.0 aimed.inode (lacks looks.1))
  found_room (Held holder) looks = absurd looks
  found_room (Waits waiting) looks = record {
    unhindered = aimed.unhindered;
    lacks = ⊎_elim (λ few. inr (inl (lacks few))) (λ many. inr (inr (too_many many))) looks.lacks;
    some = looks.some;
    is = looks.is;
  }
  found_room (Files i o) looks = subst (λ (x : ℕ). IsRoomy d b op x o) (sym looks.0) (subst (IsRoomy d b op ino) (sym looks.1) (record {
    has = record {
      unhindered = aimed.unhindered;
      inode = aimed.inode;
      space = λ few. looks.2.enough (too_few few);
      releases = λ many. ⊎_elim (λ none. let some = work_waits (many_wait many) in omega (arith, none, some))
          (λ few. let more = many_wait many in omega (arith, few, more)) looks.2.releases;
    };
    aims = aimed.aims;
  }))

-- what holds of the root, of the file that it speaks of, and of the one that is replaced
pub each_held : (P : ℕ → Type 0) (ino : ℕ) (other : Option ℕ) → P 0 → P ino → ((k : ℕ) → other ≡ Some k → P k) → (i : ℕ)
    → Contains (0 ∷ ino ∷ inode_list other) i → P i
each_held P ino other root file replaced i has = ⊎_elim (λ same. subst P same root)
    (λ rest. ⊎_elim (λ same. subst P same file) (λ last. by other refl last) (cons_cases ino i (inode_list other) rest))
    (cons_cases 0 i (ino ∷ inode_list other) has)
  where
    by : (o : Option ℕ) → other ≡ o → Contains (inode_list o) i → P i
    by None is none = absurd (none_listed i none)
    by (Some k) is last = ⊎_elim (λ same. subst P same (replaced k is)) (λ none. absurd (none_listed i none)) (cons_cases k i [] last)

-- an inode that it may come to hold
pub record IsHoldable (d : Disk) (b : Parts) (i : ℕ) : Type 0 where
  pub small : i < d.geometry.inodes
  pub undying : (cut : ℕ) → (d.inode i).use_of ≡ Dying cut → ⊥
  pub loose : (n : InodeState) → slice_get b.inodes.items i ≡ Some n → n.holder ≡ None
  pub least : (j : ℕ) → (d.inode i).use_of ≡ Free → 1 ≤ j → j < i → (d.inode j).use_of ≡ Free → ⊥

module _ (d : Disk) (b : Parts) (s : State) (v : IsVolume d b s) where
  live_dying : (u : Use) (cut : ℕ) → u ≡ Live → u ≡ Dying cut → ⊥
  live_dying u cut one other = cc

  live_free : (u : Use) → u ≡ Live → u ≡ Free → ⊥
  live_free u one other = cc

  free_dying : (u : Use) (cut : ℕ) → u ≡ Free → u ≡ Dying cut → ⊥
  free_dying u cut one other = cc

  -- what nobody holds tells no holder
  pub told_none : (xs : List ℕ) → AreLoose b xs → (i : ℕ) (n : InodeState) → Contains xs i → slice_get b.inodes.items i ≡ Some n → n.holder ≡ None
  told_none xs loose i n has at = by n.holder refl
    where
      by : (o : Option ℕ) → n.holder ≡ o → n.holder ≡ None
      by None is = is
      by (Some q) is = absurd (loose i q has ((v.holders.told i q n at).0 is))

  live_holdable : (xs : List ℕ) (i : ℕ) → AreLoose b xs → Contains xs i → i < d.geometry.inodes → (d.inode i).use_of ≡ Live → IsHoldable d b i
  live_holdable xs i loose has small live = record {
    small = small;
    undying = λ cut is. live_dying (d.inode i).use_of cut live is;
    loose = λ n at. told_none xs loose i n has at;
    least = λ j free some less is. absurd (live_free (d.inode i).use_of live free);
  }

  root_small : 0 < d.geometry.inodes
  root_small = let many = v.fast.valid.accepted.inodes in omega (arith, many)

  root_holdable : (xs : List ℕ) → AreLoose b xs → Contains xs 0 → IsHoldable d b 0
  root_holdable xs loose has = live_holdable xs 0 loose has root_small v.fast.valid.root

  named_holdable : (xs : List ℕ) (name : List ℕ) (i : ℕ) → AreLoose b xs → Contains xs i → named d name ≡ Some i → IsHoldable d b i
  named_holdable xs name i loose has leads =
      live_holdable xs i loose has (named_file d v.fast.valid name i leads).1 (named_live d v.fast.valid name i leads)

  -- the inodes that a removal or a renaming wants
  pub wants_removed : (name : List ℕ) (ino : ℕ) → named d name ≡ Some ino → wants d (Remove name) ≡ 0 ∷ ino ∷ []
  wants_removed name ino leads = ap (λ (o : Option ℕ). 0 ∷ inode_list o) leads

  pub wants_renamed : (from to : List ℕ) (ino : ℕ) (other : Option ℕ) → from ≢ to → named d from ≡ Some ino → named d to ≡ other
      → wants d (Rename from to) ≡ 0 ∷ ino ∷ inode_list other
  wants_renamed from to ino other apart leads replaces = ⊎_elim (λ same. absurd (apart (sym same.1)))
      (λ away. ap (λ (x : Bool). if x then [] else 0 ∷ inode_list (named d from) ++ inode_list (named d to)) away.0
      ∙ ap (λ (o : Option ℕ). 0 ∷ inode_list o ++ inode_list (named d to)) leads
      ∙ ap (λ (o : Option ℕ). 0 ∷ ino ∷ inode_list o) replaces) (names_eq from to)

  -- all that it will hold may be held
  pub holdable : (op : Op) (ino : ℕ) (other : Option ℕ) → IsUnhindered d b op → Aims d b op ino other → (i : ℕ)
      → Contains (0 ∷ ino ∷ inode_list other) i → IsHoldable d b i
  holdable (Create name) ino other free aims =
      each_held (IsHoldable d b) ino other (root_holdable (0 ∷ []) free.loose (0, omega arith, refl)) (record {
        small = aims.in_table;
        undying = λ cut is. free_dying (d.inode ino).use_of cut aims.free is;
        loose = λ n at. aims.loose ino n (0, omega arith, refl) at;
        least = λ j is some less free'. aims.least j some less free';
      }) (λ k is. absurd (clash other k aims.alone is))
    where
      clash : (o : Option ℕ) (k : ℕ) → o ≡ None → o ≡ Some k → ⊥
      clash o k none some = cc
  holdable (Write name at text) ino other free aims = absurd aims
  holdable (Read name at count) ino other free aims = absurd aims
  holdable (Cut name to) ino other free aims = absurd aims
  holdable (Remove name) ino other free aims =
      let loose = subst (AreLoose b) (wants_removed name ino aims.leads) free.loose in
      each_held (IsHoldable d b) ino other (root_holdable (0 ∷ ino ∷ []) loose (0, omega arith, refl))
      (named_holdable (0 ∷ ino ∷ []) name ino loose (1, omega arith, refl) aims.leads) (λ k is. absurd (clash other k aims.alone is))
    where
      clash : (o : Option ℕ) (k : ℕ) → o ≡ None → o ≡ Some k → ⊥
      clash o k none some = cc
  holdable (Rename from to) ino other free aims =
      let loose = subst (AreLoose b) (wants_renamed from to ino other aims.apart aims.leads aims.replaces) free.loose in
      each_held (IsHoldable d b) ino other (root_holdable (0 ∷ ino ∷ inode_list other) loose (0, omega arith, refl))
      (named_holdable (0 ∷ ino ∷ inode_list other) from ino loose (1, omega arith, refl) aims.leads)
      (λ k is. named_holdable (0 ∷ ino ∷ inode_list other) to k loose
      (subst (λ (o : Option ℕ). Contains (0 ∷ ino ∷ inode_list o) k) (sym is) (2, omega arith, refl)) (aims.replaces ∙ is))
  holdable (Size name) ino other free aims = absurd aims
  holdable ListAll ino other free aims = absurd aims
