-- What the begin of a creation finds.
use Rattle.std.proofs.Common.{◌≡◌, ⊎_elim, ℕ, ◌+◌, ◌<◌, ◌≤◌, List, [], ◌∷◌, length, get_or, refl, sym, ◌∙◌, ap, subst, arith, Option, Some, None}
use Rattle.std.specs.Prelude.{Contains, All, slice_get}
use Rattle.std.specs.Option.{option_map}
use Rattle.std.specs.FinMap.{get}
use Rattle.std.proofs.lemmas.Bool.{cases_lt}
use Rattle.std.proofs.lemmas.Option.{slice_get_read, slice_get_cases}
use Rattle.pm_device.specs.State.{State}
use Rattle.log_entry.specs.Name.{IsLegal}
use Rattle.law_unique.proofs.Listings.{none_listed, cons_cases}
use Rattle.dn_model.specs.Disk.{Disk, Use, Free, Live}
use Rattle.dn_model.specs.Files.{named, files, bytes}
use Rattle.dn_model.specs.Apply.{IsGranted, bad_name, missed}
use Rattle.dn_model.specs.declared.op.Op.{Op}
use Rattle.dn_model.specs.declared.op.Op.TheVariants.{Create, Write, Read, Cut, Remove, Rename, Size, List as ListAll}
use Rattle.dn_model.specs.declared.op.Reply.TheVariants.{Refused}
use Rattle.dn_model.specs.declared.op.Refusal.TheVariants.{BadName, Exists, NoInode}
use Rattle.dn_volume.specs.declared.flight.Flight.{Flight}
use Rattle.dn_volume.specs.declared.flight.Change.{Change}
use Rattle.dn_volume.specs.declared.flight.Change.TheVariants.{Data, Names}
use Rattle.dn_volume.specs.declared.flight.DataChange.{DataChange}
use Rattle.dn_volume.specs.declared.volume.InodeState.{InodeState}
use Rattle.dn_volume.specs.declared.volume.InodeUse.{InodeUse}
use Rattle.dn_volume.specs.declared.volume.InodeUse.TheVariants as used
use Rattle.dn_volume.specs.declared.volume.Parts.{Parts}
use Rattle.dn_volume.specs.Inodes.{as_use}
use Rattle.dn_volume.specs.Parties.{Holds, Flies, by_client, by_daemon, by_cleaning}
use Rattle.dn_volume.specs.Planned.{PlansData}
use Rattle.dn_volume.specs.Flights.{IsFlightOf}
use Rattle.dn_volume.specs.Agrees.{IsVolume}
use Rattle.dn_volume.specs.Begins.{AreLoose, IsUnhindered, LacksInode, IsAnswerOf, of_files, no_inode, IsBusy}
use Rattle.begin_steps.specs.Held.{IsHeldAmong, AreLooseAmong}
use Rattle.begin_steps.proofs.Loose.{loose_all, held_first}
use Rattle.name_ops.specs.Creating.{NoneFreeBelow, IsLeastFree, FindsNone}
use Rattle.name_ops.specs.declared.found.Found.{Found}
use Rattle.name_ops.specs.Finding.{IsFound, IsAimed}
use Rattle.name_ops.proofs.FoundFiles.{legal_one, leads_so}

-- one inode more isn't free
pub none_next : (inodes : List InodeState) (k : ℕ) (x : InodeState) → k < length inodes → x ≡ get_or inodes k x → (x.used ≡ used.Free → ⊥)
    → NoneFreeBelow inodes k → NoneFreeBelow inodes (k + 1)
none_next inodes k x lt read taken before ino n some below at free = ⊎_elim (λ low. before ino n some low at free)
    (λ high.
    let last : ino ≡ k = omega (arith, below, high) in
    taken (ap (λ (m : InodeState). m.used) (one (slice_get inodes k) x n (slice_get_read inodes (length inodes) k x refl lt read)
    (ap (slice_get inodes) (sym last) ∙ at)) ∙ free)) (cases_lt ino k)
  where
    one : (o : Option InodeState) (x y : InodeState) → o ≡ Some x → o ≡ Some y → x ≡ y
    one o x y a b = cc

pub least_here : (inodes : List InodeState) (k : ℕ) (x : InodeState) → 1 ≤ k → k < length inodes → x ≡ get_or inodes k x → x.used ≡ used.Free
    → NoneFreeBelow inodes k → IsLeastFree inodes k
least_here inodes k x some lt read free before = record {
  file = some;
  node = x;
  at = slice_get_read inodes (length inodes) k x refl lt read;
  free = free;
  least = before;
}

use_free : (u : InodeUse) → Free ≡ as_use u → u ≡ used.Free
use_free used.Free is = refl
use_free used.Live is = absurd (cc is)
use_free (used.Dying cut) is = absurd (cc is)

not_live : (u : Use) → u ≡ Free → u ≡ Live → ⊥
not_live u free live = cc

-- where nothing waits, no inode is wanting but on the disk
pub none_waits : (b : Parts) → b.reclaiming.waiting ≡ 0 → (d : Disk) (name : List ℕ) → IsUnhindered d b (Create name) → LacksInode d (Create name)
    → IsAnswerOf d b (Create name) (Refused NoInode)
none_waits b nothing d name unhindered lacks = no_inode unhindered nothing lacks

module _ (d : Disk) (b : Parts) (s : State) (v : IsVolume d b s) (name : List ℕ) where
  pub bad_created : (IsLegal name → ⊥) → IsAnswerOf d b (Create name) (Refused BadName)
  bad_created not = of_files (Refused BadName) (bad_name (λ all. not (all 0 [] (omega arith))) refl)
      (λ granted. absurd (not (granted.legal 0 [] (omega arith))))

  pub exists_created : IsLegal name → (ino : ℕ) → Some ino ≡ get b.names.map name → IsAnswerOf d b (Create name) (Refused Exists)
  exists_created legal ino found =
      let leads = leads_so d b s v name (Some ino) found in
      of_files (Refused Exists) (missed (legal_one name legal) (λ none. clash (named d name) ino leads none) refl)
      (λ granted. absurd (clash (named d name) ino leads granted.finds))
    where
      clash : (o : Option ℕ) (i : ℕ) → o ≡ Some i → option_map (bytes d) o ≡ None → ⊥
      clash None i is none = cc is
      clash (Some j) i is none = cc none

  module _ (legal : IsLegal name) (absent : None ≡ get b.names.map name) where
    granted_created : IsGranted (files d) (Create name)
    granted_created = record {
      legal = legal_one name legal;
      finds = ap (option_map (bytes d)) (leads_so d b s v name None absent);
      short = tt;
      fits = tt;
    }

    root_small : 0 < length b.inodes.items
    root_small = let many = v.fast.valid.accepted.inodes in let all = v.inodes.all in omega (arith, many, all)

    pub small_created : All (λ i. i < length b.inodes.items) (0 ∷ [])
    small_created k x lt = let none : k ≡ 0 = omega (arith, lt) in subst (λ (j : ℕ). get_or (0 ∷ []) j x < length b.inodes.items) (sym none)
        root_small

    pub busy_created : (holder : ℕ) → IsHeldAmong b.inodes.items (0 ∷ []) holder → IsBusy d b (Create name) holder
    busy_created holder held = record { granted = granted_created; held = held_first d b s v (0 ∷ []) holder held }

    module _ (loose : AreLooseAmong b.inodes.items (0 ∷ [])) where
      root_loose : AreLoose b (0 ∷ [])
      root_loose = loose_all d b s v (0 ∷ []) small_created loose

      unhindered : IsUnhindered d b (Create name)
      unhindered = record { granted = granted_created; lasts = λ once. once; loose = root_loose }

      -- nobody holds an inode that is free
      data_holds : (f : Flight) (c : DataChange) (op : Op) → PlansData d f c op → f.held.items ≡ f.ino ∷ []
      data_holds f c (Create other) plans = absurd plans
      data_holds f c (Write other at text) plans = plans.held
      data_holds f c (Read other at count) plans = absurd plans
      data_holds f c (Cut other to) plans = plans.held
      data_holds f c (Remove other) plans = absurd plans
      data_holds f c (Rename from to) plans = absurd plans
      data_holds f c (Size other) plans = absurd plans
      data_holds f c ListAll plans = absurd plans

      not_flown : (q : ℕ) (f : Flight) → Flies b q f → (c : Change) → IsFlightOf d q f s c → (ino : ℕ) → Contains f.held.items ino
          → (d.inode ino).use_of ≡ Free → ⊥
      not_flown q f flies (Data c) is ino has free =
          let same : f.ino ≡ ino = ⊎_elim (λ e. e) (λ none. absurd (none_listed ino none)) (cons_cases f.ino ino []
          (subst (λ (xs : List ℕ). Contains xs ino) (data_holds f c f.op is.plans) has)) in
          not_live (d.inode ino).use_of free (ap (λ (i : ℕ). (d.inode i).use_of) (sym same) ∙ is.grows.live)
      not_flown q f flies (Names c) is ino has free = root_loose 0 q (0, omega arith, refl)
          (by_client f flies (subst (Contains f.held.items) is.root is.grows.holds))

      not_held : (ino q : ℕ) → (d.inode ino).use_of ≡ Free → Holds b q ino → ⊥
      not_held ino q free (by_client f flies has) = not_flown q f flies f.change (v.flights.each q f flies) ino has free
      not_held ino q free (by_daemon sharing is shares same) =
          not_live (d.inode ino).use_of free (ap (λ (i : ℕ). (d.inode i).use_of) (sym same) ∙ (v.sharing sharing shares).begun.live)
      not_held ino q free (by_cleaning cleaning is cleans same) =
          not_live (d.inode ino).use_of free (ap (λ (i : ℕ). (d.inode i).use_of) (sym same) ∙ (v.cleaning cleaning cleans).live)

      free_loose : (ino : ℕ) → (d.inode ino).use_of ≡ Free → AreLooseAmong b.inodes.items (ino ∷ [])
      free_loose ino free i n has at = by n.holder refl
        where
          same : ino ≡ i
          same = ⊎_elim (λ e. e) (λ none. absurd (none_listed i none)) (cons_cases ino i [] has)

          by : (o : Option ℕ) → n.holder ≡ o → n.holder ≡ None
          by None is = is
          by (Some q) is = absurd (not_held ino q free (subst (Holds b q) (sym same) ((v.holders.told i q n at).0 is)))

      kept_free : (ino : ℕ) (n : InodeState) → slice_get b.inodes.items ino ≡ Some n → (d.inode ino).use_of ≡ Free → n.used ≡ used.Free
      kept_free ino n at free = use_free n.used (sym free ∙ (v.inodes.each ino n at).use_is)

      none_on_disk : (end : ℕ) → NoneFreeBelow b.inodes.items end → (j : ℕ) → 1 ≤ j → j < end → j < d.geometry.inodes → (d.inode j).use_of ≡ Free → ⊥
      none_on_disk end none j some below lt free = ⊎_elim (λ found. none j found.0 some below found.2 (kept_free j found.0 found.2 free))
          (λ past. let all = v.inodes.all in let long = past.0 in omega (arith, lt, all, long)) (slice_get_cases b.inodes.items j).1

      pub aimed_created : (ino : ℕ) → IsLeastFree b.inodes.items ino → IsAimed d b (Create name) ino None
      aimed_created ino is =
          let free : (d.inode ino).use_of ≡ Free = (v.inodes.each ino is.node is.at).use_is ∙ ap as_use is.free in
          let small : ino < d.geometry.inodes = in_table ino is.node is.at in
          record {
            unhindered = unhindered;
            inode = λ lacks. lacks ino is.file small free;
            aims = record {
              alone = refl;
              file = is.file;
              in_table = small;
              free = free;
              least = λ j some below. none_on_disk ino is.least j some below (omega (arith, below, small));
              loose = free_loose ino free;
            };
          }
        where
          in_table : (i : ℕ) (n : InodeState) → slice_get b.inodes.items i ≡ Some n → i < d.geometry.inodes
          in_table i n at = ⊎_elim (λ found. let lt = found.1 in let all = v.inodes.all in omega (arith, lt, all))
              (λ past. absurd (clash (slice_get b.inodes.items i) past.1 at)) (slice_get_cases b.inodes.items i).1
            where
              clash : (o : Option InodeState) → o ≡ None → o ≡ Some n → ⊥
              clash o none some = cc

      pub none_created : NoneFreeBelow b.inodes.items (length b.inodes.items) → (found : Found) → FindsNone b found
          → IsFound d b (Create name) found
      none_created none found finds = finds d name unhindered (λ j some lt free. none_on_disk (length b.inodes.items) none j some
          (let all = v.inodes.all in omega (arith, lt, all)) lt free)
