-- What the begin of a removal or a renaming finds.
use Rattle.std.proofs.Common.{◌≡◌, ◌≢◌, ℕ, zero, suc, ◌<◌, true, false, List, [], ◌∷◌, length, refl, sym, ◌∙◌, subst, arith, Option, Some, None}
use Rattle.std.specs.Prelude.{Contains, All, IsSome, get_or}
use Rattle.std.specs.Option.{option_map}
use Rattle.std.specs.FinMap.{get}
use Rattle.pm_device.specs.State.{State}
use Rattle.log_entry.specs.Name.{IsLegal}
use Rattle.law_names.proofs.Operating.{named_file}
use Rattle.dn_model.specs.Disk.{Disk}
use Rattle.dn_model.specs.Files.{named, files, bytes}
use Rattle.dn_model.specs.Apply.{IsGranted, grants, bad_name, missed}
use Rattle.dn_model.specs.declared.op.Op.TheVariants.{Remove, Rename}
use Rattle.dn_model.specs.declared.op.Reply.TheVariants.{Refused, Done}
use Rattle.dn_model.specs.declared.op.Refusal.TheVariants.{BadName, NotFound}
use Rattle.dn_volume.specs.declared.volume.Parts.{Parts}
use Rattle.dn_volume.specs.PlannedNames.{inode_list}
use Rattle.dn_volume.specs.Agrees.{IsVolume}
use Rattle.dn_volume.specs.Begins.{AreLoose, IsHeldFirst, IsAnswerOf, of_files, IsBusy}
use Rattle.begin_steps.specs.Held.{IsHeldAmong, AreLooseAmong}
use Rattle.begin_steps.proofs.Loose.{loose_all, held_first}
use Rattle.name_ops.specs.Finding.{IsAimed}
use Rattle.name_ops.proofs.Aimed.{each_held, wants_removed, wants_renamed}

-- one legal name, and two
pub legal_one : (name : List ℕ) → IsLegal name → All IsLegal (name ∷ [])
legal_one name legal = λ k d lt. by k d lt
  where
    by : (k : ℕ) (d : List ℕ) → k < 1 → IsLegal (get_or (name ∷ []) k d)
    by k d lt = subst (λ (j : ℕ). IsLegal (get_or (name ∷ []) j d)) (let zero' : 0 ≡ k = omega (arith, lt) in zero') legal

pub legal_two : (from to : List ℕ) → IsLegal from → IsLegal to → All IsLegal (from ∷ to ∷ [])
legal_two from to one other zero d lt = one
legal_two from to one other (suc zero) d lt = other
legal_two from to one other (suc (suc k)) d lt = absurd (omega (arith, lt))

some_file : (d : Disk) (o : Option ℕ) (i : ℕ) → o ≡ Some i → IsSome (option_map (bytes d) o)
some_file d o i is = subst (λ (x : Option ℕ). IsSome (option_map (bytes d) x)) (sym is) refl

no_file : (d : Disk) (o : Option ℕ) → o ≡ None → IsSome (option_map (bytes d) o) → ⊥
no_file d o none some = clash (subst (λ (x : Option ℕ). IsSome (option_map (bytes d) x)) none some)
  where
    clash : false ≡ true → ⊥
    clash low = cc low

module _ (d : Disk) (b : Parts) (s : State) (v : IsVolume d b s) where
  -- the bytes lead there on the disk too
  pub leads_so : (name : List ℕ) (o : Option ℕ) → o ≡ get b.names.map name → named d name ≡ o
  leads_so name o is = sym (v.names.leads name) ∙ sym is

  named_small : (name : List ℕ) (i : ℕ) → named d name ≡ Some i → i < length b.inodes.items
  named_small name i leads = let small = (named_file d v.fast.valid name i leads).1 in let all = v.inodes.all in omega (arith, small, all)

  root_small : 0 < length b.inodes.items
  root_small = let many = v.fast.valid.accepted.inodes in let all = v.inodes.all in omega (arith, many, all)

  all_small : (P : ℕ → Type 0) (xs : List ℕ) → ((i : ℕ) → Contains xs i → P i) → All P xs
  all_small P xs each = λ k x lt. each (get_or xs k x) (listed xs k x lt)
    where
      listed : (ys : List ℕ) (k x : ℕ) → k < length ys → Contains ys (get_or ys k x)
      listed ys k x lt = (k, lt, same ys k x lt)
        where
          same : (ys : List ℕ) (k x : ℕ) → k < length ys → get_or ys k (get_or ys k x) ≡ get_or ys k x
          same [] k x lt = absurd (omega (arith, lt))
          same (y ∷ ys) zero x lt = refl
          same (y ∷ ys) (suc k) x lt = same ys k x (omega (arith, lt))

  -- Of a removal.
  module _ (name : List ℕ) where
    pub bad_removed : (IsLegal name → ⊥) → IsAnswerOf d b (Remove name) (Refused BadName)
    bad_removed not = of_files (Refused BadName) (bad_name (λ all. not (all 0 [] (omega arith))) refl)
        (λ granted. absurd (not (granted.legal 0 [] (omega arith))))

    pub missed_removed : IsLegal name → None ≡ get b.names.map name → IsAnswerOf d b (Remove name) (Refused NotFound)
    missed_removed legal none =
        let gone = no_file d (named d name) (leads_so name None none) in
        of_files (Refused NotFound) (missed (legal_one name legal) gone refl) (λ granted. absurd (gone granted.finds))

    module _ (legal : IsLegal name) (ino : ℕ) (found : Some ino ≡ get b.names.map name) where
      leads : named d name ≡ Some ino
      leads = leads_so name (Some ino) found

      granted_removed : IsGranted (files d) (Remove name)
      granted_removed = record { legal = legal_one name legal; finds = some_file d (named d name) ino leads; short = tt; fits = tt }

      pub small_removed : All (λ i. i < length b.inodes.items) (0 ∷ ino ∷ [])
      small_removed = all_small (λ i. i < length b.inodes.items) (0 ∷ ino ∷ [])
          (each_held (λ i. i < length b.inodes.items) ino None root_small (named_small name ino leads) (λ k is. absurd (cc is)))

      pub busy_removed : (holder : ℕ) → IsHeldAmong b.inodes.items (0 ∷ ino ∷ []) holder → IsBusy d b (Remove name) holder
      busy_removed holder held = record {
        granted = granted_removed;
        held = subst (λ (xs : List ℕ). IsHeldFirst b xs holder) (sym (wants_removed d b s v name ino leads))
            (held_first d b s v (0 ∷ ino ∷ []) holder held);
      }

      pub aimed_removed : AreLooseAmong b.inodes.items (0 ∷ ino ∷ []) → IsAimed d b (Remove name) ino None
      aimed_removed loose = record {
        unhindered = record {
          granted = granted_removed;
          lasts = λ once. once;
          loose = subst (AreLoose b) (sym (wants_removed d b s v name ino leads)) (loose_all d b s v (0 ∷ ino ∷ []) small_removed loose);
        };
        inode = λ lacks. lacks;
        aims = record { alone = refl; leads = leads };
      }

  -- Of a renaming.
  module _ (from to : List ℕ) where
    pub bad_renamed : (IsLegal from → IsLegal to → ⊥) → IsAnswerOf d b (Rename from to) (Refused BadName)
    bad_renamed not = of_files (Refused BadName) (bad_name (λ all. not (all 0 [] (omega arith)) (all 1 [] (omega arith))) refl)
        (λ granted. absurd (not (granted.legal 0 [] (omega arith)) (granted.legal 1 [] (omega arith))))

    module _ (legal_from : IsLegal from) (legal_to : IsLegal to) where
      pub missed_renamed : None ≡ get b.names.map from → IsAnswerOf d b (Rename from to) (Refused NotFound)
      missed_renamed none =
          let gone = no_file d (named d from) (leads_so from None none) in
          of_files (Refused NotFound) (missed (legal_two from to legal_from legal_to) gone refl) (λ granted. absurd (gone granted.finds))

      module _ (ino : ℕ) (found : Some ino ≡ get b.names.map from) where
        leads_from : named d from ≡ Some ino
        leads_from = leads_so from (Some ino) found

        granted_renamed : IsGranted (files d) (Rename from to)
        granted_renamed = record {
          legal = legal_two from to legal_from legal_to;
          finds = some_file d (named d from) ino leads_from;
          short = tt;
          fits = tt;
        }

        pub same_renamed : from ≡ to → IsAnswerOf d b (Rename from to) Done
        same_renamed same = of_files Done (grants granted_renamed.legal granted_renamed.finds tt tt refl) (λ granted. same)

        module _ (apart : from ≢ to) (other : Option ℕ) (replaces : other ≡ get b.names.map to) where
          leads_to : named d to ≡ other
          leads_to = leads_so to other replaces

          pub small_renamed : All (λ i. i < length b.inodes.items) (0 ∷ ino ∷ inode_list other)
          small_renamed = all_small (λ i. i < length b.inodes.items) (0 ∷ ino ∷ inode_list other)
              (each_held (λ i. i < length b.inodes.items) ino other root_small (named_small from ino leads_from)
              (λ k is. named_small to k (leads_to ∙ is)))

          pub busy_renamed : (holder : ℕ) → IsHeldAmong b.inodes.items (0 ∷ ino ∷ inode_list other) holder → IsBusy d b (Rename from to) holder
          busy_renamed holder held = record {
            granted = granted_renamed;
            held = subst (λ (xs : List ℕ). IsHeldFirst b xs holder) (sym (wants_renamed d b s v from to ino other apart leads_from leads_to))
                (held_first d b s v (0 ∷ ino ∷ inode_list other) holder held);
          }

          pub aimed_renamed : AreLooseAmong b.inodes.items (0 ∷ ino ∷ inode_list other) → IsAimed d b (Rename from to) ino other
          aimed_renamed loose = record {
            unhindered = record {
              granted = granted_renamed;
              lasts = apart;
              loose = subst (AreLoose b) (sym (wants_renamed d b s v from to ino other apart leads_from leads_to))
                  (loose_all d b s v (0 ∷ ino ∷ inode_list other) small_renamed loose);
            };
            inode = λ lacks. lacks;
            aims = record { apart = apart; leads = leads_from; replaces = leads_to };
          }
