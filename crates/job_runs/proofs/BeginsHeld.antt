-- Who holds what a begin has to hold has to hold the root too, or the same file.
use Rattle.std.proofs.Common.{◌≡◌, ◌≢◌, ◌⊎◌, inl, inr, ⊎_elim, ℕ, Bool, true, false, List, [], ◌∷◌, ◌++◌, refl, sym, ap, subst, ◌∙◌, arith}
use Rattle.std.specs.Prelude.{Option, Some, None, Contains, if◌then◌else◌}
use Rattle.std.specs.Option.{option_map}
use Rattle.std.proofs.lemmas.List.Elements.{Contains-append_cases}
use Rattle.pm_device.specs.State.{State}
use Rattle.log_entry.specs.Name.{same_name}
use Rattle.log_entry.proofs.SameName.{same_name-same}
use Rattle.dn_model.specs.Disk.{Disk, Use, Free, Live}
use Rattle.dn_model.specs.Valid.{IsValid}
use Rattle.dn_model.specs.Files.{Files, files, named, bytes}
use Rattle.dn_model.specs.declared.op.Op.{Op}
use Rattle.dn_model.specs.declared.op.Op.TheVariants.{Create, Write, Read, Cut, Remove, Rename, Size, List as ListAll}
use Rattle.law_unique.proofs.Listings.{here, later, none_listed, cons_cases}
use Rattle.law_names.specs.NameChange.{NameChange as DiskChange}
use Rattle.law_names.proofs.Links.{names_eq}
use Rattle.law_names.proofs.Operating.{named_file, named_live, named_once}
use Rattle.dn_volume.specs.declared.flight.Flight.{Flight}
use Rattle.dn_volume.specs.declared.flight.Change.{Change}
use Rattle.dn_volume.specs.declared.flight.Change.TheVariants.{Data, Names}
use Rattle.dn_volume.specs.declared.flight.DataChange.{DataChange}
use Rattle.dn_volume.specs.Planned.{PlansData}
use Rattle.dn_volume.specs.PlannedNames.{PlansNames, inode_list}
use Rattle.dn_volume.specs.Flights.{IsFlight, IsFlightOf}
use Rattle.dn_volume.specs.Begins.{IsAtOnce, wants}
use Rattle.job_runs.specs.Plays.{other_name, holds_root, held_names, HoldsAny, Meet}

-- the inode is the root, which the operation has to hold, or that of a name which it has to
abbrev pub IsFor : Disk → Op → ℕ → Type 0
IsFor d op i = ((i ≡ 0) × (holds_root op ≡ true))
    ⊎ ((name : List ℕ) × Contains (held_names (files d) op) name × (named d name ≡ Some i))

one_listed : (x z : ℕ) → Contains (x ∷ []) z → x ≡ z
one_listed x z has = ⊎_elim (λ e. e) (λ rest. absurd (none_listed z rest)) (cons_cases x z [] has)

in_list : (o : Option ℕ) (i : ℕ) → Contains (inode_list o) i → o ≡ Some i
in_list None i has = absurd (none_listed i has)
in_list (Some ino) i has = ap (λ (n : ℕ). Some n) (one_listed ino i has)

module _ (d : Disk) where
  -- a renaming between two names
  module _ (from to : List ℕ) (away : same_name from to ≡ false) where
    renamed_root : holds_root (Rename from to) ≡ true
    renamed_root = ap (λ (t : Bool). if t then false else true) away

    renamed_names : held_names (files d) (Rename from to) ≡ from ∷ other_name to (files d to)
    renamed_names = ap (λ (t : Bool). if t then [] else from ∷ other_name to (files d to)) away

    holds_from : Contains (held_names (files d) (Rename from to)) from
    holds_from = subst (λ (names : List (List ℕ)). Contains names from) (sym renamed_names) (here from (other_name to (files d to)))

    holds_to : (i : ℕ) → named d to ≡ Some i → Contains (held_names (files d) (Rename from to)) to
    holds_to i leads = subst (λ (names : List (List ℕ)). Contains names to) (sym (renamed_names ∙ listed))
        (later from to (to ∷ []) (here to []))
      where
        listed : from ∷ other_name to (files d to) ≡ from ∷ to ∷ []
        listed = ap (λ (o : Option ℕ). from ∷ other_name to (option_map (bytes d) o)) leads

    renamed_for : (i : ℕ) → Contains (0 ∷ inode_list (named d from) ++ inode_list (named d to)) i → IsFor d (Rename from to) i
    renamed_for i has = ⊎_elim
        (λ (root : 0 ≡ i). inl (sym root, renamed_root))
        (λ (rest : Contains (inode_list (named d from) ++ inode_list (named d to)) i). ⊎_elim
        (λ (first : Contains (inode_list (named d from)) i). inr (from, holds_from, in_list (named d from) i first))
        (λ (other : Contains (inode_list (named d to)) i). inr (to, holds_to i (in_list (named d to) i other), in_list (named d to) i other))
        (Contains-append_cases (inode_list (named d from)) (inode_list (named d to)) i rest))
        (cons_cases 0 i (inode_list (named d from) ++ inode_list (named d to)) has)

  -- what a begin wants
  pub wanted_for : (op : Op) (i : ℕ) → Contains (wants d op) i → IsFor d op i
  wanted_for (Create name) i has = inl (sym (one_listed 0 i has), refl)
  wanted_for (Write name at []) i has = absurd (none_listed i has)
  wanted_for (Write name at (b ∷ text)) i has = inr (name, here name [], in_list (named d name) i has)
  wanted_for (Read name at count) i has = absurd (none_listed i has)
  wanted_for (Cut name to) i has = inr (name, here name [], in_list (named d name) i has)
  wanted_for (Remove name) i has = ⊎_elim
      (λ (root : 0 ≡ i). inl (sym root, refl))
      (λ (rest : Contains (inode_list (named d name)) i). inr (name, here name [], in_list (named d name) i rest))
      (cons_cases 0 i (inode_list (named d name)) has)
  wanted_for (Rename from to) i has = by (same_name from to) refl has
    where
      by : (t : Bool) → same_name from to ≡ t
          → Contains (if t then [] else 0 ∷ inode_list (named d from) ++ inode_list (named d to)) i → IsFor d (Rename from to) i
      by true test has' = absurd (none_listed i has')
      by false test has' = renamed_for from to test i has'
  wanted_for (Size name) i has = absurd (none_listed i has)
  wanted_for ListAll i has = absurd (none_listed i has)

  pub holds_any : (op : Op) (i : ℕ) → IsFor d op i → HoldsAny (files d) op
  holds_any op i (inl root) = inl root.1
  holds_any op i (inr file) = inr (file.0, file.1)

  -- what an operation in flight holds: a new file's inode leads nowhere yet
  abbrev IsForOrNew : Op → ℕ → Type 0
  IsForOrNew op i = IsFor d op i ⊎ ((d.inode i).use_of ≡ Free)

  module _ (f : Flight) where
    data_for : (c : DataChange) (op : Op) → PlansData d f c op → (i : ℕ) → Contains f.held.items i → IsFor d op i
    data_for c (Create name) plans i has = absurd plans
    data_for c (Write name at []) plans i has = absurd (let some = plans.some in omega (arith, some))
    data_for c (Write name at (b ∷ text)) plans i has =
        let same = one_listed f.ino i (subst (λ (xs : List ℕ). Contains xs i) plans.held has) in
        inr (name, here name [], plans.leads ∙ ap (λ (n : ℕ). Some n) same)
    data_for c (Read name at count) plans i has = absurd plans
    data_for c (Cut name to) plans i has =
        let same = one_listed f.ino i (subst (λ (xs : List ℕ). Contains xs i) plans.held has) in
        inr (name, here name [], plans.leads ∙ ap (λ (n : ℕ). Some n) same)
    data_for c (Remove name) plans i has = absurd plans
    data_for c (Rename from to) plans i has = absurd plans
    data_for c (Size name) plans i has = absurd plans
    data_for c ListAll plans i has = absurd plans

    names_for : (change : DiskChange) (op : Op) → PlansNames d f change op → (i : ℕ) → Contains f.held.items i → IsForOrNew op i
    names_for change (Create name) plans i has = ⊎_elim
        (λ (root : 0 ≡ i). inl (inl (sym root, refl)))
        (λ (rest : Contains (change.ino ∷ []) i). inr (subst (λ (n : ℕ). (d.inode n).use_of ≡ Free) (one_listed change.ino i rest) plans.free))
        (cons_cases 0 i (change.ino ∷ []) (subst (λ (xs : List ℕ). Contains xs i) plans.held has))
    names_for change (Write name at text) plans i has = absurd plans
    names_for change (Read name at count) plans i has = absurd plans
    names_for change (Cut name to) plans i has = absurd plans
    names_for change (Remove name) plans i has = ⊎_elim
        (λ (root : 0 ≡ i). inl (inl (sym root, refl)))
        (λ (rest : Contains (change.ino ∷ []) i). inl (inr (
          name,
          here name [],
          plans.leads ∙ ap (λ (n : ℕ). Some n) (one_listed change.ino i rest),
        )))
        (cons_cases 0 i (change.ino ∷ []) (subst (λ (xs : List ℕ). Contains xs i) plans.held has))
    names_for change (Rename from to) plans i has = inl (renamed_for from to away i (subst (λ (xs : List ℕ). Contains xs i) held has))
      where
        away : same_name from to ≡ false
        away = ⊎_elim (λ (same : (same_name from to ≡ true) × (to ≡ from)). absurd (plans.apart (sym same.1)))
            (λ (other : (same_name from to ≡ false) × (to ≢ from)). other.0) (names_eq from to)

        held : f.held.items ≡ 0 ∷ inode_list (named d from) ++ inode_list (named d to)
        held = plans.held ∙ ap (λ (o : Option ℕ). 0 ∷ plans.ino ∷ inode_list o) (sym plans.replaces)
            ∙ ap (λ (o : Option ℕ). 0 ∷ inode_list o ++ inode_list (named d to)) (sym plans.leads)
    names_for change (Size name) plans i has = absurd plans
    names_for change ListAll plans i has = absurd plans

    held_so : (who : ℕ) (s : State) (c : Change) → IsFlightOf d who f s c → (i : ℕ) → Contains f.held.items i → IsForOrNew f.op i
    held_so who s (Data c) is i has = inl (data_for c f.op is.plans i has)
    held_so who s (Names c) is i has = names_for is.change f.op is.plans i has

    held_for : (who : ℕ) (s : State) → IsFlight d who f s → (i : ℕ) → Contains f.held.items i → IsForOrNew f.op i
    held_for who s is i has = held_so who s f.change is i has

  module _ (valid : IsValid d) where
    -- the root has no name, and a name is no other's
    no_root : (name : List ℕ) (i : ℕ) → i ≡ 0 → named d name ≡ Some i → ⊥
    no_root name i root leads = let file = (named_file d valid name i leads).0 in omega (arith, root, file)

    one_name : (name other : List ℕ) (i : ℕ) → named d name ≡ Some i → named d other ≡ Some i → other ≡ name
    one_name name other i leads too = let once = named_once d valid name i leads in once.alone other too ∙ sym (once.alone name leads)

    both_for : (a b : Op) (i : ℕ) → IsFor d a i → IsFor d b i → Meet (files d) a b
    both_for a b i (inl root) (inl other) = inl (root.1, other.1)
    both_for a b i (inl root) (inr file) = absurd (no_root file.0 i root.0 file.2)
    both_for a b i (inr file) (inl root) = absurd (no_root file.0 i root.0 file.2)
    both_for a b i (inr file) (inr other) = inr (
      file.0,
      file.1,
      subst (λ (name : List ℕ). Contains (held_names (files d) b) name) (one_name file.0 other.0 i file.2 other.2) other.1,
    )

    live_free : (u : Use) → u ≡ Live → u ≡ Free → ⊥
    live_free u live free = cc

    not_new : (op : Op) (i : ℕ) → IsFor d op i → (d.inode i).use_of ≡ Free → ⊥
    not_new op i (inl root) free = live_free (d.inode i).use_of (ap (λ (n : ℕ). (d.inode n).use_of) root.0 ∙ valid.root) free
    not_new op i (inr file) free = live_free (d.inode i).use_of (named_live d valid file.0 i file.2) free

    -- a begin wants what an operation in flight holds
    pub begin_meets : (op : Op) (i : ℕ) → Contains (wants d op) i → (f : Flight) (who : ℕ) (s : State) → IsFlight d who f s
        → Contains f.held.items i → Meet (files d) op f.op
    begin_meets op i wanted f who s is has = ⊎_elim
        (λ (other : IsFor d f.op i). both_for op f.op i (wanted_for op i wanted) other)
        (λ (free : (d.inode i).use_of ≡ Free). absurd (not_new op i (wanted_for op i wanted) free)) (held_for f who s is i has)

-- what is answered at once has to hold nothing
pub once_holds : (f : Files) (op : Op) → IsAtOnce op → HoldsAny f op → ⊥
once_holds f (Create name) once any = once
once_holds f (Write name at []) once (inl root) = cc root
once_holds f (Write name at []) once (inr file) = none_listed file.0 file.1
once_holds f (Write name at (b ∷ text)) once any = cc once
once_holds f (Read name at count) once (inl root) = cc root
once_holds f (Read name at count) once (inr file) = none_listed file.0 file.1
once_holds f (Cut name to) once any = once
once_holds f (Remove name) once any = once
once_holds f (Rename from to) once any = by same_so any
  where
    same_so : same_name from to ≡ true
    same_so = subst (λ (name : List ℕ). same_name from name ≡ true) once (same_name-same from)

    by : same_name from to ≡ true → HoldsAny f (Rename from to) → ⊥
    by test (inl root) =
        let no : false ≡ true = sym (ap (λ (t : Bool). if t then false else true) test) ∙ root in
        cc
    by test (inr file) = none_listed file.0 (subst (λ (names : List (List ℕ)). Contains names file.0)
        (ap (λ (t : Bool). if t then [] else from ∷ other_name to (f to)) test) file.1)
once_holds f (Size name) once (inl root) = cc root
once_holds f (Size name) once (inr file) = none_listed file.0 file.1
once_holds f ListAll once (inl root) = cc root
once_holds f ListAll once (inr file) = none_listed file.0 file.1
