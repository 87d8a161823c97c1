-- What the scripts of clients need is at least what some of their operations need.
use Rattle.std.proofs.Common.{◌≡◌, ◌≢◌, inl, inr, ℕ, suc, ◌+◌, ◌≤◌, Bool, List, [], ◌∷◌, refl, sym, ◌∙◌, ap, subst, arith}
use Rattle.std.specs.Prelude.{Some, Contains, slice_get, if◌then◌else◌}
use Rattle.std.proofs.lemmas.Bool.{cases_eq, eq-eqb, ne_eqb}
use Rattle.dn_model.specs.Disk.{Disk}
use Rattle.dn_model.specs.History.{IsNeed, AreNeeds}
use Rattle.dn_model.specs.declared.op.Op.{Op}
use Rattle.law_unique.proofs.Listings.{none_listed}
use Rattle.dn_volume.proofs.Needs.{Grown, AreGrown, no_scripts, one_script, more_needs}
use Rattle.job_runs.specs.Turns.{script_of}
use Rattle.job_runs.specs.Scripts.{Rises}
use Rattle.denova_runs.specs.Runs.{others_in}

-- as many scripts without operations, which need nothing
abbrev emptied : List (List Op) → List (List Op)
emptied [] = []
emptied (script ∷ scripts) = [] ∷ emptied scripts

none_needed : (d : Disk) (scripts : List (List Op)) → AreNeeds d (emptied scripts) 0
none_needed d [] = refl
none_needed d (script ∷ scripts) = (0, 0, refl, none_needed d scripts, refl)

emptied_grown : (scripts : List (List Op)) → AreGrown (emptied scripts) scripts
emptied_grown [] = no_scripts
emptied_grown (script ∷ scripts) = one_script [] script (emptied scripts) scripts (λ op has. absurd (none_listed op has)) (emptied_grown scripts)

-- any scripts need so many
some_needed : (d : Disk) (scripts : List (List Op)) → (m : ℕ) × AreNeeds d scripts m
some_needed d scripts =
    let more = more_needs d (emptied scripts) scripts 0 (emptied_grown scripts) (none_needed d scripts) in (more.0, more.1)

-- one script
longer_needs : (d : Disk) (short long : List Op) (k : ℕ) → Grown short long → IsNeed d short k → (n : ℕ) × IsNeed d long n × (k ≤ n)
longer_needs d short long k grown need =
    let more = more_needs d (short ∷ []) (long ∷ []) k (one_script short long [] [] grown no_scripts) (k, 0, need, refl, omega arith) in
    let parts = more.1 in
    let none = parts.3 in
    let sum = parts.4 in
    let le = more.2 in
    (parts.0, parts.2, omega (arith, none, sum, le))

empty_needs : (d : Disk) (short : List Op) (k : ℕ) → ((op : Op) → Contains short op → ⊥) → IsNeed d short k → k ≡ 0
empty_needs d short k none need =
    let more = longer_needs d short [] k (λ op has. absurd (none op has)) need in
    let zero_is = more.1 in
    let le = more.2 in
    omega (arith, zero_is, le)

-- what these scripts need is at most what those of the other clients need
abbrev NeedsMore : Disk → ℕ → List (ℕ × List Op) → ℕ → Type 0
NeedsMore d who cs n = (m : ℕ) × AreNeeds d (others_in cs who) m × (n ≤ m)

-- the scripts of clients from low + 1 on have only operations of the other clients' scripts
abbrev AreOf : ℕ → ℕ → List (List Op) → List (ℕ × List Op) → Type 0
AreOf who low shorts cs = (i q : ℕ) (ops : List Op) (op : Op) → q ≡ low + i + 1 → slice_get shorts i ≡ Some ops → Contains ops op
    → (q ≢ who) × Contains (script_of cs q) op

script_after : (c : ℕ × List Op) (cs : List (ℕ × List Op)) (q : ℕ) → c.0 ≢ q → script_of (c ∷ cs) q ≡ script_of cs q
script_after c cs q apart = ap (λ (b : Bool). if b then c.1 else script_of cs q) (ne_eqb c.0 q apart)

script_here : (c : ℕ × List Op) (cs : List (ℕ × List Op)) (q : ℕ) → c.0 ≡ q → script_of (c ∷ cs) q ≡ c.1
script_here c cs q same = ap (λ (b : Bool). if b then c.1 else script_of cs q) (eq-eqb c.0 q same)

-- a client below all has no script
script_below : (low q : ℕ) (cs : List (ℕ × List Op)) → Rises low cs → q ≤ low → script_of cs q ≡ []
script_below low q [] rises le = refl
script_below low q (c ∷ cs) rises le =
    let above = rises.0 in
    script_after c cs q (λ same. omega (arith, above, le, same)) ∙ script_below c.0 q cs rises.2 (omega (arith, above, le))

tail_of : (who low : ℕ) (short : List Op) (shorts : List (List Op)) (cs : List (ℕ × List Op)) → AreOf who low (short ∷ shorts) cs
    → AreOf who (low + 1) shorts cs
tail_of who low short shorts cs are i q ops op is at has = are (suc i) q ops op (omega (arith, is)) at has

-- the first client's script is this one
module _ (d : Disk) (who low : ℕ) (short : List Op) (c : ℕ × List Op) (cs : List (ℕ × List Op)) (k rest n : ℕ) (need : IsNeed d short k)
    (sum : n ≡ k + rest) (more : NeedsMore d who cs rest) where
  abbrev le : rest ≤ more.0
  le = more.2

  by_own : c.0 ≡ who → ((op : Op) → Contains short op → ⊥) → NeedsMore d who (c ∷ cs) n
  by_own same none =
      let zero_is = empty_needs d short k none need in
      let test : others_in (c ∷ cs) who ≡ others_in cs who =
      ap (λ (b : Bool). if b then others_in cs who else c.1 ∷ others_in cs who) (eq-eqb c.0 who same) in
      (more.0, subst (λ (scripts : List (List Op)). AreNeeds d scripts more.0) (sym test) more.1, omega (arith, zero_is, sum, le))

  by_other : c.0 ≢ who → Grown short c.1 → NeedsMore d who (c ∷ cs) n
  by_other apart grown =
      let one = longer_needs d short c.1 k grown need in
      let least = one.2 in
      let test : others_in (c ∷ cs) who ≡ c.1 ∷ others_in cs who =
      ap (λ (b : Bool). if b then others_in cs who else c.1 ∷ others_in cs who) (ne_eqb c.0 who apart) in (
        one.0 + more.0,
        subst (λ (scripts : List (List Op)). AreNeeds d scripts (one.0 + more.0)) (sym test) (one.0, more.0, one.1, more.1, refl),
        omega (arith, least, sum, le),
      )

  here_more : c.0 ≡ low + 1 → ((op : Op) → Contains short op → (low + 1 ≢ who) × Contains c.1 op) → NeedsMore d who (c ∷ cs) n
  here_more at has = elim (cases_eq c.0 who) [
    | inl same ↦ by_own same (λ op there. (has op there).0 (sym at ∙ same))
    | inr apart ↦ by_other apart (λ op there. (has op there).1)
  ]

pub others_need : (d : Disk) (who low : ℕ) (shorts : List (List Op)) (cs : List (ℕ × List Op)) (n : ℕ) → Rises low cs → AreOf who low shorts cs
    → AreNeeds d shorts n → NeedsMore d who cs n
others_need d who low [] cs n rises are needs =
    let some = some_needed d (others_in cs who) in (some.0, some.1, omega (arith, needs))
others_need d who low (short ∷ shorts) [] n rises are (k, rest, need, needs, sum) =
    let more = others_need d who (low + 1) shorts [] rest tt (tail_of who low short shorts [] are) needs in
    let zero_is = empty_needs d short k (λ op has. none_listed op (are 0 (low + 0 + 1) short op refl refl has).1) need in
    let least = more.2 in
    (more.0, more.1, omega (arith, zero_is, sum, least))
others_need d who low (short ∷ shorts) (c ∷ cs) n rises are (k, rest, need, needs, sum) = elim (cases_eq c.0 (low + 1)) [
  | inl at ↦ here_more d who low short c cs k rest n need sum
      (others_need d who (low + 1) shorts cs rest (subst (λ (m : ℕ). Rises m cs) at rises.2)
      (λ i q ops op is there has. let told = are (suc i) q ops op (omega (arith, is)) there has in (
        told.0,
        subst (λ (xs : List Op). Contains xs op) (script_after c cs q (λ same. omega (arith, at, is, same))) told.1,
      )) needs)
      at
      (λ op has. let told = are 0 (low + 1) short op (omega arith) refl has in (
        told.0,
        subst (λ (xs : List Op). Contains xs op) (script_here c cs (low + 1) at) told.1,
      ))
  | inr apart ↦
      let above = rises.0 in
      let risen : Rises (low + 1) (c ∷ cs) = (omega (arith, above, apart), rises.1, rises.2) in
      let all = others_need d who (low + 1) shorts (c ∷ cs) rest risen (tail_of who low short shorts (c ∷ cs) are) needs in
      let zero_is = empty_needs d short k
      (λ op has. none_listed op (subst (λ (xs : List Op). Contains xs op) (script_below (low + 1) (low + 1) (c ∷ cs) risen (omega arith))
      (are 0 (low + 1) short op (omega arith) refl has).1)) need in
      let least = all.2 in
      (all.0, all.1, omega (arith, zero_is, sum, least))
]
