-- That a history is one of clients' scripts.
use Rattle.std.specs.Prelude.{◌≡◌, ◌⊎◌, ℕ, ◌<◌, ◌≤◌, List, [], ◌∷◌, ◌++◌, map}
use Rattle.dn_model.specs.declared.op.Op.{Op}
use Rattle.dn_model.specs.declared.op.Entry.{Entry}
use Rattle.job_runs.specs.declared.plan.Order.{Order}
use Rattle.job_runs.specs.declared.plan.Order.TheVariants.{Alone, InTurns, WithRest}
use Rattle.job_runs.specs.Turns.{script_of, entries_of}

abbrev pub ops_of : List Entry → List Op
ops_of entries = map (λ (e : Entry). e.op) entries

-- each client's entries are its script's operations, in order and all of them
pub record IsScripted (scripts : List (ℕ × List Op)) (history : List Entry) : Type 0 where
  pub each : (who : ℕ) → ops_of (entries_of who history) ≡ script_of scripts who

-- or the first of them
pub record IsFront (scripts : List (ℕ × List Op)) (history : List Entry) : Type 0 where
  pub each : (who : ℕ) → (rest : List Op)
      × (script_of scripts who ≡ ops_of (entries_of who history) ++ rest)

-- the operation that follows those of a client
pub record IsNextOp (scripts : List (ℕ × List Op)) (history : List Entry) (op : Op) : Type 0 where
  pub who : ℕ
  pub rest : List Op
  pub next : script_of scripts who ≡ ops_of (entries_of who history) ++ op ∷ rest

-- the numbers of clients rise, from above one number to at most 14
abbrev pub Rises : ℕ → List (ℕ × List Op) → Type 0
Rises low [] = Unit {0}
Rises low (c ∷ cs) = (low < c.0) × (c.0 ≤ 14) × Rises c.0 cs

-- where an order gives turns to client 1 alone, there is no other
abbrev pub IsAlone : List (ℕ × List Op) → Type 0
IsAlone scripts = (scripts ≡ []) ⊎ ((own : List Op) × (scripts ≡ (1, own) ∷ []))

abbrev pub Suits : Order → List (ℕ × List Op) → Type 0
Suits Alone scripts = IsAlone scripts
Suits InTurns scripts = Unit {0}
Suits WithRest scripts = IsAlone scripts
