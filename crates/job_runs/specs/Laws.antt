-- What is so of every run of scripts.
use Rattle.std.specs.Prelude.{◌≡◌, ℕ, List, Some, Contains}
use Rattle.dn_model.specs.Files.{Files}
use Rattle.dn_model.specs.declared.op.Op.{Op}
use Rattle.dn_model.specs.declared.op.Entry.{Entry}
use Rattle.job_runs.specs.declared.plan.Order.{Order}
use Rattle.job_runs.specs.Turns.{Played, next_op, numbers_in}
use Rattle.job_runs.specs.Plays.{Move, Plays, PlayedAll}
use Rattle.job_runs.specs.Scripts.{IsScripted, IsFront, IsNextOp, Suits}

-- what was played is the front of each script
abbrev pub PlaysAreFronts : Type 0
PlaysAreFronts = (order : Order) (scripts : List (ℕ × List Op)) (turns : List ℕ) (old : Files)
    (moves : List Move) (p : Played) → Plays order scripts turns old moves p
    → IsFront scripts p.entries

-- and each script whole once nothing is next
abbrev pub WholePlaysAreScripted : Type 0
WholePlaysAreScripted = (order : Order) (scripts : List (ℕ × List Op)) (turns : List ℕ)
    (old : Files) (moves : List Move) (p : Played) → Suits order scripts
    → PlayedAll order scripts turns old moves p → IsScripted scripts p.entries

-- a client's next operation follows those that it has entries of
abbrev pub NextOpsFollow : Type 0
NextOpsFollow = (scripts : List (ℕ × List Op)) (entries : List Entry) (who : ℕ) (op : Op)
    → IsFront scripts entries → next_op scripts entries who ≡ Some op
    → IsNextOp scripts entries op

-- who has an entry has a script
abbrev pub EntriesAreOfClients : Type 0
EntriesAreOfClients = (scripts : List (ℕ × List Op)) (entries : List Entry) (entry : Entry)
    → IsFront scripts entries → Contains entries entry
    → Contains (numbers_in scripts) entry.who
