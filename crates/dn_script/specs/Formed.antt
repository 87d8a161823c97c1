-- What every job is, whatever its text.
use Rattle.std.specs.Prelude.{◌≡◌, ◌≢◌, ◌⊎◌, ℕ, ◌<◌, ◌≤◌, true, List, [], ◌∷◌, All}
use Rattle.dn_script.specs.declared.job.Job.{Job}
use Rattle.dn_script.specs.declared.job.Line.{Line}
use Rattle.dn_script.specs.declared.line.JobForm.{JobForm}
use Rattle.dn_script.specs.declared.line.JobForm.TheVariants.{Apply, Replay}
use Rattle.dn_script.specs.Job.{is_actor}

-- the numbers of clients rise, from above one number to at most another
abbrev pub Rises : ℕ → ℕ → List (ℕ × List Line) → Type 0
Rises low high [] = Unit {0}
Rises low high (c ∷ cs) = (low < c.0) × (c.0 ≤ high) × Rises c.0 high cs

-- at most client 1
abbrev pub IsAlone : List (ℕ × List Line) → Type 0
IsAlone clients = (clients ≡ []) ⊎ ((own : List Line) × (clients ≡ (1, own) ∷ []))

pub record IsJob (form : JobForm) (job : Job) : Type 0 where
  pub clients : Rises 0 14 job.clients
  pub turns : All (λ n. is_actor job.clients n ≡ true) job.turns
  pub alone : form ≡ Apply → IsAlone job.clients
  pub unscheduled : form ≢ Replay → job.turns ≡ []
