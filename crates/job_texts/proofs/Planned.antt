-- Scripts of lines.
use Rattle.std.proofs.Common.{◌≡◌, ℕ, zero, suc, add-zero, add-one, add_comm, arith, ◌+◌, List, [], ◌∷◌, ◌++◌, refl, sym, ◌∙◌, ap, inl, inr, append_assoc}
use Rattle.std.specs.List.{range_with_len}
use Rattle.std.proofs.lemmas.List.{append-nil}
use Rattle.dn_model.specs.declared.op.Op.{Op}
use Rattle.dn_script.specs.declared.job.Command.{Command}
use Rattle.dn_script.specs.declared.job.Command.TheVariants.{Do, Count}
use Rattle.dn_script.specs.declared.job.Line.{Line}
use Rattle.dn_script.specs.Formed.{Rises as LinesRise, IsAlone as LinesAreAlone}
use Rattle.job_runs.specs.Scripts.{Rises, IsAlone}
use Rattle.job_texts.specs.PlanLaws.{JobsRise, JobsAreAlone}
use Rattle.job_texts.specs.Plan.{op_in, number_in, ops_in, numbers_in, scripts_in}

-- one line more
pub ops_in_more : (lines : List Line) (line : Line) → ops_in (lines ++ line ∷ []) ≡ ops_in lines ++ op_in line.command
ops_in_more [] line = append-nil (op_in line.command)
ops_in_more (l ∷ lines) line = ap (λ ops. op_in l.command ++ ops) (ops_in_more lines line)
    ∙ sym (append_assoc (op_in l.command) (ops_in lines) (op_in line.command))

pub numbers_in_more : (lines : List Line) (line : Line) → numbers_in (lines ++ line ∷ []) ≡ numbers_in lines ++ number_in line.number line.command
numbers_in_more [] line = append-nil (number_in line.number line.command)
numbers_in_more (l ∷ lines) line = ap (λ ns. number_in l.number l.command ++ ns) (numbers_in_more lines line)
    ∙ sym (append_assoc (number_in l.number l.command) (numbers_in lines) (number_in line.number line.command))

-- an operation is one more, and a look at a count is none
pub op_more : (lines : List Line) (line : Line) (op : Op) (ops ops' : List Op) → ops ≡ ops_in lines → line.command ≡ Do op → ops' ≡ ops ++ op ∷ []
    → ops' ≡ ops_in (lines ++ line ∷ [])
op_more lines line op ops ops' so_far said more =
    more
    ∙ ap (λ (os : List Op). os ++ op ∷ []) so_far
    ∙ ap (λ (c : Command). ops_in lines ++ op_in c) (sym said)
    ∙ sym (ops_in_more lines line)

pub number_more : (lines : List Line) (line : Line) (op : Op) (number : ℕ) (ns ns' : List ℕ) → ns ≡ numbers_in lines → line.command ≡ Do op
    → line.number ≡ number → ns' ≡ ns ++ number ∷ [] → ns' ≡ numbers_in (lines ++ line ∷ [])
number_more lines line op number ns ns' so_far said at more =
    more
    ∙ ap (λ (ms : List ℕ). ms ++ number ∷ []) so_far
    ∙ ap (λ (n : ℕ). numbers_in lines ++ n ∷ []) (sym at)
    ∙ ap (λ (c : Command). numbers_in lines ++ number_in line.number c) (sym said)
    ∙ sym (numbers_in_more lines line)

pub op_none : (lines : List Line) (line : Line) (slot : ℕ) (ops : List Op) → ops ≡ ops_in lines → line.command ≡ Count slot
    → ops ≡ ops_in (lines ++ line ∷ [])
op_none lines line slot ops so_far said =
    so_far
    ∙ sym (append-nil (ops_in lines))
    ∙ ap (λ (c : Command). ops_in lines ++ op_in c) (sym said)
    ∙ sym (ops_in_more lines line)

pub number_none : (lines : List Line) (line : Line) (slot : ℕ) (ns : List ℕ) → ns ≡ numbers_in lines → line.command ≡ Count slot
    → ns ≡ numbers_in (lines ++ line ∷ [])
number_none lines line slot ns so_far said =
    so_far
    ∙ sym (append-nil (numbers_in lines))
    ∙ ap (λ (c : Command). numbers_in lines ++ number_in line.number c) (sym said)
    ∙ sym (numbers_in_more lines line)

-- the numbers of clients rise still, and one that is alone is so still
scripts_rise : (low : ℕ) (clients : List (ℕ × List Line)) → LinesRise low 14 clients → Rises low (scripts_in clients)
scripts_rise low [] rise = tt
scripts_rise low (c ∷ cs) rise = (rise.0, rise.1, scripts_rise c.0 cs rise.2)

scripts_alone : (clients : List (ℕ × List Line)) → LinesAreAlone clients → IsAlone (scripts_in clients)
scripts_alone clients (inl none) = inl (ap scripts_in none)
scripts_alone clients (inr (own, one)) = inr (ops_in own, ap scripts_in one)

pub jobs_rise : JobsRise
jobs_rise form job is = scripts_rise 0 job.clients is.clients

pub jobs_alone : JobsAreAlone
jobs_alone job is = scripts_alone job.clients (is.alone refl)

-- one number more
pub range_more : (from n : ℕ) → range_with_len from (suc n) ≡ range_with_len from n ++ (from + n) ∷ []
range_more from zero = ap (λ m. m ∷ []) (sym (add-zero from))
range_more from (suc n) = ap (λ ms. from ∷ ms) (range_more (from + 1) n ∙ ap (λ m. range_with_len (from + 1) n ++ m ∷ []) (omega arith))

pub numbers_more : (n : ℕ) (ns ns' : List ℕ) → ns ≡ range_with_len 1 n → ns' ≡ ns ++ (n + 1) ∷ [] → ns' ≡ range_with_len 1 (n + 1)
numbers_more n ns ns' so_far more =
    more
    ∙ ap (λ (ms : List ℕ). ms ++ (n + 1) ∷ []) so_far
    ∙ ap (λ (m : ℕ). range_with_len 1 n ++ m ∷ []) (add_comm n 1)
    ∙ sym (range_more 1 n)
    ∙ ap (range_with_len 1) (sym (add-one n))
