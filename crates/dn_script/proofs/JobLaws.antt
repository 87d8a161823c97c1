-- Jobs, line by line.
use Rattle.std.proofs.Common.{◌≡◌, ℕ, ◌+◌, List, ◌∷◌, length, Result, Ok, sym, ap, ◌∙◌, subst}
use Rattle.dn_script.specs.declared.job.JobFault.{JobFault}
use Rattle.dn_script.specs.declared.job.JobFault.TheVariants as fault
use Rattle.dn_script.specs.declared.line.JobForm.{JobForm}
use Rattle.dn_script.specs.Text.{lines}
use Rattle.dn_script.specs.Line.{meaning_of}
use Rattle.dn_script.specs.Job.{◌>>=◌, Draft, after_line, after_lines, FailsBy}
use Rattle.dn_script.proofs.TextLaws.{lines_empty}

-- the fault of a step is the fault of all that follow
pub fails_bind : {A B : Type 0} (e : JobFault) (r : Result A JobFault) (f : A → Result B JobFault) → FailsBy e r → FailsBy e (r >>= f)
fails_bind fault.ReadFault r f h = absurd h
fails_bind fault.NoMemory r f h = tt
fails_bind fault.TooLong r f h = ap (λ x. x >>= f) h
fails_bind (fault.BadLine n) r f h = ap (λ x. x >>= f) h
fails_bind (fault.BadTurn n) r f h = ap (λ x. x >>= f) h

-- the lines that are left give what all give; one of them is read
pub lines_go : (form : JobForm) (number : ℕ) (rest line more : List ℕ) (d e : Draft) (whole : Result Draft JobFault) →
    after_lines form number (lines rest) d ≡ whole → lines rest ≡ line ∷ lines more → after_line number (meaning_of form line) d ≡ Ok e →
    after_lines form (number + 1) (lines more) e ≡ whole
unfolding after_lines
lines_go form number rest line more d e whole same cut said =
    ap (λ r. r >>= after_lines form (number + 1) (lines more)) (sym said) ∙ ap (λ ls. after_lines form number ls d) (sym cut) ∙ same

-- one of them fails
pub lines_stop : (form : JobForm) (number : ℕ) (rest line more : List ℕ) (d : Draft) (e : JobFault) (whole : Result Draft JobFault) →
    after_lines form number (lines rest) d ≡ whole → lines rest ≡ line ∷ lines more → FailsBy e (after_line number (meaning_of form line) d) →
    FailsBy e whole
unfolding after_lines
lines_stop form number rest line more d e whole same cut fails =
    subst (FailsBy e) (ap (λ ls. after_lines form number ls d) (sym cut) ∙ same)
    (fails_bind e (after_line number (meaning_of form line) d) (after_lines form (number + 1) (lines more)) fails)

-- none is left
pub lines_end : (form : JobForm) (number : ℕ) (rest : List ℕ) (d : Draft) (whole : Result Draft JobFault) →
    after_lines form number (lines rest) d ≡ whole → length rest ≡ 0 → whole ≡ Ok d
unfolding after_lines
lines_end form number rest d whole same none = sym same ∙ ap (λ ls. after_lines form number ls d) (lines_empty rest none)
