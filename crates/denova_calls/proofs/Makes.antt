-- Lemmas on a file system that is made.
use Rattle.std.proofs.Common.{◌≡◌, ◌≢◌, ⊎_elim, ◌-◌, ◌*◌, ℕ, List, length, Result, Ok, Err, refl}
use Rattle.std.specs.Prelude.{◌↔◌}
use Rattle.std.proofs.lemmas.Bool.{cases_eq}
use Rattle.pm_device.specs.State.{State, IsSame, Rose}
use Rattle.pm_device.specs.Settled.{LeavesOnly}
use Rattle.pm_layout.specs.declared.Geometry.{Geometry}
use Rattle.pm_layout.specs.Geometry.{IsAccepted, first_data}
use Rattle.dn_model.specs.Empty.{IsFormatting, IsFormatted}
use Rattle.recovery.specs.declared.empty.FormatFault.{FormatFault}
use Rattle.recovery.specs.declared.empty.FormatFault.TheVariants as format
use Rattle.recovery.proofs.EmptyDisk.{free}
use Rattle.dn_report.specs.Report.{formatted_text}
use Rattle.dn_report.specs.declared.report.Cause.TheVariants.{WrongSize}
use Rattle.denova_calls.specs.Ends.{HasMade, MakeEnds}
use Rattle.denova_calls.specs.Steps.{RefusalEnds}
use Rattle.call_endings.specs.declared.ending.Ending.{Ending}
use Rattle.call_endings.specs.declared.ending.Ending.TheVariants.{Failed, NoMemory, Refused}

-- what `format` says of the size
abbrev OnWrongSize : Geometry → State → Result (Unit {0}) FormatFault → Type 0
OnWrongSize g s result = (n : ℕ) → (result ≡ Err (format.WrongSize n)) ↔ ((length s.now ≢ 512 * g.pages) × (n ≡ length s.now))

module _ (g : Geometry) (s t : State) (accepted : IsAccepted g) where
  right_size : (result : Result (Unit {0}) FormatFault) → OnWrongSize g s result → ((n : ℕ) → result ≡ Err (format.WrongSize n) → ⊥)
      → length s.now ≡ 512 * g.pages
  right_size result wrong other = ⊎_elim (λ same. same) (λ differs. absurd (other (length s.now) ((wrong (length s.now)).1 (differs, refl))))
      (cases_eq (length s.now) (512 * g.pages))

  pub formatted_tells : (result : Result (Unit {0}) FormatFault) (text : List ℕ) → OnWrongSize g s result → result ≡ Ok tt
      → LeavesOnly s t (IsFormatting g s.now) → IsFormatted g s.now t
      → text ≡ formatted_text g.pages g.inodes (g.pages - first_data g) → HasMade g.pages g.inodes s t text
  formatted_tells result text wrong ok images done text_is = record {
    made = record { accepted = accepted; size = right_size result wrong (λ n e. absurd (cc)); images = images };
    formatted = done;
    free = g.pages - first_data g;
    free_is = refl;
    has_free = free g;
    text_is = text_is;
  }

  pub failed_tells : (result : Result (Unit {0}) FormatFault) → OnWrongSize g s result → result ≡ Err format.Failed
      → LeavesOnly s t (IsFormatting g s.now) → Rose s.faults t.faults
      → MakeEnds g.pages g.inodes s t Failed
  failed_tells result wrong failed images rose = (
    record {
      accepted = accepted;
      size = right_size result wrong (λ n e. absurd (cc));
      images = images;
    },
    rose,
  )

  pub wrong_size_tells : (result : Result (Unit {0}) FormatFault) (n : ℕ) (e : Ending) → OnWrongSize g s result → result ≡ Err (format.WrongSize n)
      → IsSame s t → RefusalEnds (WrongSize n) e
      → MakeEnds g.pages g.inodes s t e
  wrong_size_tells result n (Refused text) wrong is same told = let sizes = (wrong n).0 is in
      (same, (WrongSize n, (accepted, sizes.0, sizes.1), told))
  wrong_size_tells result n NoMemory wrong is same told = same
  wrong_size_tells result n e wrong is same told = absurd told
