use Rattle.std.proofs.Common.{◌≡◌, ◌≤◌, ℕ, ◌++◌, length, get_or, drop}
use Rattle.dn_report.specs.Report.{history_text}
use Rattle.job_texts.specs.Told.{told_from, told_of}
use Rattle.job_texts.specs.Telling.{told_by}
use Rattle.job_texts.proofs.told.history_lines.Given as goal

abbrev pub invariant-loop-entry : goal.invariant-loop-entry
invariant-loop-entry l = record {
  so_far : l.text.items ++ history_text (told_from l.clients (told_by l.clients l.told.items) (drop l.entry-index l.history))
      ≡ history_text (told_of l.clients l.history);
  each : length l.told.items ≡ length l.clients;
  few : (k : ℕ) → get_or l.told.items k 0 ≤ l.entry-index;
}
