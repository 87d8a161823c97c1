use Rattle.job_texts.proofs.TellingLaws.{run_told}
use Rattle.job_texts.proofs.told.run_text.Goals as goal

pub returns : goal.returns
returns c = run_told c.args.numbers.now c.args.history.now c.args.free c.in_ok-text.text.items _ c.in_ok-text.ensures c.in_ok-write_end.ensures
