use Rattle.dn_script.proofs.FormedLaws.{answer_formed}
use Rattle.dn_script.proofs.reading.job_of_text.Goals as goal

pub returns-clause-formed : goal.returns-clause-formed
returns-clause-formed c = answer_formed c.args.form c.args.text.now c.in_ok-read_lines.field-0 c.finish.result c.in_ok-read_lines.ensures
    c.finish.ensures
