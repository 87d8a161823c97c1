use Rattle.std.proofs.Common.{◌∙◌, sym, ap, rules, arith}
use Rattle.dn_model.specs.declared.op.Op.TheVariants.{Create, Remove}
use Rattle.dn_script.proofs.WorkLaws.{is_create, is_write, is_cut, is_remove, is_rename}
use Rattle.dn_script.proofs.work.op_of.Goals as goal
use Rattle.dn_script.proofs.work.op_of.Goals.{in-0, in-5, in-6, in-1-to-4+in_ok-page_of-in-1-to-4, in_default+in_ok-work_name-in_default}

pub returns : goal.returns
returns c =
    let k = c.args.choice.kind in
    let f = c.args.choice.file in
    let p = c.args.choice.page in
    let v = c.args.choice.value in
    elim c.match-choice.branch [
      | in-0 w ↦ w.result-is ∙ ap Create c.in_ok-name.ensures ∙ sym (is_create k f p v (search rules))
      | in-5 w ↦ w.result-is ∙ rw c.in_ok-name.ensures (sym (is_cut k f p v (search rules)))
      | in-6 w ↦ w.result-is ∙ ap Remove c.in_ok-name.ensures ∙ sym (is_remove k f p v (search rules))
      | in-1-to-4+in_ok-page_of-in-1-to-4 w ↦
          w.result-is ∙ rw c.in_ok-name.ensures (rw w.in_ok-page_of-in-1-to-4.ensures (sym (is_write k f p v (omega arith) (omega arith))))
      | in_default+in_ok-work_name-in_default w ↦
          w.result-is ∙ rw c.in_ok-name.ensures (rw w.in_ok-work_name-in_default.ensures (sym (is_rename k f p v (omega arith))))
    ]
