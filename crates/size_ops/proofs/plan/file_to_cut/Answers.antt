use Rattle.std.proofs.Common.{ℕ, List, sym, subst}
use Rattle.dn_model.specs.declared.op.Op.{Op}
use Rattle.dn_model.specs.declared.op.Reply.TheVariants.{Refused}
use Rattle.dn_model.specs.declared.op.Refusal.{Refusal}
use Rattle.dn_model.specs.declared.op.Refusal.TheVariants.{TooBig}
use Rattle.dn_volume.specs.Begins.{IsAnswerOf}
use Rattle.data_begins.specs.Lookup.{IsFound, IsLookupRefusal}
use Rattle.size_ops.specs.Sizing.{IsAnswerNow}
use Rattle.size_ops.proofs.Planned.{cut_refused, cut_too_big, passed_on}
use Rattle.size_ops.proofs.plan.file_to_cut.Goals as goal

pub returns-in_err-ino-clause-refused : goal.returns-in_err-ino-clause-refused
returns-in_err-ino-clause-refused c =
    let b = c.args.parts.now in
    let refusal = c.in_err-ino.field-0.0 in
    passed_on c.from_residual.result refusal (λ (r : Refusal). IsAnswerNow b c.args.op.now (Refused r)) c.from_residual.ensures.1
    (λ d s v. subst (λ (op : Op). IsAnswerOf d b op (Refused refusal)) (sym c.in-Cut.is)
    (cut_refused d b s v c.in-Cut.name c.in-Cut.size refusal
    (subst (λ (n : List ℕ). IsLookupRefusal b.names.map n refusal) c.bytes.ensures c.in_err-ino.ensures.refused)))

pub returns-then-size-gt-MOST_SIZE-clause-refused : goal.returns-then-size-gt-MOST_SIZE-clause-refused
returns-then-size-gt-MOST_SIZE-clause-refused c = λ d s v.
    subst (λ (op : Op). IsAnswerOf d c.args.parts.now op (Refused TooBig)) (sym c.in-Cut.is)
    (cut_too_big d c.args.parts.now s v c.in-Cut.name c.in-Cut.size c.in_ok-ino.ino
    (subst (λ (n : List ℕ). IsFound c.args.parts.now.names.map n c.in_ok-ino.ino) c.bytes.ensures c.in_ok-ino.ensures.found)
    c.if-size-gt-MOST_SIZE.true)
