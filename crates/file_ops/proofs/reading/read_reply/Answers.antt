use Rattle.std.proofs.Common.{IfOk, ℕ, List, sym, subst}
use Rattle.dn_model.specs.declared.op.Op.{Op}
use Rattle.dn_model.specs.declared.op.Reply.TheVariants.{Refused}
use Rattle.dn_model.specs.declared.op.Refusal.TheVariants.{TooLong}
use Rattle.dn_volume.specs.Begins.{IsAnswerOf}
use Rattle.data_begins.specs.Lookup.{IsFound, IsLookupRefusal}
use Rattle.file_ops.proofs.Replied.{read_refused, read_too_long, RepliesTo}
use Rattle.file_ops.proofs.reading.read_reply.Goals as goal

pub returns-in-Ok : goal.returns-in-Ok
returns-in-Ok g c = λ d volume.
    subst (λ (o : Op). IsAnswerOf d c.args.v.now.parts o (Refused TooLong)) (sym c.in-Read.is)
    (read_too_long d c.args.v.now.parts (g.D.Pm.state c.args.v.now.device) volume c.in-Read.name c.in-Read.at c.in-Read.length c.in-Ok.field-0
    (subst (λ (n : List ℕ). IsFound c.args.v.now.parts.names.map n c.in-Ok.field-0) c.bytes.ensures c.in-Ok.ensures.found)
    c.if-length-gt-MOST_BYTES.true)

pub returns-in-Ok-2 : goal.returns-in-Ok-2
returns-in-Ok-2 g c =
    subst (λ (o : Op). IfOk c.read_file.result (RepliesTo g.D.Pm.state c.args.v.now o)) (sym c.in-Read.is) c.read_file.ensures

pub returns-in-Err : goal.returns-in-Err
returns-in-Err g c = λ d volume.
    subst (λ (o : Op). IsAnswerOf d c.args.v.now.parts o (Refused c.in-Err.refusal)) (sym c.in-Read.is)
    (read_refused d c.args.v.now.parts (g.D.Pm.state c.args.v.now.device) volume c.in-Read.name c.in-Read.at c.in-Read.length c.in-Err.refusal
    (subst (λ (n : List ℕ). IsLookupRefusal c.args.v.now.parts.names.map n c.in-Err.refusal) c.bytes.ensures c.in-Err.ensures.refused))
