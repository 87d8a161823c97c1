use Rattle.std.proofs.Common.{length, ℕ, List, sym, ◌∙◌, ap, subst, arith}
use Rattle.dn_model.specs.declared.op.Op.{Op}
use Rattle.dn_model.specs.declared.op.Reply.TheVariants.{Done, Refused}
use Rattle.dn_model.specs.declared.op.Refusal.TheVariants.{TooLong, TooBig}
use Rattle.dn_volume.specs.Begins.{IsAnswerOf}
use Rattle.data_begins.specs.Lookup.{IsFound, IsLookupRefusal}
use Rattle.data_begins.specs.Asked.{IsAsk}
use Rattle.data_begins.proofs.LiveFiles.{named_file}
use Rattle.file_ops.specs.Asking.{IsWriteAsk}
use Rattle.file_ops.proofs.WriteAsks.{write_refused, write_too_long, write_nothing, write_too_big, write_asks}
use Rattle.file_ops.proofs.begin.ask_write.Goals as goal

pub returns-in-Err-clause-answers : goal.returns-in-Err-clause-answers
returns-in-Err-clause-answers g c = λ d volume.
    subst (λ (o : Op). IsAnswerOf d c.args.v.now.parts o (Refused c.in-Err.refusal)) (sym c.in-Write.is)
    (write_refused d c.args.v.now.parts (g.D.Pm.state c.args.v.now.device) volume c.in-Write.name c.in-Write.at c.in-Write.bytes c.in-Err.refusal
    (subst (λ (n : List ℕ). IsLookupRefusal c.args.v.now.parts.names.map n c.in-Err.refusal) c.bytes-2.ensures c.in-Err.ensures.refused))

pub returns-then-count-gt-MOST_BYTES-clause-answers : goal.returns-then-count-gt-MOST_BYTES-clause-answers
returns-then-count-gt-MOST_BYTES-clause-answers g c = λ d volume.
    let long = ap length c.bytes.ensures in
    subst (λ (o : Op). IsAnswerOf d c.args.v.now.parts o (Refused TooLong)) (sym c.in-Write.is)
    (write_too_long d c.args.v.now.parts (g.D.Pm.state c.args.v.now.device) volume c.in-Write.name c.in-Write.at c.in-Write.bytes c.in-Ok.ino
    (subst (λ (n : List ℕ). IsFound c.args.v.now.parts.names.map n c.in-Ok.ino) c.bytes-2.ensures c.in-Ok.ensures.found)
    (omega (arith, long, c.if-count-gt-MOST_BYTES.true)))

pub returns-then-count-eq0-clause-answers : goal.returns-then-count-eq0-clause-answers
returns-then-count-eq0-clause-answers g c = λ d volume.
    let long = ap length c.bytes.ensures in
    subst (λ (o : Op). IsAnswerOf d c.args.v.now.parts o Done) (sym c.in-Write.is)
    (write_nothing d c.args.v.now.parts (g.D.Pm.state c.args.v.now.device) volume c.in-Write.name c.in-Write.at c.in-Write.bytes c.in-Ok.ino
    (subst (λ (n : List ℕ). IsFound c.args.v.now.parts.names.map n c.in-Ok.ino) c.bytes-2.ensures c.in-Ok.ensures.found)
    (omega (arith, long, c.if-count-eq0.true)))

pub returns-then-at-count-clause-answers : goal.returns-then-at-count-clause-answers
returns-then-at-count-clause-answers g c = λ d volume.
    let long = ap length c.bytes.ensures in
    subst (λ (o : Op). IsAnswerOf d c.args.v.now.parts o (Refused TooBig)) (sym c.in-Write.is)
    (write_too_big d c.args.v.now.parts (g.D.Pm.state c.args.v.now.device) volume c.in-Write.name c.in-Write.at c.in-Write.bytes c.in-Ok.ino
    (subst (λ (n : List ℕ). IsFound c.args.v.now.parts.names.map n c.in-Ok.ino) c.bytes-2.ensures c.in-Ok.ensures.found)
    (omega (arith, long, c.if-count-eq0.false)) (omega (arith, long, c.if-count-gt-MOST_BYTES.false))
    (omega (arith, long, c.if-at-count.true, c.if-count-gt-MOST_BYTES.false)))

pub ask_for-requires-clause-file : goal.ask_for-requires-clause-file
ask_for-requires-clause-file g c = λ d volume.
    let is = subst (λ (n : List ℕ). IsFound c.args.v.now.parts.names.map n c.in-Ok.ino) c.bytes-2.ensures c.in-Ok.ensures.found in
    named_file d c.args.v.now.parts (g.D.Pm.state c.args.v.now.device) volume c.in-Write.name c.in-Ok.ino
    (sym (volume.names.leads c.in-Write.name) ∙ is.leads)

pub returns-clause-asks : goal.returns-clause-asks
returns-clause-asks g c = λ d volume.
    let long = ap length c.bytes.ensures in
    subst (λ (o : Op). IsAsk d o c.ask_for.result) (sym c.in-Write.is)
    (write_asks d c.args.v.now.parts (g.D.Pm.state c.args.v.now.device) volume c.in-Write.name c.in-Write.at c.in-Write.bytes c.in-Ok.ino
    (subst (λ (n : List ℕ). IsFound c.args.v.now.parts.names.map n c.in-Ok.ino) c.bytes-2.ensures c.in-Ok.ensures.found)
    c.ask_for.result (omega (arith, long, c.if-count-eq0.false)) (omega (arith, long, c.if-count-gt-MOST_BYTES.false))
    (omega (arith, long, c.if-at-count.false, c.if-count-gt-MOST_BYTES.false))
    (subst (λ (n : ℕ). IsWriteAsk d c.in-Ok.ino c.in-Write.at n c.ask_for.result) long (c.ask_for.ensures d volume)))
