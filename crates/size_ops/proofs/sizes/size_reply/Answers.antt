use Rattle.std.proofs.Common.{ℕ, List, sym, subst, arith}
use Rattle.dn_model.specs.declared.op.Op.{Op}
use Rattle.dn_model.specs.declared.op.Reply.TheVariants.{Number, Refused}
use Rattle.dn_volume.specs.Begins.{IsAnswerOf}
use Rattle.data_begins.specs.Lookup.{IsFound, IsLookupRefusal}
use Rattle.file_ops.proofs.Known.{node_read}
use Rattle.size_ops.proofs.Sized.{found_in_nodes, size_refused, size_told}
use Rattle.size_ops.proofs.sizes.size_reply.Goals as goal

pub index-requires : goal.index-requires
index-requires c =
    let b = c.args.parts.now in
    let v = c.requires.volume in
    let found = subst (λ (n : List ℕ). IsFound b.names.map n c.in-Ok.ino) c.bytes.ensures c.in-Ok.ensures.found in
    omega (arith, found_in_nodes v.disk b v.device v.volume c.in-Size.name c.in-Ok.ino found.leads, b.inodes.ok.0)

pub returns-in-Ok : goal.returns-in-Ok
returns-in-Ok c = λ d s v.
    let b = c.args.parts.now in
    let found = subst (λ (n : List ℕ). IsFound b.names.map n c.in-Ok.ino) c.bytes.ensures c.in-Ok.ensures.found in
    subst (λ (op : Op). IsAnswerOf d b op (Number c.index.result.now.size)) (sym c.in-Size.is)
    (size_told d b s v c.in-Size.name c.in-Ok.ino found c.index.result.now
    (node_read b.inodes.items c.in-Ok.ino c.index.result.now (found_in_nodes d b s v c.in-Size.name c.in-Ok.ino found.leads) c.index.ensures))

pub returns-in-Err : goal.returns-in-Err
returns-in-Err c = λ d s v.
    subst (λ (op : Op). IsAnswerOf d c.args.parts.now op (Refused c.in-Err.why)) (sym c.in-Size.is)
    (size_refused d c.args.parts.now s v c.in-Size.name c.in-Err.why
    (subst (λ (n : List ℕ). IsLookupRefusal c.args.parts.now.names.map n c.in-Err.why) c.bytes.ensures c.in-Err.ensures.refused))
