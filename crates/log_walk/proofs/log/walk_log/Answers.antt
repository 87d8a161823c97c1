use Rattle.std.proofs.Common.{ℕ, List, [], sym, ◌∙◌, ap, subst, arith}
use Rattle.std.specs.Prelude.{slice_index, Option, IfSome}
use Rattle.dn_model.specs.LogFault.{LogFault}
use Rattle.dn_model.proofs.Regions.{inode_word_low}
use Rattle.log_walk.specs.Walk.{HasWholeLog}
use Rattle.log_walk.specs.declared.items.Placed.{Placed as PlacedItem}
use Rattle.log_walk.proofs.Outcome.{empty_log}
use Rattle.log_walk.proofs.log.walk_log.Goals as goal

pub load-tail-requires : goal.load-tail-requires
load-tail-requires g c =
    let low = inode_word_low c.args.g.now c.args.ino 2 c.requires.ino (omega arith) in omega (
      arith,
      c.inode_word.ensures,
      c.requires.size,
      c.requires.accepted.room,
      low,
    )

pub returns-then-tail-eq0-clause-log : goal.returns-then-tail-eq0-clause-log
returns-then-tail-eq0-clause-log g c =
    let now = (g.D.Pm.state c.args.device.now).now in
    subst (λ (ps : List ℕ). HasWholeLog c.args.g.now now c.args.ino ps c.new-then-tail-eq0.result.items) (sym c.new.ensures.items)
    (subst (λ (items : List PlacedItem). HasWholeLog c.args.g.now now c.args.ino [] items) (sym c.new-then-tail-eq0.ensures.items)
    (empty_log c.args.g.now now c.args.ino (ap (slice_index now) (sym c.inode_word.ensures) ∙ sym c.load-tail.ensures ∙ c.if-tail-eq0.true)))

pub returns-in-Ok-default-Some-clause-fault : goal.returns-in-Ok-default-Some-clause-fault
returns-in-Ok-default-Some-clause-fault g c =
    let now = (g.D.Pm.state c.args.device.now).now in
    let w = c.in-Ok-default-Some in
    subst (λ (o : Option ℕ). IfSome o (λ (place : ℕ). LogFault c.args.g.now now c.args.ino place)) w.field-0-1-is w.ensures.fault
