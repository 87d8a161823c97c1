use Rattle.std.proofs.Common.{◌≡◌, true, false, ℕ, sym, subst, ◌∙◌, arith}
use Rattle.std.proofs.lemmas.Grind.{get_or_default_zero}
use Rattle.std.specs.Prelude.{slice_index}
use Rattle.pm_layout.specs.Geometry.{inode_word}
use Rattle.image_uses.specs.Links.{IsLinkedBy}
use Rattle.image_uses.proofs.Linked.{first_unlinked, all_linked}
use Rattle.image_uses.proofs.links.link_fault.Goals as goal

true_false : true ≡ false → ⊥
true_false e = cc

pub returns-then-not-is_linked-clause-some : goal.returns-then-not-is_linked-clause-some
returns-then-not-is_linked-clause-some g c = λ d said. first_unlinked c.args.g.now (g.D.Pm.state c.args.device.now).now c.args.names.now.map
    c.in_ok-links.links.items c.in_ok-links.ensures d said
    c.loop-ino.ino (omega (arith, c.loop-ino.auto.ino)) c.loop-ino-test.true c.loop-ino.invariant
    (λ by.
    let state : c.read_field.result ≡ slice_index (g.D.Pm.state c.args.device.now).now (inode_word c.loop-ino.ino 0) = c.read_field.ensures in
    let links : c.index.result.now ≡ slice_index c.in_ok-links.links.items c.loop-ino.ino = c.index.ensures ∙ get_or_default_zero
    c.in_ok-links.links.items c.loop-ino.ino c.index.result.now (omega (arith, c.loop-ino-test.true, c.in_ok-links.ensures.counts.long)) in
    true_false (sym (c.is_linked.ensures.1 (subst (λ (n : ℕ). IsLinkedBy n c.index.result.now) (sym state)
    (subst (IsLinkedBy (slice_index (g.D.Pm.state c.args.device.now).now (inode_word c.loop-ino.ino 0))) (sym links) by))) ∙
    c.if-not-is_linked.true))

pub returns-clause-none : goal.returns-clause-none
returns-clause-none g c = λ d said. all_linked c.args.g.now (g.D.Pm.state c.args.device.now).now c.args.names.now.map c.in_ok-links.links.items
    c.in_ok-links.ensures d said c.loop-ino.ino c.loop-ino-test.false c.loop-ino.invariant
