use Rattle.std.proofs.Common.{◌≡◌, Bool, true, false, ◌<◌, ◌∷◌, ◌∙◌, length, sym, subst, List}
use Rattle.std.specs.Prelude.{All}
use Rattle.dn_volume.specs.declared.volume.InodeState.{InodeState}
use Rattle.dn_volume.specs.PlannedNames.{inode_list}
use Rattle.dn_volume.proofs.Tables.{running_disk}
use Rattle.begin_steps.specs.Held.{IsHeldAmong, AreLooseAmong}
use Rattle.name_ops.proofs.FoundFiles.{bad_renamed, missed_renamed, same_renamed, small_renamed, busy_renamed, aimed_renamed}
use Rattle.name_ops.proofs.rename.find_renamed.Goals as goal

clash : (b : Bool) → b ≡ true → b ≡ false → ⊥
clash b high low = cc

pub returns-then-not-are_legal : goal.returns-then-not-are_legal
returns-then-not-are_legal g c = λ d volume. bad_renamed d c.args.v.now.parts (g.D.Pm.state c.args.v.now.device) volume c.args.from.now c.args.to.now
    (λ one other. clash c.are_legal.result (c.are_legal.ensures.1 (one, other)) c.if-not-are_legal.true)

pub returns-in_default : goal.returns-in_default
returns-in_default g c = λ d volume. let legal = c.are_legal.ensures.0 c.if-not-are_legal.false in
    missed_renamed d c.args.v.now.parts (g.D.Pm.state c.args.v.now.device) volume c.args.from.now c.args.to.now legal.0 legal.1
    (sym c.in_default.is ∙ c.find_inode.ensures)

pub returns-then-are_same : goal.returns-then-are_same
returns-then-are_same g c = λ d volume. let legal = c.are_legal.ensures.0 c.if-not-are_legal.false in
    same_renamed d c.args.v.now.parts (g.D.Pm.state c.args.v.now.device) volume c.args.from.now c.args.to.now legal.0 legal.1
    c.in-Some.ino (sym c.in-Some.is ∙ c.find_inode.ensures) (c.are_same.ensures.0 c.if-are_same.true)

pub holder_among-requires : goal.holder_among-requires
holder_among-requires g c =
    let found = running_disk g.D.Pm.state c.args.v.now c.requires.running c.requires.agrees in
    let legal = c.are_legal.ensures.0 c.if-not-are_legal.false in
    subst (λ (ns : List InodeState). All (λ i. i < length ns) (0 ∷ c.in-Some.ino ∷ inode_list c.find_inode-other.result)) (sym c.deref.ensures.value)
    (small_renamed found.0 c.args.v.now.parts (g.D.Pm.state c.args.v.now.device) found.1 c.args.from.now c.args.to.now legal.0 legal.1
    c.in-Some.ino (sym c.in-Some.is ∙ c.find_inode.ensures) (λ same. clash c.are_same.result (c.are_same.ensures.1 same) c.if-are_same.false)
    c.find_inode-other.result c.find_inode-other.ensures)

pub returns-in-Some-holder_among : goal.returns-in-Some-holder_among
returns-in-Some-holder_among g c = λ d volume. let legal = c.are_legal.ensures.0 c.if-not-are_legal.false in
    busy_renamed d c.args.v.now.parts (g.D.Pm.state c.args.v.now.device) volume c.args.from.now c.args.to.now legal.0 legal.1
    c.in-Some.ino (sym c.in-Some.is ∙ c.find_inode.ensures) (λ same. clash c.are_same.result (c.are_same.ensures.1 same) c.if-are_same.false)
    c.find_inode-other.result c.find_inode-other.ensures c.in-Some-holder_among.holder
    (subst (λ (ns : List InodeState). IsHeldAmong ns (0 ∷ c.in-Some.ino ∷ inode_list c.find_inode-other.result) c.in-Some-holder_among.holder)
    c.deref.ensures.value c.in-Some-holder_among.ensures.held)

pub returns-in-None : goal.returns-in-None
returns-in-None g c = λ d volume. let legal = c.are_legal.ensures.0 c.if-not-are_legal.false in
    aimed_renamed d c.args.v.now.parts (g.D.Pm.state c.args.v.now.device) volume c.args.from.now c.args.to.now legal.0 legal.1
    c.in-Some.ino (sym c.in-Some.is ∙ c.find_inode.ensures) (λ same. clash c.are_same.result (c.are_same.ensures.1 same) c.if-are_same.false)
    c.find_inode-other.result c.find_inode-other.ensures
    (subst (λ (ns : List InodeState). AreLooseAmong ns (0 ∷ c.in-Some.ino ∷ inode_list c.find_inode-other.result)) c.deref.ensures.value
    c.in-None.ensures.loose)
