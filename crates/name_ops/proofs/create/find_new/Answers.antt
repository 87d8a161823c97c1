use Rattle.std.proofs.Common.{◌≡◌, Bool, true, false, ◌<◌, ◌∷◌, [], ◌∙◌, length, sym, subst, List}
use Rattle.std.specs.Prelude.{All}
use Rattle.dn_volume.specs.declared.volume.InodeState.{InodeState}
use Rattle.dn_volume.proofs.Tables.{running_disk}
use Rattle.begin_steps.specs.Held.{IsHeldAmong, AreLooseAmong}
use Rattle.name_ops.specs.Creating.{NoneFreeBelow, IsLeastFree}
use Rattle.name_ops.proofs.FoundNew.{bad_created, exists_created, small_created, busy_created, aimed_created, none_created}
use Rattle.name_ops.proofs.create.find_new.Goals as goal

clash : (b : Bool) → b ≡ true → b ≡ false → ⊥
clash b high low = cc

pub returns-then-not-is_legal : goal.returns-then-not-is_legal
returns-then-not-is_legal g c = λ d volume. bad_created d c.args.v.now.parts (g.D.Pm.state c.args.v.now.device) volume c.args.name.now
    (λ legal. clash c.is_legal.result (c.is_legal.ensures.1 legal) c.if-not-is_legal.true)

pub returns-in-Some : goal.returns-in-Some
returns-in-Some g c = λ d volume. exists_created d c.args.v.now.parts (g.D.Pm.state c.args.v.now.device) volume c.args.name.now
    (c.is_legal.ensures.0 c.if-not-is_legal.false) c.in-Some.field-0 (sym c.in-Some.is ∙ c.find_inode.ensures)

pub first_holder-requires : goal.first_holder-requires
first_holder-requires g c =
    let found = running_disk g.D.Pm.state c.args.v.now c.requires.running c.requires.agrees in
    subst (λ (ns : List InodeState). All (λ i. i < length ns) (0 ∷ [])) (sym c.deref.ensures.value)
    (small_created found.0 c.args.v.now.parts (g.D.Pm.state c.args.v.now.device) found.1 c.args.name.now (c.is_legal.ensures.0
    c.if-not-is_legal.false)
    (sym c.in_default.is ∙ c.find_inode.ensures))

pub returns-in-Some-first_holder : goal.returns-in-Some-first_holder
returns-in-Some-first_holder g c = λ d volume. busy_created d c.args.v.now.parts (g.D.Pm.state c.args.v.now.device) volume c.args.name.now
    (c.is_legal.ensures.0 c.if-not-is_legal.false) (sym c.in_default.is ∙ c.find_inode.ensures) c.in-Some-first_holder.holder
    (subst (λ (ns : List InodeState). IsHeldAmong ns (0 ∷ []) c.in-Some-first_holder.holder) c.deref.ensures.value
    c.in-Some-first_holder.ensures.held)

pub returns-in-Some-least_free : goal.returns-in-Some-least_free
returns-in-Some-least_free g c = λ d volume. aimed_created d c.args.v.now.parts (g.D.Pm.state c.args.v.now.device) volume c.args.name.now
    (c.is_legal.ensures.0 c.if-not-is_legal.false) (sym c.in_default.is ∙ c.find_inode.ensures)
    (subst (λ (ns : List InodeState). AreLooseAmong ns (0 ∷ [])) c.deref.ensures.value c.in_default-first_holder.ensures.loose)
    c.in-Some-least_free.ino (subst (λ (ns : List InodeState). IsLeastFree ns c.in-Some-least_free.ino) c.deref-2.ensures.value
    c.in-Some-least_free.ensures.least)

pub returns-in-None : goal.returns-in-None
returns-in-None g c = λ d volume. none_created d c.args.v.now.parts (g.D.Pm.state c.args.v.now.device) volume c.args.name.now
    (c.is_legal.ensures.0 c.if-not-is_legal.false) (sym c.in_default.is ∙ c.find_inode.ensures)
    (subst (λ (ns : List InodeState). AreLooseAmong ns (0 ∷ [])) c.deref.ensures.value c.in_default-first_holder.ensures.loose)
    (subst (λ (ns : List InodeState). NoneFreeBelow ns (length ns)) c.deref-2.ensures.value c.in-None.ensures.none)
    c.find_none.result c.find_none.ensures
