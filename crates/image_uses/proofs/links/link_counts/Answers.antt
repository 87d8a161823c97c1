use Rattle.std.proofs.Common.{◌≡◌, ◌+◌, ℕ, ◌<◌, List, length, sym, ap, subst, ◌∙◌, arith}
use Rattle.std.specs.Prelude.{slice_index}
use Rattle.image_logs.proofs.Hits.{refilled}
use Rattle.image_uses.specs.Links.{name_hit, CountsNames}
use Rattle.image_uses.proofs.Linked.{names-none, names-few, names-next}
use Rattle.image_uses.proofs.links.link_counts.Goals as goal

pub loop-k-init : goal.loop-k-init
loop-k-init c = names-none c.entries-entries.result.now c.args.g.now.inodes c.in_ok-links.links.items c.in_ok-links.ensures.long
    (λ i lt. c.in_ok-links.ensures.zeros i)

pub count_name-requires : goal.count_name-requires
count_name-requires c = λ inside.
    let long : length c.deref_mut.result.now ≡ c.args.g.now.inodes = ap length c.deref_mut.ensures.value ∙ c.loop-k.invariant.long in
    let few = names-few c.entries-entries.result.now c.loop-k.k c.args.g.now.inodes c.loop-k.links.items c.loop-k.invariant c.ino_of.result
    (omega (arith, inside, long)) in
    omega (arith, few, c.loop-k-test.true, ap (λ (xs : List ℕ). slice_index xs c.ino_of.result) c.deref_mut.ensures.value)

pub loop-k-preserved : goal.loop-k-preserved
loop-k-preserved c =
    let each = subst (λ (xs : List ℕ). (i : ℕ) → i < length xs → slice_index c.count_name.new.links i ≡ slice_index xs i + name_hit i c.ino_of.result)
    c.deref_mut.ensures.value c.count_name.ensures.each in
    let long : length c.count_name.new.links ≡ length c.loop-k.links.items = c.count_name.ensures.long ∙ ap length c.deref_mut.ensures.value in
    let next = names-next c.entries-entries.result.now c.loop-k.k c.args.g.now.inodes c.loop-k.links.items c.count_name.new.links c.ino_of.result
    c.loop-k.invariant c.ino_of.ensures long each in
    subst (CountsNames c.entries-entries.result.now (c.loop-k.k + 1) c.args.g.now.inodes)
    (sym (refilled c.loop-k.links.len c.loop-k.links.items c.count_name.new.links (long ∙ sym c.loop-k.links.ok.0) (sym c.loop-k.links.ok.0))) next
