use Rattle.std.proofs.Common.{◌≡◌, ◌∙◌, ◌+◌, ◌<◌, Bool, false, List, sym, ap, subst, arith, length, drop, replicate, rules}
use Rattle.std.proofs.lemmas.List.{take_at}
use Rattle.pm_layout.specs.declared.Geometry.{Geometry}
use Rattle.dn_volume.proofs.Tables.{running_disk}
use Rattle.job_texts.specs.Marks.{MarksBlocks}
use Rattle.job_texts.proofs.CountedRows.{node_at}
use Rattle.job_texts.proofs.Marked.{MarksBelow, marks_start, marks_more, marks_end, blocks_inside}
use Rattle.job_texts.proofs.counting.mapped_pages.Goals as goal

pub loop-node-init : goal.loop-node-init
loop-node-init g c = λ d volume.
    let none : c.in_ok-marks.marks.items ≡ replicate c.args.v.now.parts.geometry.pages false = search rules in
    subst (MarksBelow d 0) (sym none) (marks_start d c.args.v.now.parts.geometry.pages (ap (λ (k : Geometry). k.pages) (sym volume.fast.geometry)))

pub mark_pages-requires : goal.mark_pages-requires
mark_pages-requires g c =
    let b = c.args.v.now.parts in
    let s = g.D.Pm.state c.args.v.now.device in
    let of = running_disk g.D.Pm.state c.args.v.now c.requires.running c.requires.agrees in
    let node = c.node-item.result in
    let items = c.deref-node-items.result.now in
    let same = c.deref-node-items.ensures.value in
    let at = node_at b.inodes.items items c.loop-node.node-index node same c.loop-node-test.true c.node-item.is in
    let few : c.loop-node.node-index < length b.inodes.items = let all = ap length same in omega (arith, c.loop-node-test.true, all) in
    record {
      inside = blocks_inside of.0 b s of.1 c.loop-node.node-index node at (length c.deref_mut.result.now) few
          (ap length c.deref_mut.ensures.value ∙ (c.loop-node.invariant of.0 of.1).long);
    }

pub loop-node-preserved : goal.loop-node-preserved
loop-node-preserved g c = λ d volume.
    let b = c.args.v.now.parts in
    let s = g.D.Pm.state c.args.v.now.device in
    let node = c.node-item.result in
    let same = c.deref-node-items.ensures.value in
    let at = node_at b.inodes.items c.deref-node-items.result.now c.loop-node.node-index node same c.loop-node-test.true c.node-item.is in
    let few : c.loop-node.node-index < length b.inodes.items = let all = ap length same in omega (arith, c.loop-node-test.true, all) in
    let old = c.loop-node.marks.items in
    let new = c.mark_pages.new.marks in
    let marks : MarksBlocks node.map.map 0 4096 old new =
    subst (λ (bs : List Bool). MarksBlocks node.map.map 0 4096 bs new) c.deref_mut.ensures.value c.mark_pages.ensures in
    let kept = take_at new (drop (length new) old) c.loop-node.marks.len (omega (arith, marks.long, c.loop-node.marks.ok.0)) in
    subst (MarksBelow d (c.loop-node.node-index + 1)) (sym kept)
    (marks_more d b s volume c.loop-node.node-index node at old new few (c.loop-node.invariant d volume) marks)

pub returns : goal.returns
returns g c = λ d volume.
    let all = ap length c.deref-node-items.ensures.value in
    let inodes = volume.inodes.all in
    marks_end d c.loop-node.node-index c.loop-node.marks.items (omega (arith, c.loop-node-test.false, all, inodes)) (c.loop-node.invariant d volume)
