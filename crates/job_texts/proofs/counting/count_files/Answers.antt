use Rattle.std.proofs.Common.{◌∙◌, ◌+◌, ℕ, sym, ap, add-zero, arith, length}
use Rattle.job_texts.proofs.CountedRows.{files_start, files_more, files_all, node_at}
use Rattle.job_texts.proofs.counting.count_files.Goals as goal
use Rattle.job_texts.proofs.counting.count_files.Goals.{then-is_file, else-is_file}

pub loop-ino-init : goal.loop-ino-init
loop-ino-init g c = record { counted = λ d volume. files_start d; few = omega arith }

pub loop-ino-preserved : goal.loop-ino-preserved
loop-ino-preserved g c =
    let b = c.args.v.now.parts in
    let s = g.D.Pm.state c.args.v.now.device in
    let files = c.loop-ino.files in
    let node = c.node-item.result in
    let at = node_at b.inodes.items c.deref-node-items.result.now c.loop-ino.ino node c.deref-node-items.ensures.value c.loop-ino-test.true
    c.node-item.is in
    elim c.if-is_file.branch [
      | then-is_file w ↦ record {
        counted = λ d volume. files_more d b s volume files c.if-is_file.files c.loop-ino.ino node (c.loop-ino.invariant.counted d volume) at
            (w.files-is ∙ ap (λ (m : ℕ). files + m) (sym w.if-is_file.ensures));
        few = omega (arith, w.files-is, c.loop-ino.invariant.few);
      }
      | else-is_file w ↦ record {
        counted = λ d volume. files_more d b s volume files c.if-is_file.files c.loop-ino.ino node (c.loop-ino.invariant.counted d volume) at
            (w.files-is ∙ sym (add-zero files) ∙ ap (λ (m : ℕ). files + m) (sym w.if-is_file.ensures));
        few = omega (arith, w.files-is, c.loop-ino.invariant.few);
      }
    ]

pub returns : goal.returns
returns g c = λ d volume. files_all d c.args.v.now.parts (g.D.Pm.state c.args.v.now.device) volume c.loop-ino.files c.loop-ino.ino
    (c.loop-ino.invariant.counted d volume) (let all = ap length c.deref-node-items.ensures.value in omega (arith, all))
