use Rattle.std.proofs.Common.{◌++◌, ℕ, List, length, refl, ◌∙◌, ap, subst, arith}
use Rattle.std.proofs.lemmas.Option.{slice_get_read}
use Rattle.log_clean.specs.Finishing.{HasNewLog, due_works}
use Rattle.reclaim.specs.Worked.{ChangesOne}
use Rattle.log_clean.proofs.finish.note_end.Goals as goal

pub returns : goal.returns
returns c =
    let b = c.args.parts.now in
    let x = c.args.cleaning in
    let same = c.deref.ensures.value in
    let many = ap (λ (slots : List ℕ). length slots) same in
    record {
      geometry = refl;
      free = refl;
      names = refl;
      inodes = subst (λ (n : ℕ). ChangesOne (HasNewLog n x.map) x.ino b.inodes.items c.relog_inode.new.inodes.items)
          (omega (arith, c.len-pages.ensures, x.pages.ok.0)) c.relog_inode.ensures;
      fact = refl;
      queue = record {
        node = c.index.result.now;
        at = slice_get_read c.relog_inode.new.inodes.items (length c.relog_inode.new.inodes.items) x.ino c.index.result.now refl
            (omega (arith, c.relog_inode.ensures.all, c.requires.inside)) c.index.ensures;
        items = c.queue_due.ensures.items ∙ ap (λ (slots : List ℕ). b.queue.items ++ due_works x.ino c.index.result.now.round slots) same;
        room = omega (arith, c.queue_due.ensures.room, many);
      };
      flights = refl;
      sharing = refl;
      reclaiming = refl;
      history = refl;
      trace = refl;
      stopped = refl;
      units = omega (arith, c.requires.units);
      owed_trace = refl;
      owed_history = refl;
      owed_queue = omega (arith, c.requires.queue, c.len.ensures, x.due.ok.0);
      owed_releases = refl;
      made = grind (arith, c.saturating_add-parts.ensures);
    }
