use Rattle.std.proofs.Common.{refl, arith}
use Rattle.pm_device.proofs.AllFlushed.{flushes_words}
use Rattle.name_journal.specs.Changes.{address, new_value, IsNamed}
use Rattle.name_journal.proofs.Stored.{one_value}
use Rattle.name_journal.proofs.values.store_values.Goals as goal

pub loop-change-preserved : goal.loop-change-preserved
loop-change-preserved g c =
    let S = g.D.Pm.state in
    let changes = c.args.changes.now in
    let i = c.loop-change.change-index in
    one_value c.args.who changes (S c.args.device.now) (S c.loop-change.device) (S c.store_words.new.device) i (address changes i)
    (new_value changes i) refl refl c.loop-change-test.true
    c.requires.apart c.requires.inside c.loop-change.invariant c.store_words.ensures.only c.store_words.ensures.holds c.store_words.ensures.keeps
    (omega (arith, c.store_words.ensures.spare)) c.store_words.ensures.faults

pub returns-clause-flushes : goal.returns-clause-flushes
returns-clause-flushes g c =
    let changes = c.args.changes.now in let stored = c.loop-change.invariant in
    flushes_words (IsNamed changes) c.args.who _ _ stored.keeps (λ a lt named. stored.ready.flushed a (new_value changes named.i) (record {
      i = named.i;
      lt = omega (arith, named.lt, c.loop-change-test.false, c.loop-change.auto.change-index-end);
      place = named.is;
      value = refl;
    }))
