use Rattle.recovery.proofs.Making.{head_only, all_flushed-run}
use Rattle.recovery.proofs.tables.make_head.Goals as goal

pub returns-clause-only : goal.returns-clause-only
returns-clause-only g c = head_only _ _ _ c.store_words.ensures.only c.store_words-2.ensures.only

pub returns-clause-flushed : goal.returns-clause-flushed
returns-clause-flushed g c =
    let S = g.D.Pm.state in
    all_flushed-run _ 512 1 (S c.store_words.new.device) (S c.store_words-2.new.device) c.store_words-2.ensures.holds.flushed
    c.store_words-2.ensures.keeps c.store_words-2.ensures.only.words
    (all_flushed-run _ 1 3 (S c.args.device.now) (S c.store_words.new.device) c.store_words.ensures.holds.flushed c.store_words.ensures.keeps
    c.store_words.ensures.only.words c.requires.flushed)
