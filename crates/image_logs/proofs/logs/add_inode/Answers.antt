use Rattle.std.proofs.Common.{ℕ, subst, ◌∙◌}
use Rattle.std.specs.Prelude.{slice_index}
use Rattle.pm_layout.specs.Geometry.{inode_word}
use Rattle.image_logs.specs.Logs.{IsEnd, CountsUse, adds_log}
use Rattle.image_logs.proofs.logs.add_inode.Goals as goal

pub returns-clause-adds : goal.returns-clause-adds
returns-clause-adds g c =
    adds_log c.places_end.result c.add_log.new.read (λ none. c.if-slot-eq-FREE.false (c.read_inode-slot.ensures.state ∙ none))
    (subst (λ (s : ℕ). IsEnd s (slice_index (g.D.Pm.state c.args.device.now).now (inode_word c.args.ino 3)) c.places_end.result)
    c.read_inode-slot.ensures.state (subst (λ (t : ℕ). IsEnd c.read_inode-slot.result.state t c.places_end.result) c.read_inode-slot.ensures.cut
    c.places_end.ensures))
    c.in_ok-log.ensures.adds (subst (λ (s : ℕ). CountsUse c.args.ino s c.add_log.new.read c.count_use.new.read) c.read_inode-slot.ensures.state
    c.count_use.ensures)

pub returns-clause-found : goal.returns-clause-found
returns-clause-found g c = record {
  in_use = λ none. c.if-slot-eq-FREE.false (c.read_inode-slot.ensures.state ∙ none);
  state = c.read_inode-slot.ensures.state;
  cut = c.read_inode-slot.ensures.cut;
  log = c.in_ok-log.ensures.log;
}
