use Rattle.std.proofs.Common.{◌<◌, length, arith}
use Rattle.pm_device.specs.Settled.{IsSettled}
use Rattle.recovery.proofs.Making.{some_tables}
use Rattle.recovery.proofs.Formatted.{
  clear_leaves,
  cleared_still,
  cleared_flushed,
  cleared_zero,
  made_settled,
  Formats,
  formats_leaves,
  formats_done,
  on_ok_map,
}
use Rattle.recovery.proofs.empty.make_image.Goals as goal

pub commit-requires-clause-room : goal.commit-requires-clause-room
commit-requires-clause-room g c = omega (arith, c.requires.room, some_tables c.args.g.now c.requires.accepted.inodes)

pub make_parts-requires-clause-flushed : goal.make_parts-requires-clause-flushed
make_parts-requires-clause-flushed g c =
    let S = g.D.Pm.state in
    cleared_flushed c.args.g.now 16 (S c.args.device.now) (S c.commit.new.device) c.requires.still
    (omega (arith, c.requires.size, c.requires.accepted.pages)) c.commit.ensures.only.words c.in_ok-commit.ensures.done

-- before the magic is stored its word is settled
magic_settled : (g : _) (c : goal.After-commit-2 g) → IsSettled (g.D.Pm.state c.make_parts.new.device) 0
magic_settled g c =
    let S = g.D.Pm.state in let s = S c.args.device.now in let t = S c.commit.new.device in
    let some : 0 < length s.now = omega (arith, c.requires.size, c.requires.accepted.pages) in
    made_settled c.args.g.now s.now t (S c.make_parts.new.device)
    (cleared_still c.args.g.now 16 s t c.requires.still some c.commit.ensures.only.words c.in_ok-commit.ensures.done)
    (omega (arith, c.commit.ensures.only.words, c.requires.size, c.requires.accepted.pages))
    (cleared_zero c.args.g.now 16 s t c.requires.still some c.commit.ensures.only.words c.in_ok-commit.ensures.done)
    c.make_parts.ensures.only

pub returns-in_err-commit-clause-any_moment : goal.returns-in_err-commit-clause-any_moment
returns-in_err-commit-clause-any_moment g c =
    let S = g.D.Pm.state in
    clear_leaves c.args.g.now 16 (S c.args.device.now) (S c.commit.new.device) c.requires.still
    (omega (arith, c.requires.size, c.requires.accepted.pages)) c.commit.ensures.only.words
    (g.met.D.Pm.agree c.commit.new.device)
    (c.commit.ensures.any_moment (c.requires.still 0 (omega (arith, c.requires.size, c.requires.accepted.pages))))

-- the three parts
parts : (g : _) (c : goal.After-commit-2 g) → Formats c.args.g.now 16 (g.D.Pm.state c.args.device.now) (g.D.Pm.state c.commit.new.device)
    (g.D.Pm.state c.make_parts.new.device) (g.D.Pm.state c.commit-2.new.device)
parts g c = record {
  accepted = c.requires.accepted;
  size = c.requires.size;
  still = c.requires.still;
  agree_t = g.met.D.Pm.agree c.commit.new.device;
  agree_v = g.met.D.Pm.agree c.commit-2.new.device;
  first = c.commit.ensures.any_moment (c.requires.still 0 (omega (arith, c.requires.size, c.requires.accepted.pages)));
  first_words = c.commit.ensures.only.words;
  cleared = c.in_ok-commit.ensures.done;
  only = c.make_parts.ensures.only;
  made = c.make_parts.ensures.made;
  flushed = c.make_parts.ensures.flushed;
  last = c.commit-2.ensures.any_moment (magic_settled g c);
  last_words = c.commit-2.ensures.only.words;
}

pub returns-clause-any_moment : goal.returns-clause-any_moment
returns-clause-any_moment g c = let S = g.D.Pm.state in formats_leaves c.args.g.now 16 (S c.args.device.now) (S c.commit.new.device)
    (S c.make_parts.new.device) (S c.commit-2.new.device) (parts g c)

pub returns-clause-done : goal.returns-clause-done
returns-clause-done g c =
    let S = g.D.Pm.state in
    on_ok_map c.commit-2.result _ _ (formats_done c.args.g.now 16 (S c.args.device.now) (S c.commit.new.device) (S c.make_parts.new.device)
    (S c.commit-2.new.device) (parts g c)) c.commit-2.ensures.done
