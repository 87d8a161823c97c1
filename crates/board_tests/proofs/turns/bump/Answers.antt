use Rattle.std.proofs.Common.{arith, ◌≡◌, ◌+◌, ◌<◌, ◌∷◌, [], ℕ, length, refl, sym, ap, ◌∙◌, inl, inr, le_refl, length-append, append-nil}
use Rattle.board_tests.specs.Kinds.{by}
use Rattle.count_board.specs.Boards.{slots_of}
use Rattle.board_tests.proofs.Trials.{none_by, all_none, all_one, counts_of-turn}
use Rattle.count_board.specs.Reads.{counts_of}
use Rattle.board_tests.proofs.turns.bump.Goals as goal

pub give_turn-requires-clause-ready : goal.give_turn-requires-clause-ready
give_turn-requires-clause-ready g c = let x = c.take_turn-value.result in let y = c.add.new.self in let took = c.take_turn-value.ensures in
    let n : ℕ = c.number.result in
    let added = c.add.ensures.added c.if-add.true in let was = took.2.holds _ c.requires.away.0.1 in let was0 = was.0 in let was1 = was.1 in
    let made = added.2 in
    let long : length y.entries.items ≡ length x.entries.items + 1 = ap length added.0 ∙ length-append x.entries.items (by n ∷ []) in
    let wide : length y.changes.items ≡ length x.changes.items + 1 = ap length added.1
    ∙ length-append x.changes.items (record { slot = c.args.slot; word = 7 } ∷ []) in record {
      taken = x;
      turn = (took.0, ap (λ v. v.stage) took.1.1);
      goes_on = record {
        more = by n ∷ [];
        added = added.0;
        own = λ k ne. none_by n k (λ e. ne (e ∙ c.number.ensures));
        hands = λ k ne. refl;
        one_event = inr made;
        past = record { stops = λ h. h; leaves = le_refl 0; makes = omega arith; daemon = λ h. h; counts = λ h. h };
      };
      traced = added.1;
      slots_are = all_one (λ d. d.slot < slots_of c.args.board.now) (record { slot = c.args.slot; word = 7 }) c.requires.inside;
      holds = (omega arith, omega arith);
    }

pub give_turn-requires-else-add-clause-ready : goal.give_turn-requires-else-add-clause-ready
give_turn-requires-else-add-clause-ready g c = let x = c.take_turn-value.result in let y = c.add.new.self in let took = c.take_turn-value.ensures in
    let same = c.add.ensures.unchanged c.if-add.false in let was = took.2.holds _ c.requires.away.0.1 in let made = same.2 in record {
      taken = x;
      turn = (took.0, ap (λ v. v.stage) took.1.1);
      goes_on = record {
        more = [];
        added = same.0 ∙ sym (append-nil x.entries.items);
        own = λ k ne. refl;
        hands = λ k ne. refl;
        one_event = inl made;
        past = record { stops = λ h. h; leaves = le_refl 0; makes = omega arith; daemon = λ h. h; counts = λ h. h };
      };
      traced = same.1 ∙ sym (append-nil x.changes.items);
      slots_are = all_none (λ d. d.slot < slots_of c.args.board.now);
      holds = (ap length same.0 ∙ (was.0 ∙ sym made), ap length same.1 ∙ (was.1 ∙ sym made));
    }

pub returns-then-add-clause-counts : goal.returns-then-add-clause-counts
returns-then-add-clause-counts g c = let took = c.take_turn-value.ensures in let mid = c.take_turn-value.new.pass in let gave = c.give_turn.ensures in
    ap (λ v. counts_of v.own.seen) gave.1 ∙ (counts_of-turn mid.seat.me.0.own.seen _ _ ∙ ap (λ v. counts_of v.own.seen) took.1.1)

pub returns-else-add-clause-counts : goal.returns-else-add-clause-counts
returns-else-add-clause-counts g c = let took = c.take_turn-value.ensures in let mid = c.take_turn-value.new.pass in let gave =
    c.give_turn-else-add.ensures in
    ap (λ v. counts_of v.own.seen) gave.1 ∙ (counts_of-turn mid.seat.me.0.own.seen _ _ ∙ ap (λ v. counts_of v.own.seen) took.1.1)
