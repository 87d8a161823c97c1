use Rattle.std.proofs.Common.{◌≡◌, ◌-◌, ◌%◌, ◌<◌, true, arith}
use Rattle.std.specs.Prelude.{nat_lt}
use Rattle.std.proofs.lemmas.Bool.Decides.{nat_tests}
use Rattle.name_journal.proofs.Named.{journaled, journaled_first}
use Rattle.name_journal.proofs.change.is_journaled.Goals as goal

pub returns-then-word-g : goal.returns-then-word-g
returns-then-word-g c = (
  (λ (first : nat_lt ((c.args.at - 1024) % 16) 3 ≡ true).
      let few : (c.args.at - 1024) % 16 < 3 = grind (arith, nat_tests) in journaled c.args.g.now.inodes c.args.at c.if-at-lt1024.false
      c.if-word-g.true few),
  (λ is. let few = journaled_first c.args.g.now.inodes c.args.at is in grind (arith, nat_tests)),
)
