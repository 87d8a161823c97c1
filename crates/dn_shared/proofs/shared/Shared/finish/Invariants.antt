use Rattle.count_board.specs.Passes.{account}
use Rattle.dn_shared.specs.Turns.{IsAgain, Keeps}
use Rattle.dn_shared.proofs.shared.Shared.finish.Given as goal

abbrev pub invariant-loop : goal.invariant-loop
invariant-loop g l = record {
  again : IsAgain l.self.board l.initial.pass l.pass;
  keeps : Keeps (account l.initial.pass) (account l.pass);
}
