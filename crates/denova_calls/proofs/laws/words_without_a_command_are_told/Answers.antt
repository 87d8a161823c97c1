use Rattle.denova_calls.proofs.Completes.{without_command}
use Rattle.denova_calls.proofs.laws.words_without_a_command_are_told.Goals as goal

pub returns : goal.returns
returns c = without_command
