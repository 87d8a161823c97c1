use Rattle.std.proofs.Common.{◌≡◌, ◌<◌, ℕ}
use Rattle.dn_script.specs.Job.{lines_of, clients_to}
use Rattle.dn_script.proofs.draft.clients_of.Given as goal

abbrev pub invariant-loop-before : goal.invariant-loop-before
invariant-loop-before l = record {
  so_far : l.clients.items ≡ clients_to l.before l.named l.fn.owned.items;
  others : (m : ℕ) → l.before < m → lines_of m l.left.items ≡ lines_of m l.fn.owned.items;
}
