use Rattle.std.proofs.Common.{◌≡◌, ◌==◌, drop}
use Rattle.std.specs.List.{list_any}
use Rattle.dn_script.proofs.draft.client_of.Given as goal

abbrev pub invariant-loop-client : goal.invariant-loop-client
invariant-loop-client l = list_any (λ c. c.0 == l.number) (drop l.client-index l.clients) ≡ list_any (λ c. c.0 == l.number) l.clients
