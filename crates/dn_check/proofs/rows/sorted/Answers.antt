use Rattle.std.proofs.lemmas.List.Sorted.{IsNonDecreasingBy-from_sort_by_key}
use Rattle.std.proofs.Common.{rules}
use Rattle.dn_check.proofs.rows.sorted.Goals as goal

pub returns-clause-order : goal.returns-clause-order
returns-clause-order c = IsNonDecreasingBy-from_sort_by_key (λ row. row.slot) _ c.sort_unstable_by_key.ensures.sorted (λ a r q k. search rules)
