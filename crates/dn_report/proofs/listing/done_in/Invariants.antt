use Rattle.std.proofs.Common.{◌≡◌, ◌≤◌, take}
use Rattle.dn_report.specs.Listing.{count_done}
use Rattle.dn_report.proofs.listing.done_in.Given as goal

abbrev pub invariant-loop-entry : goal.invariant-loop-entry
invariant-loop-entry l = record {
  done : l.done ≡ count_done (take l.entry-index l.history);
  fits : l.done ≤ l.entry-index;
}
