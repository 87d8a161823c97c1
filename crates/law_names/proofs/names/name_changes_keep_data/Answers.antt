use Rattle.law_names.proofs.Changed.{same_geometry, same_rows, same_pointer, same_word}
use Rattle.law_names.proofs.Kept.{
  maps_same,
  mappings_same,
  mapped_kept,
  mapped_only,
  near_kept,
  exact_kept,
  log_page_kept,
  log_page_cases,
  free_kept,
  free_only,
  fresh_taken,
}
use Rattle.law_names.proofs.ChangedFiles.{bytes_same}
use Rattle.law_names.proofs.ChangedOwn.{live_was, own_kept, settled_kept}
use Rattle.law_names.proofs.names.name_changes_keep_data.Goals as goal

pub returns-clause-data : goal.returns-clause-data
returns-clause-data c = λ d change may. record {
  geometry = same_geometry d change;
  maps_same = maps_same d change may;
  mappings_same = mappings_same d change may;
  mapped_kept = mapped_kept d change may;
  mapped_only = mapped_only d change may;
  rows_same = same_rows d change;
  pointers = same_pointer d change;
  words = same_word d change;
  near = near_kept d change may;
  exact = exact_kept d change may;
  settled = settled_kept d change may;
  live_only = live_was d change may;
  bytes_same = bytes_same d change may;
  log_pages_kept = log_page_kept d change may;
  log_pages_only = log_page_cases d change may;
  free_kept = free_kept d change may;
  free_only = free_only d change may;
  fresh_taken = fresh_taken d change may;
}

pub returns-clause-own : goal.returns-clause-own
returns-clause-own c = λ print d change may. own_kept d change may print
