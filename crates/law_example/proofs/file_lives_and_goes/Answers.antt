use Rattle.law_example.proofs.Living.{lives}
use Rattle.law_example.proofs.file_lives_and_goes.Goals as goal

pub returns : goal.returns
returns c = lives (record {
  runs = c.runs_make_writes.ensures.without_rows;
  valid = c.writes_stay_valid.ensures;
  put = c.writes_put_text.ensures;
  writes = c.writes_are_writes.ensures;
  own = c.writes_stay_own.ensures;
  take = c.writes_take_and_free.ensures;
  may_create = c.operations_change_names.ensures.creations;
  may_remove = c.operations_change_names.ensures.removals;
  names_parts = c.name_changes_stay_valid.ensures.parts;
  names_valid = c.name_changes_stay_valid.ensures.valid;
  names_keep = c.name_changes_keep_data.ensures.data;
  names_own = c.name_changes_keep_data.ensures.own;
  creations_name = c.operations_name.ensures.creations;
  creations_create = c.operations_change_files.ensures.creations;
  removals_remove = c.operations_change_files.ensures.removals;
  empty_valid = c.empty_disks.ensures.valid;
  no_files = c.empty_disks.ensures.no_files;
  empty_own = c.empty_disks.ensures.own;
  counted = c.mappings_are_places.ensures.counted;
})
