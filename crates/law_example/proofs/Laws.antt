-- The laws that the example stands on, as the functions that state them promise them.
use Rattle.law_write.specs.WriteLaws.{WritesStayValid, WritesPutText, WritesAreWrites, WritesStayOwn, WritesTakeAndFree, RunsMakeWritesWithoutRows}
use Rattle.law_table_on_disk.specs.MappingLaws.{MappedPagesCount}
use Rattle.law_names.specs.NameLaws.{
  CreationsMayChange,
  RemovalsMayChange,
  NameChangesChangeParts,
  NameChangesStayValid,
  NameChangesKeepData,
  NameChangesStayOwn,
  CreationsName,
  CreationsCreate,
  RemovalsRemove,
}
use Rattle.recovery.specs.Empty.{EmptyDisksAreValid, EmptyDisksHaveNoFiles, EmptyDisksAreOwn}

pub record Laws : Type 0 where
  -- of writes
  pub runs : RunsMakeWritesWithoutRows
  pub valid : WritesStayValid
  pub put : WritesPutText
  pub writes : WritesAreWrites
  pub own : WritesStayOwn
  pub take : WritesTakeAndFree
  -- of names
  pub may_create : CreationsMayChange
  pub may_remove : RemovalsMayChange
  pub names_parts : NameChangesChangeParts
  pub names_valid : NameChangesStayValid
  pub names_keep : NameChangesKeepData
  pub names_own : NameChangesStayOwn
  pub creations_name : CreationsName
  pub creations_create : CreationsCreate
  pub removals_remove : RemovalsRemove
  -- of empty disks and mappings
  pub empty_valid : EmptyDisksAreValid
  pub no_files : EmptyDisksHaveNoFiles
  pub empty_own : EmptyDisksAreOwn
  pub counted : MappedPagesCount
