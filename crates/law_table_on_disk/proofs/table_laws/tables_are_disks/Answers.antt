use Rattle.law_table_on_disk.proofs.TableValid.{fitting_valid, valid_fits}
use Rattle.law_table_on_disk.proofs.NextDisk.{image_of_table, standing_table}
use Rattle.law_table_on_disk.proofs.table_laws.tables_are_disks.Goals as goal

pub returns-clause-images : goal.returns-clause-images
returns-clause-images c = λ d e next valid s t stands agree size only. image_of_table d valid s t stands only e next agree size

pub returns-clause-stands : goal.returns-clause-stands
returns-clause-stands c = λ d e next valid s t stands only. standing_table d valid s t stands only e next

pub returns-clause-valid : goal.returns-clause-valid
returns-clause-valid c = fitting_valid

pub returns-clause-fits : goal.returns-clause-fits
returns-clause-fits c = valid_fits
