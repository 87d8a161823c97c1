-- A row as it is answered, and as definitions speak of it.
use Rattle.dn_model.specs.Table.{Row as TableRow}
use Rattle.fact_scan.specs.declared.row.Row.{Row}

abbrev pub as_row : Row → TableRow
as_row r = record {
  slot = r.slot;
  print = r.print;
  page = r.page;
  rfc = r.count.rfc;
  uc = r.count.uc;
}
