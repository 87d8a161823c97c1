-- A row as it is answered, and as definitions speak of it.
pub use Rattle.fact_scan.specs.Seen.{as_row}
