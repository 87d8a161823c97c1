pub mod Totals
pub mod Starts
pub mod WriteCounts
pub mod NameCounts
