pub mod Put
pub mod Gone
