pub mod Empty
pub mod Tables
