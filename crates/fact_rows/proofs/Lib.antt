pub mod Inserted
pub mod TakenOut
