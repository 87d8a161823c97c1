pub mod Among
pub mod Runs
pub mod Mappers
pub mod Parts
pub mod Alike
pub mod Naming
pub mod Cleaning
