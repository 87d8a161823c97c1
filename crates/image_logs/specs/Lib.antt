pub mod Usage
pub mod Logs
pub mod LogsLoop
