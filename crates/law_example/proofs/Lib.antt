pub mod Laws
pub mod PageWrite
pub mod Living
