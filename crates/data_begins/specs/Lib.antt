pub mod Places
pub mod Hindered
pub mod Asked
pub mod Ready
pub mod Lookup
