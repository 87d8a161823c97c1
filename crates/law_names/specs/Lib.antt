pub mod NameChange
pub mod Operations
pub mod Keeping
pub mod AllOrNoneLaws
pub mod NameLaws
