pub mod Passing
pub mod Bits
pub mod FreeLaws
pub mod Sets
pub mod Written
