pub mod Numbers
pub mod Twice
pub mod FreePages
pub mod Linked
