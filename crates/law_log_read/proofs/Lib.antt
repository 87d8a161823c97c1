pub mod Decided
pub mod FrontDecided
pub mod Pages
pub mod Items
pub mod LogRead
