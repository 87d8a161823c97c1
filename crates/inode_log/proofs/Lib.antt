pub mod Committed
pub mod Preparing
pub mod Reflagged
pub mod OthersStand
