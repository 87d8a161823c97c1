mod Found
pub mod RoomKept
pub mod Loose
pub mod Answered
mod HoldsAll
pub mod Members
pub mod Cleanings
pub mod Started
pub mod Opened
