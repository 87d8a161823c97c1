pub mod RoomMade
pub mod Worked
pub mod Walked
pub mod Dying
pub mod Zero
