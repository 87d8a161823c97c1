pub mod Later
pub mod Changes
pub mod OneRow
pub mod AllRows
pub mod Stills
pub mod Tidied
