pub mod Dying
pub mod DyingLaws
