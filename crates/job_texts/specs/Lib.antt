pub mod Plan
pub mod PlanLaws
pub mod Told
pub mod Telling
pub mod Marks
