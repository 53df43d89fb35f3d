pub mod Calls
pub mod Deeds
pub mod History
pub mod Law
pub mod Outcomes
pub mod State
pub mod Steps
