pub mod Judging
pub mod Topics
