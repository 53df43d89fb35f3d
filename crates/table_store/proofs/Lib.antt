pub mod Finds
pub mod Lowest
pub mod Tables
pub mod Writes
