pub mod Collecting
pub mod Keeping
pub mod Leaving
pub mod Lists
pub mod Sameness
pub mod Standings
