pub mod Maps
pub mod Replies
pub mod Scans
