pub mod Payloads
pub mod Posts
pub mod Rings
