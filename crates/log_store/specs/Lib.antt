pub mod Entries
pub mod Format
pub mod Laws
pub mod Log
pub mod Logs
pub mod Memories
