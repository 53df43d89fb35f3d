pub mod Entries
pub mod Held
pub mod Laws
pub mod Places
