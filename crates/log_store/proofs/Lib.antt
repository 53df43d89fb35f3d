pub mod Format
pub mod Meanings
pub mod Nexts
pub mod Sifts
pub mod Stores
pub mod Walks
