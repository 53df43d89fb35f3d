pub mod Heads
pub mod Laws
pub mod Maps
pub mod Reading
