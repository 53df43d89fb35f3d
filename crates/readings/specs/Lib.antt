pub mod Readings
pub mod Laws
