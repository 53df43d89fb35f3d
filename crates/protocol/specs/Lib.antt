pub mod Addresses
pub mod Buffers
pub mod Bytes
pub mod Codes
pub mod Refusals
