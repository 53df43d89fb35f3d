pub mod Answers
pub mod Laws
pub mod Notes
pub mod Payloads
pub mod Rings
