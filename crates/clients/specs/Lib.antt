pub mod Endpoints
pub mod Subs
