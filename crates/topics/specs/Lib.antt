pub mod Admission
pub mod Amendment
pub mod Laws
pub mod Stored
