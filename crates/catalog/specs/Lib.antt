pub mod Catalog
pub mod Links
