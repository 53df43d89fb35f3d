pub mod Choice
pub mod Held
pub mod Kept
pub mod Laws
pub mod Pairs
pub mod Standing
