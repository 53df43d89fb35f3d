pub mod Buffers
pub mod Heads
pub mod Lengths
pub mod Reading
pub mod Largest
pub mod Sinks
