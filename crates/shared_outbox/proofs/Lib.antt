pub mod Contents
pub mod Counts
pub mod Firsts
pub mod Rooms
