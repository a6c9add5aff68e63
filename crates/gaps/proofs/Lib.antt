pub mod Lifting
pub mod Searching
