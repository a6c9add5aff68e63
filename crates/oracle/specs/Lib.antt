pub mod Asking
pub mod Branching
pub mod Calls
pub mod Meaning
pub mod Refused
pub mod Words
