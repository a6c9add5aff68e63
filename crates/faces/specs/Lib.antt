pub mod Examples
pub mod Meant
pub mod Steps
pub mod Verdict
