pub mod Examples
pub mod Meant
pub mod Verdict
