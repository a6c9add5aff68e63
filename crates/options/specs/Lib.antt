pub mod Examples
pub mod Meant
pub mod Propagating
pub mod Verdict
