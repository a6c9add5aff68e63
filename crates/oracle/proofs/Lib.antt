pub mod Checks
pub mod Numbers
pub mod Still
