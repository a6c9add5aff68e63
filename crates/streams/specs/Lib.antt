pub mod Faults
pub mod Limit
pub mod Written
