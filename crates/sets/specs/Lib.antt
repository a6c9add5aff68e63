pub mod Instances
pub mod Masks
pub mod Members
pub mod Requests
pub mod SetLaws
pub mod Sets
