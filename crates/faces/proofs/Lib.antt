pub mod Adding
pub mod Following
