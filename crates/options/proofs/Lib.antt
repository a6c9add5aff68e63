pub mod Finding
pub mod TurnedOn
pub mod Turns
