pub mod Loose
pub mod Meant
pub mod Probing
pub mod Roaming
