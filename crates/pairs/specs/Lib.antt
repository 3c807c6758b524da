pub mod Joining
pub mod Interleaving
