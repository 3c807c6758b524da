pub mod Decode
pub mod Fields
