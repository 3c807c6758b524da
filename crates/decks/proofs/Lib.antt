pub mod Agrees
pub mod Back
pub mod Digits
pub mod Sounds
