pub mod Pushdowns
