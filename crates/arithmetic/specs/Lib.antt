pub mod Condition
pub mod Division
pub mod Flags
pub mod Signed
pub mod Sums
