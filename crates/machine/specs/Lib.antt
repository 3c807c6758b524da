pub mod User
pub mod Machine
pub mod Endings
pub mod Address
pub mod Transfer
pub mod Execution
pub mod Steps
pub mod ExecuteLaw
