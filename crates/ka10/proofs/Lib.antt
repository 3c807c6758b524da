pub mod Eights
pub mod Order
pub mod Blocks
pub mod Runs
pub mod Lifting
