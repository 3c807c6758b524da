pub mod Bits
pub mod Refusals
pub mod Signed
pub mod Word
