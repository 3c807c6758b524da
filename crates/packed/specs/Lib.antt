pub mod Nines
pub mod Layout
pub mod Words
pub mod Packing
