pub mod Boolean
pub mod Codes
pub mod HalfMoves
pub mod Halves
pub mod Masks
