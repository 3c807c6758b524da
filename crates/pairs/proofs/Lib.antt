pub mod Whole
pub mod JoinedLaws
pub mod InterleavedLaws
