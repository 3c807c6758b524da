pub mod Windows
pub mod Window
