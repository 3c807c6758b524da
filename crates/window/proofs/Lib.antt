pub mod WindowLaws
pub mod Apart
