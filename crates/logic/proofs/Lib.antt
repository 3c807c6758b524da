pub mod BitLaws
pub mod BooleanLaws
pub mod HalfMoveLaws
pub mod MaskLaws
