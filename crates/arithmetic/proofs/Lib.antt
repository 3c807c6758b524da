pub mod ConditionLaws
pub mod DivisionLaws
pub mod FlagLaws
pub mod SignedLaws
pub mod SumLaws
