pub mod UserLaws
pub mod AddressLaws
pub mod TransferLaws
pub mod ExecutionLaws
pub mod StepLaws
pub mod InPlace
