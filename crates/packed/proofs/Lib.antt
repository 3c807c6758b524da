pub mod Places
pub mod RoundTrips
pub mod Parts
