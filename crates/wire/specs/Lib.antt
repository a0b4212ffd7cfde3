pub mod Request
pub mod Walk
