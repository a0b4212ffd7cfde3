pub mod Answers
pub mod Hex
pub mod HexResults
pub mod Lines
pub mod LineResults
