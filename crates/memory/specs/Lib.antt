pub mod Layout
pub mod Build
