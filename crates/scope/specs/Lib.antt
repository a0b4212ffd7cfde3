pub mod Scopes
pub mod Frames
pub mod Splicing
pub mod Walks
pub mod Binding
