pub mod SameFacts
pub mod TokenFacts
pub mod SkipFacts
pub mod LookFacts
