pub mod RequestFacts
pub mod WalkFacts
