pub mod ScopeFacts
pub mod FrameFacts
pub mod WalkFacts
pub mod VisitFacts
pub mod SpliceFacts
pub mod OwnFacts
