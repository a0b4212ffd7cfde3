pub mod LayoutFacts
pub mod AreaFacts
pub mod BuildFacts
pub mod BuildLaws
