pub mod Look
pub mod Token
pub mod Node
