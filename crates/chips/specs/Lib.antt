pub mod Refusals
pub mod Questions
pub mod Kind
pub mod Rules
pub mod Behaviour
