pub mod Trees
pub mod Rules
