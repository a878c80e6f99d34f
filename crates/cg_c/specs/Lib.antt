pub mod Answer
pub mod Explain
pub mod First
pub mod Json
pub mod Kind
pub mod Number
