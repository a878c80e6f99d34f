pub mod ByteNames
pub mod Explain
pub mod Input
pub mod Kinds
pub mod Lines
pub mod Outcome
pub mod Spot
pub mod Wrote
