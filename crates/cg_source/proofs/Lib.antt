pub mod Explaining
pub mod Stops
pub mod Took
