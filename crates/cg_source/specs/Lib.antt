pub mod Explained
pub mod Reading
pub mod Source
pub mod TextReader
