pub mod CommandLine
pub mod Program
pub mod Rows
pub mod Words
