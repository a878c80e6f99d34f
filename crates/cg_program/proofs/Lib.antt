pub mod Builds
pub mod Commands
pub mod Entered
pub mod Flags
pub mod Profiles
pub mod WordsTold
pub mod WrittenOut
