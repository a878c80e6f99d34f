pub mod Inserted
pub mod Joined
pub mod Lists
