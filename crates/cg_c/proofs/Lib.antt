pub mod AmongNames
pub mod Entries
pub mod Firsts
