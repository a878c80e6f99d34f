pub mod Again
pub mod Firsts
