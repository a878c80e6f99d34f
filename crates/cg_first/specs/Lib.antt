pub mod First
pub mod Again
