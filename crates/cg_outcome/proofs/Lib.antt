pub mod ByteTold
pub mod KindsLemmas
pub mod Lined
pub mod SpotTold
pub mod Spots
pub mod Written
