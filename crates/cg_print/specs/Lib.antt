pub mod Entry
pub mod Headed
pub mod Joined
pub mod JoinedLaws
pub mod Sink
