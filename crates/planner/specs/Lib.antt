pub mod Invariant
pub mod Calls
pub mod Called
pub mod Law
pub mod Seen
pub mod Contract
pub mod Tally
