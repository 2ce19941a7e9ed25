pub mod Text
pub mod Parse
pub mod Written
pub mod Append
pub mod Respond
