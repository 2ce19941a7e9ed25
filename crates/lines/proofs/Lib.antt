pub mod Alone
pub mod Keeping
pub mod Spelling
