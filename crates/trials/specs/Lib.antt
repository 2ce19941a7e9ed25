pub mod Stack
pub mod Stacks
pub mod Wide
pub mod Wides
pub mod Steps
