pub mod Kind
pub mod Ours
pub mod Sets
pub mod Marks
pub mod Bits
pub mod Numbers
