pub mod Opening
pub mod Answering
pub mod Exchanging
