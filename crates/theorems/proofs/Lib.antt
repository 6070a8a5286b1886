pub mod Stage
pub mod Happened
pub mod Truth
pub mod Promises
