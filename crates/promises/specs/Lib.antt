pub mod World
pub mod Truth
pub mod Promise
pub mod Way
pub mod Beside
pub mod Told
