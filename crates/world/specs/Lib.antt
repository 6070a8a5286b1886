pub mod Stations
pub mod Mail
pub mod Journal
pub mod View
pub mod Opening
pub mod Outcome
pub mod Safe
