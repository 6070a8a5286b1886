pub mod Limits
pub mod Cut
pub mod Happen
pub mod Run
pub mod Report
pub mod Texts
