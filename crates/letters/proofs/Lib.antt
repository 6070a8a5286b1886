mod Filled
pub mod Row
