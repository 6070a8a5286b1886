pub mod Decimal
pub mod Faults
pub mod Tokens
pub mod Forms
pub mod Texts
