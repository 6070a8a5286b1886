pub mod Arguments
pub mod Help
pub mod Program
