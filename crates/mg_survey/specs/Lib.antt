pub mod Survey
pub mod UnmadeLaws
