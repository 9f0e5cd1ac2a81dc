pub mod Precedence
pub mod PrecedenceLaws
pub mod CarefulWrite
pub mod CarefulSteps
pub mod Rows
pub mod Graph
pub mod GraphLaws
