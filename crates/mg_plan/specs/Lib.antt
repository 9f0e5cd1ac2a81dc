pub mod Names
pub mod Binding
pub mod Types
pub mod Shapes
pub mod Statements
pub mod Refusing
pub mod BindingLaws
pub mod Plans
