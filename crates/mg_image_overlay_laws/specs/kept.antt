-- What an overlay of an image has to be, what it holds, and what keeps it so.
pub mod HeldLaws
pub mod HeldSome
pub mod HoldLaws
pub mod KeptImages
pub mod KeptLaws
pub mod Knowing
pub mod Rest
pub mod StartLaws
pub mod StepsLaws
