pub mod Laws
pub mod Overlays
pub mod BatchLaws
pub mod StateLaws
pub mod Views
