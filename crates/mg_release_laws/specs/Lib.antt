pub mod Released
pub mod TreesStay
pub mod StaySound
pub mod StayHeld
pub mod Written
