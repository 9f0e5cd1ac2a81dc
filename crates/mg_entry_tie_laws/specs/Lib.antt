pub mod FewLaws
pub mod IndexPlaces
pub mod Laws
pub mod LayLaws
pub mod MeetLaws
pub mod PageLaws
pub mod RowLaws
pub mod StandLaws
