pub mod FitLaws
pub mod RoomLaws
pub mod TakenLaws
pub mod WriteLaws
