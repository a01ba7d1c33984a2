pub mod PartLaws
pub mod RoomLaws
