pub mod SheetLaws
pub mod CheckSheetLaws
