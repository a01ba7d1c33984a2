pub mod PieceLaws
pub mod CutLaws
pub mod WholeLaws
pub mod ChunkLaws
pub mod NearLaws
pub mod Promised
