pub mod UraLaws
