pub mod Canon
