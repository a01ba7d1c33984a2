pub mod MadeRead
