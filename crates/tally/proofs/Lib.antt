pub mod CountLaws
pub mod CounterLaws
