pub mod WhyLaws
