pub mod VtdWords
pub mod VtdLaws
