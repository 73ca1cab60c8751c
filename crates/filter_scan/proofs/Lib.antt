pub mod Merging
pub mod EndLaws
pub mod ShareLaws
pub mod FillLaws
pub mod TableLaws
pub mod PointLaws
pub mod AskLaws
pub mod WindowLaws
