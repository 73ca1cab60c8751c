pub mod DiskLemmas
pub mod Holders
pub mod ValuesLemmas
pub mod ReportDrawing
pub mod Drawing
pub mod MayLemmas
