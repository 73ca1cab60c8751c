pub mod ExportLemmas
pub mod PieceLemmas
pub mod FaultLemmas
pub mod CutLemmas
pub mod SetLemmas
pub mod RowLemmas
pub mod RoomLemmas
pub mod AcceptLemmas
