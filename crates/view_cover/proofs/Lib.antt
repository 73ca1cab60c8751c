mod Spans
mod Trees
mod Fronts
mod Shrinking
mod Samples
mod Listed
mod Ends
mod Filling
mod Gaps
mod Holding
mod Parts
mod Drawn
mod Steps
pub mod Crossing
