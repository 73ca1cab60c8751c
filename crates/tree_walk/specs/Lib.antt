pub mod SpaceViews
pub mod Paths
pub mod Trees
pub mod Trails
pub mod Holding
pub mod PagedNodes
pub mod Walk
