pub mod OldStores
pub mod Upgraded
pub mod Upgrading
