pub mod Table
pub mod Taken
pub mod Shares
pub mod Ends
pub mod Answers
pub mod Asks
pub mod Reads
