pub mod Tokens
pub mod Ranges
pub mod Grammar
pub mod Requests
pub mod Spelling
