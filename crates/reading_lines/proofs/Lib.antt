pub mod Behind
pub mod LastDigits
pub mod ReadBack
pub mod Words
