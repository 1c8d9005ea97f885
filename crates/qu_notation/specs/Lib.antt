pub mod Bytes
pub mod Digits
pub mod Names
pub mod Numbers
pub mod Text
pub mod Words
