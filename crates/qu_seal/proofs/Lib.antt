pub mod Lengths
pub mod Numbers
pub mod Padding
pub mod Tables
