pub mod Filtering
pub mod Senders
pub mod Handled
pub mod Orders
pub mod Taken
pub mod Operations
