-- Points in their order.
pub mod Printed
pub mod Rising
pub mod Sorted
pub mod Folding
pub mod Compared
