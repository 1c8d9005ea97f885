-- The printed order is serial.
pub mod SerialFields
pub mod SerialOrder
