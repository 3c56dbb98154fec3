-- What serves the functions: the bytes of a varint, the fields, the message.
pub mod Varints
pub mod Parts
pub mod Messages
