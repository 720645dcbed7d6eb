-- The laws of the entries on bytes.
-- Bytes   words as bytes, and bytes as words
-- Stands  the entries stand for their steps, over every record that entries made
pub mod Bytes
pub mod Stands
