-- The entries on bytes (RULES 11) as definitions, in reading order.
-- Bytes     words as bytes
-- Record    one session record for all ends
-- Steps     the first step of an end, the step that is due, and the drop, over a record
-- Entry     the entries: bytes to words, the step, words to bytes
pub mod Bytes
pub mod Record
pub mod Steps
pub mod Entry
