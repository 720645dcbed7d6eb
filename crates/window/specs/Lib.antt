-- Entries   the entries on bytes
pub mod Entries
