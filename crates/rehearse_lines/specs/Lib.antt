-- Says    what the five lines say, where they can be read
-- Prints  what is printed of a run, and how many bytes that may be
pub mod Says
pub mod Prints
