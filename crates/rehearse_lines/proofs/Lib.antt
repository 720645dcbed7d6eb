-- Split   the lines of a run of bytes, and the numbers in them
-- Stores  what is printed, stored run by run
pub mod Split
pub mod Stores
