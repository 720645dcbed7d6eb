-- Entries  what the entries answer and leave
-- Reading  a line that was loaded, and the tests that code makes last
pub mod Entries
pub mod Reading
