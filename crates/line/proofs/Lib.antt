-- Fits     a message that passed has at most 3,072 residues, and room
-- Judged   the tests that code makes are those that protocol judges
-- Words    the words that a line was read into
-- Bytes    a message's line in two runs
-- RoundTrip  what is written reads back, and only lines that can be written are read
-- Replies    what the answers tell determines them
pub mod Fits
pub mod Judged
pub mod Words
pub mod Bytes
pub mod RoundTrip
pub mod Replies
