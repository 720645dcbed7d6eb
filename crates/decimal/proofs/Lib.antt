-- Bytes   one byte of a line: `numbers-end`, `numbers-byte`, `numbers-none`, `no_number`, `needs-end`
-- Runs    a run of digits: `run-start`, `run-turn`, `run_end`
-- Scans   the numbers of a line, one after the other: `scan-start`, `scan-turn`, `scan-done`, `scan-wrong`
-- Powers  a number by its powers of ten: `upto_turn`, `decimal-high`, `digits_between`
-- Stores  a run of numbers stored: `part-turn`, `line-append`, `sets-append`
-- Entry   what the entry `numbers` answers and leaves
-- Exits   what a `?` hands on: `err-exit`, `none-err`
-- Messages  a message's line in two runs: `message-bytes`, `message-stored`
pub mod Bytes
pub mod Runs
pub mod Scans
pub mod Powers
pub mod Stores
pub mod Entry
pub mod Exits
pub mod Messages
