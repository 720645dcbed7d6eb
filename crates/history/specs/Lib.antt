-- Demands 3 and 2, in reading order.
-- Ends      sessions and steps of all four ends as one type, and the table of steps
-- Log       calls, what they leave, the log, places, and the premises
-- Contents  what slots and scratches hold
-- Seen      what the end of each session has seen
-- Claim     demand 3
-- Right     demand 2, for the same lists
-- Windows   demand 2 for windows of days
pub mod Ends
pub mod Log
pub mod Contents
pub mod Seen
pub mod Claim
pub mod Right
pub mod Windows
