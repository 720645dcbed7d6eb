-- Seen      what a call looks at, of its slot, inputs, message, scratch and result
-- Settled   how code sees by its answer that a call was done
-- Stored    what the code puts back of what a step left in local words
-- Entered   the calls of a session on what they look at, and what their entries leave
pub mod Seen
pub mod Settled
pub mod Stored
pub mod Entered
