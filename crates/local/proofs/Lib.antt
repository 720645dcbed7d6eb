-- Outcomes   outcomes of calls: changed effects, further tests, lists of tests that are judged alike
-- Slots      the words of a slot that a call looks at
-- Lists      lists of words
-- Tests      the tests that steps share, on what a call looks at
-- Sifted     the raw words that a call looks at
-- Product, Solver, Blinder, Drops   each step and drop, on what a call looks at
-- Steps      the calls over a record, on what they look at
-- Proper     what an accepted call leaves
-- Recorded   a step with the record of its session: its contract carried over, to slices too that it is not lent
-- Ends       every step and drop: its answer tells whether it was done; what it leaves unwritten
-- Brought    a step on words that are brought from bytes
-- Finish     what the code puts back is what the step's outcome says
-- Told       how the outcomes of calls behave
-- Pool       a call on the bytes from its slot on, in the whole pool
-- Within     the same with words cut to the lengths that it looks at
-- Entries    what a call leaves is what its entry's definition says
pub mod Outcomes
pub mod Slots
pub mod Lists
pub mod Tests
pub mod Sifted
pub mod Product
pub mod Solver
pub mod Blinder
pub mod Drops
pub mod Steps
pub mod Proper
pub mod Recorded
pub mod Ends
pub mod Brought
pub mod Finish
pub mod Told
pub mod Pool
pub mod Within
pub mod Entries
