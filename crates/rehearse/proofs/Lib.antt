-- Judged  the tests in two groups, and what is printed of each outcome
-- Printed what is printed has room
-- Runs    what the calls leave is the run of the definition
pub mod Judged
pub mod Printed
pub mod Runs
