-- How the dealer's code keeps protocol's definition of dealing.
-- Sorts    the sorts as the code names them, and requests over terms
-- Groups   its tests, in the groups in which it makes them
-- Shape    what the tests and the writers ask of numbers and lengths
-- Written  what the writers write
-- Dealt    everything that a dealing leaves, as one term
pub mod Sorts
pub mod Groups
pub mod Shape
pub mod Written
pub mod Dealt
