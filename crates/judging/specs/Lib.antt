-- How code makes the tests that protocol's definitions judge.
-- InOrder   tests made one after the other, and the tests sorted by their refusal
-- Lowest    the lower of two judgements' refusals, and tests made phase by phase
-- Groups    the groups of tests that calls share, over the numbers that the code has at that point
-- Received  the tests of every step that takes a message
-- Leaves    everything that a step's code leaves
pub mod InOrder
pub mod Lowest
pub mod Groups
pub mod Received
pub mod Leaves
