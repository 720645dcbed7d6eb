-- Lists of calls that meet the premises of demands 2 and 3, computed, in reading order.
-- Computing         what a list computes with, opened by one name
-- Example           a list in which every kind of call is accepted and refused
-- Interleaved       two products and a system interleaved: every field of demand 2 is met
-- Counts            how many completions its views have
-- Mornings          three days, and their windows
-- Determinants      two determinant sessions, one with a singular sum: what demands 2 and 3 say of them
pub mod Computing
pub mod Example
pub mod Interleaved
pub mod Counts
pub mod Mornings
pub mod Determinants
