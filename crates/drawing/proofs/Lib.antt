-- The laws of drawing, by protocol's definitions.
-- Turns    one turn of a loop over raw words
-- Then     drawing in several goes
-- Sifting  drawing from the words kept
pub mod Turns
pub mod Then
pub mod Sifting
