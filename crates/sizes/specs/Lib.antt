-- What the small entries give (RULES 11.5), as definitions.
-- Sizes     the words, bytes and residues that a call of certain sides takes
-- Inverse   a square matrix handed over as bytes, judged
-- Words     the refusals' words, and a text over a slice
pub mod Sizes
pub mod Inverse
pub mod Words
