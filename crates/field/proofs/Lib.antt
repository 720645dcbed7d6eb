-- FieldLaws      what the answer of `Field::new` says of calls that make its test first
-- Signed         a score as a machine reads it
-- Wrap           sum and difference of residues without a division
-- Bezout         the extended algorithm of Euclid with signed multipliers
pub mod FieldLaws
pub mod Signed
pub mod Wrap
pub mod Bezout
