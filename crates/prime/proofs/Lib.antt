-- Chain          tests made one after the other
-- TrialDivision  what trial division shows of a prime
-- Wheel          trial division by the numbers that 2, 3 and 5 do not divide
-- Divisors       divisors in the form that a machine's remainder has
-- Reduction      what a product that Montgomery reduction gathers keeps
-- PrimeTable     a table of products has every prime up to the root
-- Gathered       the table's entries, multiplied up
pub mod Chain
pub mod TrialDivision
pub mod Wheel
pub mod Divisors
pub mod Reduction
pub mod PrimeTable
pub mod Gathered
