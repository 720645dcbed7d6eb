-- Wheel    trial division by the numbers that 2, 3 and 5 don't divide
-- Product  products of candidates modulo q, for the prime test of large moduli
pub mod Wheel
pub mod Product
