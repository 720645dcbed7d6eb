-- What the contracts of elimination cite beside the algebra's definitions.
-- Shapes  the shapes that elimination leads to, and the array that holds a system
-- Solves  the solutions of a system
-- Fraction  the determinant as a fraction, pivot by pivot
pub mod Shapes
pub mod Solves
pub mod Fraction
