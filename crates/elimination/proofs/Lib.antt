-- Laws for the proofs of the functions.
-- Agree     steps on matrices that agree in part; which pivots are found (`found-agreed`)
-- Turns     forward elimination, turn by turn
-- Loading   words to the array and back
-- Shapes    the triangle that forward elimination leads to, and the identity that back substitution does
-- Solutions row operations keep the solutions of a system
-- Determinants  the array's determinant: where elimination begins, and a turn of it
-- Expansions  determinants of few rows, written out
-- Crossings  elimination without inverses, column by column
-- Fractions  the determinant as the fraction that it leads to
pub mod Agree
pub mod Turns
pub mod Loading
pub mod Shapes
pub mod Solutions
pub mod Determinants
pub mod Expansions
pub mod Crossings
pub mod Fractions
