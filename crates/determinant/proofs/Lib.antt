-- The laws of determinant, in reading order.

-- ---- the determinant
-- chains of congruences
pub mod Chains
-- the expansion is linear in each row, and 0 where two neighbours are equal
pub mod Expansion
-- linear and alternating forms of the rows; one that is 0 for the identity is 0
pub mod Forms
-- the determinant is such a form: row operations, triangles, products
pub mod Rows
-- one to four rows, written out, for code
pub mod Written
-- the determinant by elimination, for code
pub mod Pivots
-- of matrices stored row by row: products, inverses, elimination
pub mod Determinant
-- ---- the rank
-- a count above 0, and a count with a second test
pub mod Counting
-- S × A × T = B for S and T with an inverse
pub mod Equivalence
-- every matrix is equivalent to a diagonal of ones
pub mod Normal
-- the number of solutions of A × x = 0; a matrix is equivalent to one such diagonal alone
pub mod Kernel
-- the rank
pub mod Rank
-- ---- the session
-- algebra's formulas without right-hand sides
pub mod NoColumns
-- as many pairs P, Q for matrices of the same rank
pub mod Pairs
-- the answer
pub mod Session
-- the solver's view
pub mod Solver
-- the blinder's view
pub mod Blinder
-- small values, computed
pub mod Runs
