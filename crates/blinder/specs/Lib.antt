-- First     the first step's tests in phases, what its functions ask, and its message
-- Later     the tests of both later steps, in phases
-- Second    what the writers of the second step ask, and its message
-- Division  what a determinant's last step divides by
pub mod First
pub mod Later
pub mod Second
pub mod Division
