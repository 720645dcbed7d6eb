-- Numbers  how long a window is, and then where it begins
-- Phases   numbers first, and then the days that are used
-- Sums     a sum, and words copied from bytes
pub mod Numbers
pub mod Phases
pub mod Sums
