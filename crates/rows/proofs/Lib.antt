-- Places     places of a matrix that is stored row by row
-- Whole      a row within the whole matrix
-- Gathering  a row of a product, gathered two or four terms at a time
pub mod Places
pub mod Whole
pub mod Gathering
