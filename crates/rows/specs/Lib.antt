-- Shape  what a product asks, and what it writes
-- Rows   a row of a product, gathered along the rows of its second matrix
pub mod Shape
pub mod Rows
