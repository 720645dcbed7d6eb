-- Modular  products and remainders
-- Sums     a product added to words that were written first
-- Along    sums along lists, places in matrices, and a product from the columns of its second matrix
pub mod Modular
pub mod Along
pub mod Sums
