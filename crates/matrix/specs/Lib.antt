-- Inner  sums of products, as the loops compute them
pub mod Inner
