-- Square    a square matrix judged by its numbers and then by its words
-- Longest   no line of a kind is longer than `longest_line`
pub mod Square
pub mod Longest
