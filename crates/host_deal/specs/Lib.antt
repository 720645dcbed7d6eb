-- How the dealer's entry keeps its definition on bytes.
-- Part     the words of both slots that are looked at
-- Copied   dealing on copies of them
pub mod Part
pub mod Copied
