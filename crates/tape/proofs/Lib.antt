-- Sides   what sides and moduli that fit are bounded by
-- Matrices  the sizes of a half's matrices
-- Chain   `search chain` closes a return of a function that makes tests one after the other
-- Slots   a slot lent as a part of its pool, its status, and a half in it
pub mod Sides
pub mod Slots
pub mod Matrices
pub mod Chain
