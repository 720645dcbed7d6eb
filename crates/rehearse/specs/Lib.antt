-- Order  the tests of a rehearsal, in the groups in which the code makes them, and what it prints
-- Rooms  the pools of a run, and the lengths of the slices that its calls are lent
pub mod Order
pub mod Rooms
