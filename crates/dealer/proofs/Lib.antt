-- How the dealer's code keeps protocol's definition of dealing.
-- Order    its tests, judged by the groups in which its code makes them
-- Known    what is known where the tests passed
-- Words    words written over a list, and read back; what a writer computes into a buffer
-- Draws    matrices drawn one after the other, each straight to its place
-- Made     B0 and V in their buffers
-- Whole    what the writers leave are the halves that the definition says
-- Leaving  what the code leaves is what the definition says
pub mod Order
pub mod Known
pub mod Words
pub mod Draws
pub mod Made
pub mod Whole
pub mod Leaving
