-- Kept      arrays that hold a vector or a matrix at their start, sizes, and the parts of the scratch
-- Coins     coins that are drawn
-- Start     what stands at the start of an array that was written over
-- Factored  W by two products
-- Sent      the message that a step takes
-- Order     the steps' tests, judged by the phases in which the code makes them
-- Known     what is known where tests passed
-- Division  what a determinant's last step divides by, and its answer
pub mod Kept
pub mod Coins
pub mod Start
pub mod Factored
pub mod Sent
pub mod Order
pub mod Known
pub mod Division
