-- Known   what is known where tests passed
-- Phases  each step's tests as its code makes them
pub mod Known
pub mod Phases
