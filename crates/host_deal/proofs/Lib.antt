-- Fits      the words of both slots that are looked at
-- Alike     dealing on them is dealing
-- Leaving   what the code leaves
pub mod Fits
pub mod Alike
pub mod Leaving
