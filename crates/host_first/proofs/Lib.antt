-- Opened   a first step by what the code's parts told
pub mod Opened
