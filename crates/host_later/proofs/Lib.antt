-- Dropped   a drop, and a call that is lent no line
-- Opened    a later call by what the code's parts told
pub mod Dropped
pub mod Opened
