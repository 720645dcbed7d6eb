-- Chosen     which end's step a call is
-- Arrays     arrays that words are copied into
-- Opened     what a call's tests alone tell, and a first step over a record that is open
pub mod Chosen
pub mod Arrays
pub mod Opened
