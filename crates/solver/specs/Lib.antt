-- Groups    the tests of the later steps
-- Formulas  what the later steps compute, by matrices and a message's residues
pub mod Groups
pub mod Formulas
