-- TakenLaws   a message from its line
-- Records     a session in its record's bytes
-- Lower       the lower of two refusals
-- Looked      what a call looks at
-- PutBack     what is put back
pub mod TakenLaws
pub mod Records
pub mod Lower
pub mod Looked
pub mod PutBack
