-- Fill  a list whose first words are written, and what is stored there
pub mod Fill
