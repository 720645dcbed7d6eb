-- Fill     a list that a loop fills from the front
-- Below    words below a bound, tested from the front
-- Written  words written over a list one after the other, and parts of slices that are lent
-- Rows     a matrix with one row more, and what a turn of a loop over rows leaves
pub mod Fill
pub mod Below
pub mod Written
pub mod Rows
