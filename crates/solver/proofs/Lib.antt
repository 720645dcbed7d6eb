-- Known     what is known where tests passed
-- Order     each step's tests, judged in the phases in which its code makes them
-- Formulas  what the code wrote, by the definitions' formulas
pub mod Known
pub mod Order
pub mod Formulas
