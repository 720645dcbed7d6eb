-- Shape   what the writers of the steps ask
pub mod Shape
