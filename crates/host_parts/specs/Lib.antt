-- Taken   a line whose form was read
pub mod Taken
