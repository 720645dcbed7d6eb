-- What the drawing functions answer, by protocol's definitions of drawing.
-- Extent  how far words are read, and what is collected
-- Sift    the words that are kept
pub mod Extent
pub mod Sift
