-- Reading  what each function of the reader finds
-- Writing  what each function of the writer stores
pub mod Reading
pub mod Writing
