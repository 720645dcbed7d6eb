-- Ends    the ends as the code names them
-- Placed  a half that has its place in a slot of a pool
-- Bears   the numbers of the terms stand in a tape's header
pub mod Ends
pub mod Placed
pub mod Bears
