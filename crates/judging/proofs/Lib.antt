-- InOrder  judging is making the sorted tests in order (`judge-sorted`), group by group (`judged-in-groups`, `judged-in-two`);
--          one judgement of the tests serves any effect (`refused-by`, `accepted-by`); tests that passed hold (`verdict-all`)
-- Flags    a test of a negated answer
-- Join     judging two groups of tests is taking the lower of their refusals; tests made phase by phase
-- KindLaws the two sorts of message: their sides and sizes
-- Header   the numbers of a tape's header as one test
-- Phases   the shared groups of tests, in the phases in which the code makes them
-- Steps    the tests of steps, in the phases in which the code makes them
-- Fits     what is known where the shared tests of a received message passed
-- Leaving  what a step leaves, refused and accepted
pub mod InOrder
pub mod Flags
pub mod Places
pub mod Join
pub mod KindLaws
pub mod Header
pub mod Phases
pub mod Steps
pub mod Fits
pub mod Leaving
