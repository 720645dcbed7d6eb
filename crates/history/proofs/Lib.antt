-- The proofs of demands 3 and 2, in reading order. Lists that meet their premises are in the crate history_examples.
-- Words             words written over a list and into a slot; a tape's words
-- Replay            what an end sends depends on its half alone
-- Accepted          what is known of an accepted step or drop: all that the bookkeeping knows of steps
-- Known, KnownOn    what is known of a session's view, after its first step and after the later ones
-- Needs             what an end that keeps to the rules has of a later step's needs
-- Steps             the laws of every step and drop, a clause for each
-- Facts             of any log
-- Dealt             what an accepted dealing needs and leaves
-- Named             the names of the sessions that were begun: of every list, without a premise
-- Kept              the invariant, kept by every accepted call
-- Along             the induction over calls under the premises: what dealings and moves keep holds after every list
-- Once              each step of a session was accepted once at most
-- Served            each half served one session at most
-- Lent              the scratches
-- Views             every session of the list: what is known of its view
-- Stands            so every view that stands for a session is secret
-- Demand            demand 3
-- Results, Shared   what a session's last step gave; two sessions that are the ends of one tape
-- Sent, Progress    what steps sent; an end that keeps to the rules is answered
-- Dealable          a dealing that keeps to the rules is accepted
-- Stood             an end's own half and coins complete the other's view
-- Rightness         demand 2
-- Windows           demand 2 for windows of days
pub mod Words
pub mod Replay
pub mod Accepted
pub mod Known
pub mod KnownOn
pub mod Needs
pub mod Steps
pub mod Facts
pub mod Dealt
pub mod Named
pub mod Kept
pub mod Along
pub mod Once
pub mod Served
pub mod Lent
pub mod Views
pub mod Stands
pub mod Demand
pub mod Results
pub mod Shared
pub mod Sent
pub mod Progress
pub mod Dealable
pub mod Stood
pub mod Rightness
pub mod Windows
