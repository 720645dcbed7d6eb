-- Everything that a dealing leaves, as one term, and the words that it writes over a slot's start. Assumes nothing.
use Rattle.std.specs.Prelude.{List, ◌++◌, ℕ}
use Rattle.algebra.specs.Count.{join}
use Rattle.protocol.specs.Judge.{Judged, Reply}
use Rattle.protocol.specs.Step.{answer_reply}
use Rattle.protocol.specs.Tape.{header_words, READY}
use Rattle.protocol.specs.Deal.{Request, first_half, second_half, drawn_parts, dealt_b, dealt_v, Dealt, deal_answer, first_after, second_after}

pub record Pools : Type 0 where
  -- its number, and the words read
  pub answer : Reply ℕ
  pub first : List ℕ
  pub second : List ℕ

-- from the pools as they were
abbrev pub pools : (first second : List ℕ) → Judged Dealt → Pools
pools first second d = record { answer = answer_reply (deal_answer d); first = first_after first d; second = second_after second d }

-- a request's header, ready
abbrev requested : Request → List ℕ
requested r = header_words READY r.tape.0 r.sort r.q r.m r.k r.p

-- each half: the header, and then its matrices
unfoldable pub first_half_words : Request → List ℕ
first_half_words r = requested r ++ join (first_half r.sort (drawn_parts r))

unfoldable pub second_half_words : Request → List ℕ
second_half_words r = let d : List (List ℕ) = drawn_parts r in requested r ++ join (second_half r.sort d (dealt_b r d) (dealt_v r d))
