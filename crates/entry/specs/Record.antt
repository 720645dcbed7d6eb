-- One session record for all four ends (RULES 11.1).
--   LEFT .. SOLVER                    the ends' numbers
--   no_session                         a record of zeros
--   right_of, solver_of, blinder_of      the session that a record holds, of each end that keeps one
--   of_left, of_right, of_solver, of_blinder   the record of a session
--   record_words, session_from          a record as 280 words, both ways
-- Assumes nothing.
use Rattle.std.specs.Prelude.{Bool, cond, List, [], ◌∷◌, ◌++◌, ℕ, eqb, get_or, take, drop}
use Rattle.algebra.specs.Matrix.{zeros}
use Rattle.protocol.specs.declared.Terms.{Terms}
use Rattle.protocol.specs.declared.RightSession.{RightSession}
use Rattle.protocol.specs.declared.SolverSession.{SolverSession}
use Rattle.protocol.specs.declared.BlinderSession.{BlinderSession}
use Rattle.protocol.specs.Message.{no_terms}
use Rattle.protocol.specs.Product.{no_right}
use Rattle.protocol.specs.System.{padded}
use Rattle.entry.specs.declared.Session.{Session}

abbrev pub LEFT : ℕ
LEFT = 1

abbrev pub RIGHT : ℕ
RIGHT = 2

abbrev pub BLINDER : ℕ
BLINDER = 3

abbrev pub SOLVER : ℕ
SOLVER = 4

-- how many words a session keeps
abbrev pub kept_size : ℕ
kept_size = 272

abbrev pub record_size : ℕ
record_size = 280

abbrev pub no_session : Session
no_session = record { end = 0; terms = no_terms; due = 0; kept = zeros kept_size }

-- ---- the session in a record. Of another end than these three it holds none, which the right end's tests then find closed

unfoldable pub right_of : Session → RightSession
right_of x = cond (eqb x.end RIGHT) (record { terms = x.terms; due = x.due }) no_right

unfoldable pub solver_of : Session → SolverSession
solver_of x = record { terms = x.terms; due = x.due; s = take 16 x.kept }

unfoldable pub blinder_of : Session → BlinderSession
blinder_of x = record { terms = x.terms; due = x.due; mm = take 256 x.kept; y = drop 256 x.kept }

-- ---- the record of a session

-- left keeps no session: its one step leaves a closed record
unfoldable pub of_left : Terms → Session
of_left t = record { end = LEFT; terms = t; due = 0; kept = zeros kept_size }

unfoldable pub of_right : RightSession → Session
of_right x = record { end = RIGHT; terms = x.terms; due = x.due; kept = zeros kept_size }

unfoldable pub of_solver : SolverSession → Session
of_solver x = record { end = SOLVER; terms = x.terms; due = x.due; kept = padded kept_size x.s }

unfoldable pub of_blinder : BlinderSession → Session
of_blinder x = record { end = BLINDER; terms = x.terms; due = x.due; kept = x.mm ++ x.y }

-- ---- as words

abbrev pub terms_of : (session tape q m k p : ℕ) → Terms
terms_of session tape q m k p = record { session = record { 0 = session }; tape = record { 0 = tape }; q = q; m = m; k = k; p = p }

-- end, session, tape, q, m, k, p, due, and what is kept
unfoldable pub record_words : Session → List ℕ
record_words x =
    let t = x.terms in
    x.end ∷ t.session.0 ∷ t.tape.0 ∷ t.q ∷ t.m ∷ t.k ∷ t.p ∷ x.due ∷ x.kept

unfoldable pub session_from : List ℕ → Session
session_from ws = record {
  end = get_or ws 0 0;
  terms = terms_of (get_or ws 1 0) (get_or ws 2 0) (get_or ws 3 0) (get_or ws 4 0) (get_or ws 5 0) (get_or ws 6 0);
  due = get_or ws 7 0;
  kept = drop 8 ws;
}
