-- What the solver computes at its last steps, by its half and a message's residues. Assumes nothing.
--   sent_part                           a part of a message, by its residues
--   sum_of, side_of                      W + V, and c + s
--   last_answer, last_head, closed_terms  what the last step answers, by whether W + V has an inverse
use Rattle.std.specs.Prelude.{Bool, cond, List, ℕ, take}
use Rattle.algebra.specs.Matrix.{zeros, mat_add}
use Rattle.algebra.specs.Count.{part, parts}
use Rattle.algebra.specs.System.{sum_matrix}
use Rattle.protocol.specs.declared.Terms.{Terms}
use Rattle.protocol.specs.declared.Head.{Head}
use Rattle.protocol.specs.Answer.{Answer}
use Rattle.std.specs.Prelude.{Ok, Err}
use Rattle.protocol.specs.declared.Refusal.TheVariants.{Singular}
use Rattle.protocol.specs.declared.SolverSession.{SolverSession}
use Rattle.protocol.specs.Tape.{Slot, slot_words, solver, matrices}
use Rattle.protocol.specs.Message.{no_message, message_layout}
use Rattle.protocol.specs.System.{side_size}

unfoldable pub sent_part : (kind : ℕ) → Terms → (j : ℕ) (residues : List ℕ) → List ℕ
sent_part kind t j residues = part j (parts (message_layout kind t.m t.k t.p) residues)

unfoldable pub sum_of : Terms → Slot → (residues : List ℕ) → List ℕ
sum_of t s residues = sum_matrix t.q t.m (sent_part 4 t 0 residues) (part 3 (matrices solver t (slot_words s)))

unfoldable pub side_of : Terms → (residues kept : List ℕ) → List ℕ
side_of t residues kept = mat_add t.q (side_size t) (sent_part 4 t 1 residues) (take (side_size t) kept)

abbrev pub last_answer : Bool → Answer
last_answer found = cond found (Ok 0) (Err Singular)

abbrev pub last_head : Terms → Bool → Head
last_head t found = cond found (record { kind = 5; terms = t }) no_message.head

abbrev pub closed_terms : Terms → SolverSession
closed_terms t = record { terms = t; due = 0; s = zeros 16 }
