-- The tests of every step that takes a message, in the groups in which the code makes them. Assumes nothing.
--   received_numbers  the numbers of the message, the session and the slot
--   sent_tests        the words of the message
--   received_words    the words of the half and of the message
--   closed_tests      what is left of them where the session is closed
--   first_received, later_received   the numbers with the turn
use Rattle.std.specs.Prelude.{false, List, [], ◌∷◌, ◌++◌, ℕ, ◌/◌, eqb, ltb}
use Rattle.protocol.specs.declared.Terms.{Terms}
use Rattle.protocol.specs.declared.Head.{Head}
use Rattle.protocol.specs.declared.Refusal.TheVariants.{Size, Turn, Residue}
use Rattle.protocol.specs.Judge.{Test, needs}
use Rattle.protocol.specs.Bounds.{all_below}
use Rattle.protocol.specs.Tape.{Role, sort_of, tape_tests, body_tests}
use Rattle.judging.specs.Groups.{modulus_tests, kind_tests, number_tests, head_tests, place_tests, count_tests, same_tests}

-- of the message's residues and of the pool's words: how many there are
unfoldable pub received_numbers : Role → Terms → Head → (count pool size index : ℕ) → List Test
received_numbers role t a count pool size index =
    kind_tests a
    ++ (modulus_tests (sort_of role) t.q
    ++ ((head_tests a ++ count_tests a count) ++ (number_tests (sort_of role) t ++ place_tests role t pool size index)))

-- the message bears the session's numbers and holds residues
unfoldable pub sent_tests : Terms → Head → (residues : List ℕ) → List Test
sent_tests t a residues = same_tests a t ++ (needs Residue (all_below a.terms.q residues) ∷ [])

unfoldable pub received_words : Role → (status : ℕ) → Terms → Head → (slot residues : List ℕ) → List Test
received_words role status t a slot residues =
    tape_tests role status t slot ++ (same_tests a t ++ (needs Residue (all_below a.terms.q residues) ∷ body_tests role t slot))

-- of a closed session the numbers aren't judged, and no step is due
unfoldable pub closed_tests : Head → (count pool size index : ℕ) → List Test
closed_tests a count pool size index =
    kind_tests a
    ++ ((head_tests a ++ count_tests a count)
    ++ (needs Size (ltb index (pool / size)) ∷ needs Turn false ∷ []))

-- the numbers of a first step that takes a message of this kind, and that it is due
unfoldable pub first_received : Role → (kind : ℕ) → Terms → Head → (count pool size index : ℕ) → List Test
first_received role kind t a count pool size index = received_numbers role t a count pool size index ++ (needs Turn (eqb a.kind kind) ∷ [])

-- the same of a later step, which has to be due itself
unfoldable pub later_received : Role → (kind due : ℕ) → Terms → Head → (count pool size index : ℕ) → List Test
later_received role kind due t a count pool size index =
    received_numbers role t a count pool size index ++ (needs Turn (eqb due kind) ∷ needs Turn (eqb a.kind kind) ∷ [])
