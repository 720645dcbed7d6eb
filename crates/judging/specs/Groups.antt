-- The groups of tests that the steps share, over the numbers that the code has at that point. Assumes nothing.
use Rattle.std.specs.Prelude.{List, [], ◌∷◌, ◌++◌, Bool, false, ℕ, ◌/◌, eqb, ltb, leb}
use Rattle.algebra.specs.Count.{both}
use Rattle.protocol.specs.declared.Terms.{Terms}
use Rattle.protocol.specs.declared.Head.{Head}
use Rattle.protocol.specs.declared.Refusal.TheVariants.{Form, Modulus, Composite, Size, Turn, Stranger}
use Rattle.protocol.specs.Judge.{Test, needs}
use Rattle.protocol.specs.Bounds.{Sort, within, largest_modulus, field_fits, sides_fit}
use Rattle.protocol.specs.Tape.{Role, sort_of, tape_size}
use Rattle.protocol.specs.Message.{kind_known, kind_sort, last_fits, message_size}

-- the modulus of a session
unfoldable pub modulus_tests : Sort → (q : ℕ) → List Test
modulus_tests sort q = needs Modulus (within 2 largest_modulus q) ∷ needs Composite (field_fits sort q) ∷ []

-- the kind of a message, and its modulus
unfoldable pub kind_tests : Head → List Test
kind_tests a =
    needs Form (kind_known a.kind) ∷ needs Modulus (within 2 largest_modulus a.terms.q) ∷ needs Composite (field_fits (kind_sort a.kind) a.terms.q) ∷ []

-- the session's number, the sides and the tape's number
unfoldable pub number_tests : Sort → Terms → List Test
number_tests sort t =
    needs Size (leb 1 t.session.0) ∷ needs Size (sides_fit sort t.m t.k t.p) ∷ needs Size (leb 1 t.tape.0) ∷ []

-- the slot, in a pool of so many words, and the end's half in it
unfoldable pub place_tests : Role → Terms → (pool size index : ℕ) → List Test
place_tests role t pool size index =
    needs Size (ltb index (pool / size)) ∷ needs Size (leb (tape_size role t.m t.k t.p) size) ∷ []

-- a session's numbers, its modulus and its half's place
unfoldable pub open_numbers : Role → Terms → (pool size index : ℕ) → List Test
open_numbers role t pool size index = modulus_tests (sort_of role) t.q ++ (number_tests (sort_of role) t ++ place_tests role t pool size index)

-- of a closed session without a message: its slot, and that nothing is due
unfoldable pub none_due : (pool size index : ℕ) → List Test
none_due pool size index = needs Size (ltb index (pool / size)) ∷ needs Turn false ∷ []

-- the numbers of a session where it is known whether the sides fit
unfoldable pub id_tests : Terms → (fits : Bool) → List Test
id_tests t fits = needs Size (leb 1 t.session.0) ∷ needs Size fits ∷ needs Size (leb 1 t.tape.0) ∷ []

-- a message's sides and numbers; kinds 5 and 6 each have their own sides
unfoldable pub head_tests : Head → List Test
head_tests a = needs Size (last_fits a.kind a.terms.m a.terms.p) ∷ number_tests (kind_sort a.kind) a.terms

-- a message's count of residues
unfoldable pub count_tests : Head → (count : ℕ) → List Test
count_tests a count = needs Size (eqb count (message_size a.kind a.terms)) ∷ []

-- all that a message shows by its head and its count of residues
unfoldable pub message_numbers : Head → (count : ℕ) → List Test
message_numbers a count = kind_tests a ++ (head_tests a ++ count_tests a count)

-- a message bears the session's numbers
unfoldable pub same_tests : Head → Terms → List Test
same_tests a t =
    needs Stranger (eqb a.terms.session.0 t.session.0)
    ∷ needs Stranger (eqb a.terms.tape.0 t.tape.0)
    ∷ needs Stranger (eqb a.terms.q t.q)
    ∷ needs Stranger (eqb a.terms.m t.m)
    ∷ needs Stranger (eqb a.terms.k t.k)
    ∷ needs Stranger (eqb a.terms.p t.p)
    ∷ []

-- the same in one test
unfoldable pub same_terms : (sent own : Terms) → Bool
same_terms a t =
    both (eqb a.session.0 t.session.0)
    (both (eqb a.tape.0 t.tape.0) (both (eqb a.q t.q) (both (eqb a.m t.m) (both (eqb a.k t.k) (eqb a.p t.p)))))
