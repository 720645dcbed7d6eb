-- The numbers of a session's terms in a tape's header, as one test: proofs/Header has that it stands for those of `tape_tests`. Assumes nothing.
use Rattle.std.specs.Prelude.{Bool, List, ℕ, eqb, get_or}
use Rattle.algebra.specs.Count.{both}
use Rattle.protocol.specs.declared.Terms.{Terms}
use Rattle.protocol.specs.Tape.{Role, sort_of, sort_number, tape_at, sort_at, q_at, m_at, k_at, p_at}

unfoldable pub numbers_are : (tape sort q m k p : ℕ) (words : List ℕ) → Bool
numbers_are tape sort q m k p words =
    both (eqb (get_or words tape_at 0) tape)
    (both (eqb (get_or words sort_at 0) sort)
    (both (eqb (get_or words q_at 0) q)
    (both (eqb (get_or words m_at 0) m)
    (both (eqb (get_or words k_at 0) k) (eqb (get_or words p_at 0) p)))))

unfoldable pub bears : Role → Terms → (words : List ℕ) → Bool
bears role t words = numbers_are t.tape.0 (sort_number (sort_of role)) t.q t.m t.k t.p words
