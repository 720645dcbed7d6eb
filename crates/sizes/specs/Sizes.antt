-- The sizes that a host asks for (RULES 11.5). Each is 0 where the sides are out of bounds, and where the end, sort or kind is none.
--   version_of, version_number        the version as one number
--   by_end, by_sort                   a number that depends on an end or a sort, by its number
--   tape_words, scratch_words         the words of an end's half, and of its scratch
--   coin_count, deal_count            the residues that a first step and a dealing draw
--   longest_message, longest_line     the longest line of a kind: proofs/Longest has that no line of the kind is longer
-- Assumes nothing.
use Rattle.std.specs.Prelude.{Bool, cond, [], ℕ, ◌+◌, ◌*◌, ◌-◌, eqb, length}
use Rattle.algebra.specs.Count.{both, total}
use Rattle.algebra.specs.Matrix.{tabulate}
use Rattle.protocol.specs.declared.Terms.{Terms}
use Rattle.protocol.specs.Bounds.{Sort, product, system, within, largest_modulus, field_fits, sides_fit}
use Rattle.protocol.specs.Tape.{Role, left, right, blinder, solver, sort_number, sort_of, tape_size}
use Rattle.protocol.specs.Deal.{draw_size}
use Rattle.protocol.specs.Message.{Message, message_with, kind_known, kind_sort, last_fits, message_size}
use Rattle.protocol.specs.Line.{message_line}
use Rattle.protocol.specs.System.{scratch_size}
use Rattle.protocol.specs.View.{coin_layout}
use Rattle.entry.specs.Record.{LEFT, RIGHT, BLINDER, SOLVER, terms_of}
use Rattle.entry.specs.Entry.{request_of}

abbrev pub version_of : (major minor patch : ℕ) → ℕ
version_of major minor patch = 10000 * major + 100 * minor + patch

abbrev pub version_number : ℕ
version_number = version_of 0 3 0

-- ---- by the sides

unfoldable pub by_end : ℕ → (Role → ℕ) → ℕ
by_end end f =
    cond (eqb end LEFT) (f left) (cond (eqb end RIGHT) (f right) (cond (eqb end BLINDER) (f blinder) (cond (eqb end SOLVER) (f solver) 0)))

unfoldable pub by_sort : ℕ → (Sort → ℕ) → ℕ
by_sort n f = cond (eqb n (sort_number product)) (f product) (cond (eqb n (sort_number system)) (f system) 0)

-- a size of these sides
unfoldable pub in_bounds : Sort → (m k p size : ℕ) → ℕ
in_bounds sort m k p size = cond (sides_fit sort m k p) size 0

-- terms with these sides, where the other numbers are of no account
abbrev pub sided : (m k p : ℕ) → Terms
sided m k p = terms_of 0 0 0 m k p

unfoldable pub tape_words : (end m k p : ℕ) → ℕ
tape_words end m k p = by_end end (λ role. in_bounds (sort_of role) m k p (tape_size role m k p))

unfoldable pub scratch_words : (end m k p : ℕ) → ℕ
scratch_words end m k p = cond (eqb end BLINDER) (in_bounds system m k p (scratch_size (sided m k p))) 0

unfoldable pub coin_count : (end m k p : ℕ) → ℕ
coin_count end m k p = by_end end (λ role. in_bounds (sort_of role) m k p (total (coin_layout role (sided m k p))))

unfoldable pub deal_count : (sort m k p : ℕ) → ℕ
deal_count sort m k p = by_sort sort (λ s. in_bounds s m k p (draw_size (request_of s 0 0 m k p [])))

-- ---- lines

-- the largest session number and tape number
abbrev pub largest_id : ℕ
largest_id = 4294967295

abbrev pub longest_terms : (q m k p : ℕ) → Terms
longest_terms q m k p = terms_of largest_id largest_id q m k p

-- every residue is q − 1
unfoldable pub longest_message : (kind q m k p : ℕ) → Message
longest_message kind q m k p =
    let t = longest_terms q m k p in
    message_with (record { kind = kind; terms = t }) (tabulate (message_size kind t) (λ i. q - 1))

-- a kind, a modulus and sides of its sort; and sides of its own, where it is a last message's
unfoldable pub kind_fits : (kind q m k p : ℕ) → Bool
kind_fits kind q m k p =
    both (kind_known kind)
    (both (within 2 largest_modulus q) (both (field_fits (kind_sort kind) q) (both (sides_fit (kind_sort kind) m k p) (last_fits kind m p))))

unfoldable pub longest_line : (kind q m k p : ℕ) → ℕ
longest_line kind q m k p = cond (kind_fits kind q m k p) (length (message_line (longest_message kind q m k p))) 0
