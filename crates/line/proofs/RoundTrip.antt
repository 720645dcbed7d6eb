-- What is written reads back as the same head and residues, and only lines that can be written are read: over the
-- definitions that the contracts of `read` and `write` cite.
--   written-reads-back, read-was-written
-- Assumes nothing.
use Prim.Native.Nat.{ℕ, ◌≤◌}
use mathlib.Core.Path.{◌≡◌, refl, sym, ap, subst, ◌∙◌}
use mathlib.Core.Bool.{true}
use mathlib.Core.List.{List, ◌∷◌}
use mathlib.Core.Option.{Option, some, none}
use native.Mathlib.Omega.{arith}
use lib.ListN.{length, drop, length-append}
use borrow.Author.Tests.{le-leb}
use Rattle.algebra.proofs.Count.{and_both}
use Rattle.protocol.specs.Judge.{done}
use Rattle.protocol.specs.Bounds.{within, room_tests}
use Rattle.protocol.specs.Message.{Message, message_tests}
use Rattle.protocol.specs.Line.{decimal, end_byte, line, numbers_of, message_numbers, message_line, message_from, parse_message, read_with, read_into, write_into, read_tests, write_tests}
use Rattle.protocol.proofs.Judge.{All, all_append, all_split, accepts, passed, refused≢done}
use Rattle.protocol.proofs.LineRoundTrip.{Words, line-reads-back, message-was-written}
use Rattle.protocol.proofs.MessageRoundTrip.{line-short}
use Rattle.line.proofs.Fits.{message-few}

line-some : (x : ℕ) (xs : List ℕ) → 1 ≤ length (line (x ∷ xs))
line-some x xs = omega (arith, length-append (decimal x) (end_byte (length xs) ∷ line xs))

-- a message that passed its tests fits a line
fits_line : (a : Message) → Words (message_numbers a) → All (message_tests a) → within 1 65536 (length (line (message_numbers a))) ≡ true
unfolding within
fits_line a w t =
    and_both (le-leb 1 (length (line (message_numbers a))) (line-some a.head.kind (drop 1 (message_numbers a))))
    (le-leb (length (line (message_numbers a))) 65536 (omega (arith, line-short (message_numbers a) w, message-few a t)))

-- RULES 6.3: what is written reads back
pub written-reads-back : (a : Message) (bytes words : ℕ) (l : List ℕ) → Words (message_numbers a) → length a.residues ≤ words
    → write_into bytes a ≡ done l → read_into words l ≡ done a
unfolding write_into read_into message_line room_tests
written-reads-back a bytes words l w room e =
    let o = passed (write_tests bytes a) e in
    let t = (all_split (message_tests a) (room_tests (length (message_line a)) bytes) o.0).0 in
    subst (λ (m : List ℕ). read_into words m ≡ done a) o.1
    (ap (read_with words) (line-reads-back (message_numbers a) w (fits_line a w t))
    ∙ accepts (read_tests words (message_numbers a)) a
    (le-leb 7 (length (message_numbers a)) (omega arith), all_append (message_tests a) _ t (le-leb _ words room, tt)))

-- only lines that can be written are read
pub read-was-written : (l : List ℕ) (words : ℕ) (a : Message) → read_into words l ≡ done a → write_into (length l) a ≡ done l
unfolding read_into write_into parse_message message_tests room_tests
read-was-written l words a p = go (numbers_of l) refl p
  where
    go : (r : Option (List ℕ)) → numbers_of l ≡ r → read_with words r ≡ done a → write_into (length l) a ≡ done l
    go none e q = absurd (refused≢done q)
    go (some xs) e q =
        let o = passed (read_tests words xs) q in
        let t = (all_split (message_tests (message_from xs)) (room_tests (length (drop 7 xs)) words) o.0.1).0 in
        let form : parse_message l ≡ done (message_from xs) = rw e (accepts _ (message_from xs) (o.0.0, (t.0, tt))) in
        let same : l ≡ message_line (message_from xs) = message-was-written l (message_from xs) form in
        let room : length (message_line (message_from xs)) ≤ length l = omega (arith, ap length same) in
        subst (λ (m : Message). write_into (length l) m ≡ done l) o.1
        (accepts (write_tests (length l) (message_from xs)) (message_line (message_from xs))
        (all_append (message_tests (message_from xs)) _ t (le-leb _ _ room, tt)) ∙ ap done (sym same))
