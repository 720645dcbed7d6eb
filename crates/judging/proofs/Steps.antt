-- The tests of steps, judged by the groups in which the code makes them: the sorted tests are the groups' sorted tests, by computing.
--   in_two                                     two phases
--   first-phases, open-phases, none-due        without a message
--   received-phases, later-phases, later-closed   with one
-- Assumes nothing.
use mathlib.Core.Path.{◌≡◌, refl, sym, ap, ◌∙◌}
use mathlib.Core.Bool.{Bool, true, false}
use mathlib.Core.List.{List, [], ◌∷◌, ◌++◌}
use Prim.Native.Nat.{ℕ}
use lib.Dec.{eqb}
use lib.ListN.{length}
use Rattle.protocol.specs.declared.Terms.{Terms}
use Rattle.protocol.specs.declared.Head.{Head}
use Rattle.protocol.specs.Judge.{Test, given}
use Rattle.protocol.specs.Bounds.{shape_tests, terms_tests, input_tests}
use Rattle.protocol.specs.Tape.{Slot, is_slot, slot_words, Role, READY, IN-USE, slot_tests, half_tests, tape_tests, body_tests}
use Rattle.protocol.specs.Message.{message_with, message_tests, due_tests}
use Rattle.protocol.specs.Step.{first_tests, is_open, open_tests, later_tests}
use Rattle.judging.specs.InOrder.{in_order, verdict, only, sorted_by, sorted, judged, after}
use Rattle.judging.specs.Groups.{modulus_tests, kind_tests, number_tests, head_tests, place_tests, count_tests, same_tests, open_numbers, none_due}
use Rattle.judging.specs.Received.{received_numbers, received_words, closed_tests, first_received, later_received}
use Rattle.judging.proofs.InOrder.{judge-sorted, after_last}
use Rattle.judging.proofs.Join.{judged-phases}

-- tests made in two phases; `sorts` is `refl` where all is written out
pub in_two : (ts : List Test) (n w : List Test) → sorted ts ≡ sorted n ++ (sorted w ++ []) → judged ts ≡ after (judged n) (judged w)
in_two ts n w e = judged-phases ts (n ∷ w ∷ []) e ∙ ap (after (judged n)) (sym (after_last (judged w)))

module _ (role : Role) (t : Terms) (s : Slot) where
  pub first-phases : judged (first_tests role t s)
      ≡ after (judged (open_numbers role t (length s.pool) s.size s.index)) (judged (tape_tests role READY t (slot_words s) ++ body_tests role t (slot_words s)))
  unfolding sorted sorted_by only first_tests terms_tests shape_tests slot_tests half_tests tape_tests body_tests is_slot open_numbers modulus_tests number_tests place_tests
  first-phases = in_two _ (open_numbers role t (length s.pool) s.size s.index) (tape_tests role READY t (slot_words s) ++ body_tests role t (slot_words s)) refl

  module _ (due : ℕ) where
    -- tests that count only in an open session, and the test that it is open, fall away
    open-verdict : is_open due ≡ true → verdict (sorted (open_tests role due t s))
        ≡ verdict (sorted (open_numbers role t (length s.pool) s.size s.index ++ tape_tests role IN-USE t (slot_words s)))
    unfolding in_order sorted sorted_by only given open_tests terms_tests shape_tests slot_tests half_tests tape_tests is_slot open_numbers modulus_tests number_tests place_tests
    open-verdict e = rw e

    open-two : judged (open_numbers role t (length s.pool) s.size s.index ++ tape_tests role IN-USE t (slot_words s))
        ≡ after (judged (open_numbers role t (length s.pool) s.size s.index)) (judged (tape_tests role IN-USE t (slot_words s)))
    unfolding sorted sorted_by only tape_tests open_numbers modulus_tests number_tests place_tests
    open-two = in_two _ (open_numbers role t (length s.pool) s.size s.index) (tape_tests role IN-USE t (slot_words s)) refl

    pub open-phases : is_open due ≡ true → judged (open_tests role due t s)
        ≡ after (judged (open_numbers role t (length s.pool) s.size s.index)) (judged (tape_tests role IN-USE t (slot_words s)))
    open-phases e = judge-sorted _ tt ∙ (open-verdict e ∙ (sym (judge-sorted _ tt) ∙ open-two))

    none-verdict : due ≡ 0 → verdict (sorted (open_tests role due t s)) ≡ verdict (sorted (none_due (length s.pool) s.size s.index))
    unfolding in_order sorted sorted_by only given is_open open_tests terms_tests shape_tests slot_tests half_tests tape_tests is_slot none_due
    none-verdict e = rw e

    pub none-due : due ≡ 0 → judged (open_tests role due t s) ≡ judged (none_due (length s.pool) s.size s.index)
    none-due e = judge-sorted _ tt ∙ (none-verdict e ∙ sym (judge-sorted _ tt))

  -- ---- with a message

  module _ (kind : ℕ) (a : Head) (residues : List ℕ) where
    pub received-phases : judged (message_tests (message_with a residues) ++ (first_tests role t s ++ due_tests kind t (message_with a residues)))
        ≡ after (judged (first_received role kind t a (length residues) (length s.pool) s.size s.index))
        (judged (received_words role READY t a (slot_words s) residues))
    unfolding sorted sorted_by only message_tests first_tests due_tests terms_tests shape_tests slot_tests half_tests tape_tests body_tests input_tests is_slot first_received received_numbers received_words kind_tests modulus_tests number_tests head_tests count_tests place_tests same_tests
    received-phases = in_two _ (first_received role kind t a (length residues) (length s.pool) s.size s.index) (received_words role READY t a (slot_words s) residues) refl

    module _ (due : ℕ) where
      later-verdict : is_open due ≡ true → verdict (sorted (message_tests (message_with a residues) ++ (later_tests role kind due t s ++ due_tests kind t (message_with a residues))))
          ≡ verdict (sorted (later_received role kind due t a (length residues) (length s.pool) s.size s.index ++ received_words role IN-USE t a (slot_words s) residues))
      unfolding in_order sorted sorted_by only given later_tests open_tests message_tests due_tests terms_tests shape_tests slot_tests half_tests tape_tests body_tests input_tests is_slot later_received first_received received_numbers received_words kind_tests modulus_tests number_tests head_tests count_tests place_tests same_tests
      later-verdict e = rw e

      later-two : judged (later_received role kind due t a (length residues) (length s.pool) s.size s.index ++ received_words role IN-USE t a (slot_words s) residues)
          ≡ after (judged (later_received role kind due t a (length residues) (length s.pool) s.size s.index))
          (judged (received_words role IN-USE t a (slot_words s) residues))
      unfolding sorted sorted_by only tape_tests body_tests later_received first_received received_numbers received_words kind_tests modulus_tests number_tests head_tests count_tests place_tests same_tests
      later-two = in_two _ (later_received role kind due t a (length residues) (length s.pool) s.size s.index) (received_words role IN-USE t a (slot_words s) residues) refl

      pub later-phases : is_open due ≡ true → judged (message_tests (message_with a residues) ++ (later_tests role kind due t s ++ due_tests kind t (message_with a residues)))
          ≡ after (judged (later_received role kind due t a (length residues) (length s.pool) s.size s.index))
          (judged (received_words role IN-USE t a (slot_words s) residues))
      later-phases e = judge-sorted _ tt ∙ (later-verdict e ∙ (sym (judge-sorted _ tt) ∙ later-two))

      closed-verdict : due ≡ 0 → verdict (sorted (message_tests (message_with a residues) ++ (later_tests role kind due t s ++ due_tests kind t (message_with a residues))))
          ≡ verdict (sorted (closed_tests a (length residues) (length s.pool) s.size s.index))
      unfolding in_order sorted sorted_by only given is_open later_tests open_tests message_tests due_tests terms_tests shape_tests slot_tests half_tests tape_tests body_tests input_tests is_slot closed_tests kind_tests number_tests head_tests count_tests
      closed-verdict e = go (eqb 0 kind) refl
        where
          go : (b : Bool) → eqb 0 kind ≡ b → verdict (sorted (message_tests (message_with a residues) ++ (later_tests role kind due t s ++ due_tests kind t (message_with a residues))))
              ≡ verdict (sorted (closed_tests a (length residues) (length s.pool) s.size s.index))
          go true f = rw (e, f)
          go false f = rw (e, f)

      pub later-closed : due ≡ 0 → judged (message_tests (message_with a residues) ++ (later_tests role kind due t s ++ due_tests kind t (message_with a residues)))
          ≡ judged (closed_tests a (length residues) (length s.pool) s.size s.index)
      later-closed e = judge-sorted _ tt ∙ (closed-verdict e ∙ sym (judge-sorted _ tt))
