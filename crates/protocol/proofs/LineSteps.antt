-- A line that is parsed and handed to a step: `parse-and-step`, the claim PARSE-AND-STEP.
--   short-room            with too short a slice, parsing gives what reading gives
--   form-first            a line of another form is refused by 1, whatever else is tested
--   on-lines              one step whose tests contain the message's own: what was accepted was written, and the lowest number of both is given
--   parse-and-step        the nine steps that take a message
-- Assumes nothing.
use mathlib.Core.Path.{◌≡◌, refl, sym, ap, ◌∙◌}
use mathlib.Core.Bool.{Bool, true, false, cond, false≢true}
use mathlib.Core.List.{List, [], ◌∷◌, ◌++◌}
use mathlib.Core.Option.{Option, some, none}
use Prim.Native.Nat.{ℕ, ◌≤◌, ◌<◌}
use native.Mathlib.Omega.{arith}
use native.Mathlib.Decide.{dec_lt}
use lib.Dec.{leb, ltb, eqb}
use lib.ListN.{length, get_or, drop}
use borrow.Author.Tests.{le-leb, lt-leb, lt-ltb, le-ltb}
use Rattle.algebra.specs.Count.{both}
use Rattle.algebra.proofs.Tests.{and_left, and_right, and_both}
use Rattle.protocol.specs.declared.Terms.{Terms}
use Rattle.protocol.specs.declared.SolverSession.{SolverSession}
use Rattle.protocol.specs.declared.BlinderSession.{BlinderSession}
use Rattle.protocol.specs.declared.Refusal.{Refusal}
use Rattle.protocol.specs.declared.Refusal.TheVariants.{Form, Modulus, Composite, Size, Turn, Mark, Stranger, Residue, Dry, Singular}
use Rattle.protocol.specs.Judge.{refusals, is_same, place_in, place_of, Test, needs, given, clear, Judged, refused, done, judge_by, judge}
use Rattle.protocol.specs.Bounds.{product, system, within, shape_tests, terms_tests, input_tests, room_tests}
use Rattle.protocol.specs.Drawing.{draw_tests}
use Rattle.protocol.specs.Tape.{Slot, slot_tests, half_tests, tape_tests, body_tests, Role, sort_of, left, right, blinder}
use Rattle.protocol.specs.Message.{Message, kind_known, message_tests, due_tests}
use Rattle.protocol.specs.Step.{first_tests, open_tests, later_tests}
use Rattle.protocol.specs.Product.{left_tests, left_step, right_last_tests, right_last}
use Rattle.protocol.specs.System.{regular_tests, kept_tests, blinder_tests, solver_tests, blinder_first_tests, blinder_first, solver_second_tests, solver_second, blinder_second_tests, blinder_second, solver_last_tests, solver_last, blinder_last_tests, blinder_last}
use Rattle.protocol.specs.System.{last_tests, solver_determinant_tests, solver_determinant, blinder_determinant_tests, blinder_determinant}
use Rattle.protocol.specs.Line.{numbers_of, message_from, message_line, parse_message, parse_tests, parsed_from, parse_into, read_tests, read_with, read_into, write_tests, write_into}
use Rattle.protocol.specs.LineStep.{open_terms, and_then, joint_from, jointly, ModulusFits, OnLines, ShortRoom, PARSE-AND-STEP}
use Rattle.protocol.proofs.Judge.{All, all_append, accepts, passed, refused≢done, all-clear, clear-all, clear-append, same-judge, earlier, Lowest, lowest, refused-first}
use Rattle.protocol.proofs.LineRoundTrip.{message-was-written}

-- ---- tests

given-true : (ts : List Test) → given true ts ≡ ts
unfolding given
given-true [] = refl
given-true (needs r h ∷ ts) = ap (λ (us : List Test). needs r h ∷ us) (given-true ts)

given-false : (ts : List Test) → All (given false ts)
unfolding given
given-false [] = tt
given-false (needs r h ∷ ts) = (refl, given-false ts)

twice : (b c : Bool) → both b (both b c) ≡ both b c
unfolding both
twice true c = refl
twice false c = refl

-- a list that clears only what another does adds nothing to it
absorbed : (a b : Bool) → (b ≡ true → a ≡ true) → both a b ≡ b
unfolding both
absorbed true b h = refl
absorbed false true h = absurd (false≢true (h refl))
absorbed false false h = refl

form-first : {A : Type 0} (ts : List Test) (a : A) → clear Form ts ≡ false → judge ts a ≡ refused Form
unfolding judge judge_by
form-first ts a e = rw e

-- ---- one line's numbers

module _ (room : ℕ) (xs : List ℕ) where
  -- the message's kind, tested once more, changes nothing
  same-short : ltb room (length (drop 7 xs)) ≡ true → (r : Refusal) → clear r (parse_tests room xs) ≡ clear r (read_tests room xs)
  unfolding clear message_tests
  same-short e r =
      rw (e, given-true (message_tests (message_from xs)))
      (ap (both (cond (is_same r Form) (leb 7 (length xs)) true)) (twice (cond (is_same r Form) (kind_known (get_or xs 0 0)) true) _))

  read-clear : (r : Refusal) → clear r (read_tests room xs) ≡ true
      → (clear r (message_tests (message_from xs)) ≡ true) × (clear r (room_tests (length (drop 7 xs)) room) ≡ true)
  unfolding clear
  read-clear r e =
      let c : both (clear r (message_tests (message_from xs))) (clear r (room_tests (length (drop 7 xs)) room)) ≡ true = sym
      (clear-append r (message_tests (message_from xs)) (room_tests (length (drop 7 xs)) room)) ∙ and_right _ _ e in
      (and_left _ _ c, and_right _ _ c)

  read-holds : leb 7 (length xs) ≡ true → length (drop 7 xs) ≤ room
      → (r : Refusal) → clear r (message_tests (message_from xs)) ≡ true → clear r (read_tests room xs) ≡ true
  unfolding room_tests
  read-holds seven h r e =
      let m = message_tests (message_from xs) in
      let space = room_tests (length (drop 7 xs)) room in
      clear-append r (needs Form (leb 7 (length xs)) ∷ []) (m ++ space)
      ∙ and_both (all-clear (needs Form (leb 7 (length xs)) ∷ []) (seven, tt) r) (clear-append r m space ∙ and_both e (all-clear space (le-leb _ room h, tt) r))

  -- of a short line the room's test fails
  room-fails : room < length (drop 7 xs) → clear Size (read_tests room xs) ≡ true → ⊥
  unfolding clear room_tests
  room-fails h e = false≢true (sym (lt-leb (length (drop 7 xs)) room h) ∙ and_left _ _ (read-clear Size e).1)

-- with too short a slice, parsing gives what reading gives
pub short-room : ShortRoom
unfolding parse_into read_into judge
short-room room l xs e h =
    ap (parsed_from room) e
    ∙ same-judge refusals (parse_tests room xs) (read_tests room xs) (message_from xs) (same-short room xs (lt-ltb room (length (drop 7 xs)) h))
    ∙ sym (ap (read_with room) e)

-- ---- one step, whose tests contain the message's own

-- and before 4 no others than those and the session's own numbers
pub record Takes (a : Message) (terms tests : List Test) : Type 0 where
  pub own : (r : Refusal) → clear r tests ≡ true → clear r (message_tests a) ≡ true
  pub low : (r : Refusal) → place_of r < place_of Size → clear r (message_tests a) ≡ true → clear r terms ≡ true → clear r tests ≡ true

module _ {A : Type 0} (step : Message → Judged A) (tests : Message → List Test) (effect : Message → A) (terms : List Test)
    (judges : (a : Message) → step a ≡ judge (tests a) (effect a)) (takes : (a : Message) → Takes a terms (tests a)) where
  -- what was parsed and accepted was written
  was-written : (room bytes : ℕ) (l : List ℕ) (a : Message) (e : A) → parse_into room l ≡ done a → step a ≡ done e → length l ≤ bytes → write_into bytes a ≡ done l
  unfolding parse_into parse_message write_into room_tests
  was-written room bytes l a e p f h = go (numbers_of l) refl p
    where
      passes : All (message_tests a)
      passes = clear-all (message_tests a) (λ r. (takes a).own r (all-clear (tests a) (passed (tests a) (sym (judges a) ∙ f)).0 r))

      go : (o : Option (List ℕ)) → numbers_of l ≡ o → parsed_from room o ≡ done a → write_into bytes a ≡ done l
      go none d q = absurd (refused≢done q)
      go (some xs) d q =
          let o = passed (parse_tests room xs) q in
          let form : parse_message l ≡ done a = rw d (accepts _ (message_from xs) (o.0.0, (o.0.1.0, tt)) ∙ ap done o.1) in
          let same : l ≡ message_line a = message-was-written l a form in
          let enough : length (message_line a) ≤ bytes = omega (arith, ap length same) in
          accepts (write_tests bytes a) (message_line a) (all_append (message_tests a) _ passes (le-leb _ bytes enough, tt)) ∙ ap done (sym same)

  module _ (room : ℕ) (xs : List ℕ) where
    -- where the message's form and the room fit, reading adds nothing to the step
    adds-nothing : leb 7 (length xs) ≡ true → length (drop 7 xs) ≤ room
        → (r : Refusal) → clear r (read_tests room xs ++ tests (message_from xs)) ≡ clear r (tests (message_from xs))
    adds-nothing seven h r =
        clear-append r (read_tests room xs) (tests (message_from xs))
        ∙ absorbed (clear r (read_tests room xs)) (clear r (tests (message_from xs))) (λ e. read-holds room xs seven h r ((takes (message_from xs)).own r e))

    -- enough room
    held : length (drop 7 xs) ≤ room → and_then (parsed_from room (some xs)) step ≡ joint_from room tests effect (some xs)
    unfolding judge room_tests
    held h = go (leb 7 (length xs)) (kind_known (get_or xs 0 0)) refl refl
      where
        a : Message
        a = message_from xs

        formless : clear Form (parse_tests room xs) ≡ false → clear Form (read_tests room xs ++ tests a) ≡ false
            → and_then (parsed_from room (some xs)) step ≡ joint_from room tests effect (some xs)
        formless p j = ap (λ (o : Judged Message). and_then o step) (form-first (parse_tests room xs) a p) ∙ sym (form-first (read_tests room xs ++ tests a) (effect a) j)

        go : (b c : Bool) → leb 7 (length xs) ≡ b → kind_known (get_or xs 0 0) ≡ c → and_then (parsed_from room (some xs)) step ≡ joint_from room tests effect (some xs)
        go true true d e =
            let asked = given (ltb room (length (drop 7 xs))) (message_tests a) in
            let holds : All asked = rw (le-ltb room (length (drop 7 xs)) h) (given-false (message_tests a)) in
            let fits = all_append asked (room_tests (length (drop 7 xs)) room) holds (le-leb (length (drop 7 xs)) room h, tt) in
            let parses = accepts (parse_tests room xs) a (d, (e, fits)) in
            ap (λ (o : Judged Message). and_then o step) parses
            ∙ judges a
            ∙ sym (same-judge refusals (read_tests room xs ++ tests a) (tests a) (effect a) (adds-nothing d h))
        go false c d e = formless (unfold clear both in rw d) (unfold clear both in rw d)
        go true false d e = formless (unfold clear both in rw (d, e)) (unfold clear both message_tests in rw (d, e))

    -- too little room
    short : room < length (drop 7 xs) → ModulusFits terms → and_then (read_with room (some xs)) step ≡ joint_from room tests effect (some xs)
    short h t = go (judge (read_tests room xs) (message_from xs)) refl
      where
        -- no refusal that comes after 4 is given
        few : (r : Refusal) → Lowest r (read_tests room xs) → place_of r ≤ place_of Size
        few r k =
            elim (dec_lt (place_of Size) (place_of r)) [
              | yes b ↦ absurd (room-fails room xs h (k.lower Size b))
              | no b ↦ omega arith
            ]

        go : (o : Judged Message) → judge (read_tests room xs) (message_from xs) ≡ o → and_then o step ≡ joint_from room tests effect (some xs)
        go (done b) e = absurd (room-fails room xs h (all-clear (read_tests room xs) (passed (read_tests room xs) e).0 Size))
        go (refused r) e =
            let k = lowest (read_tests room xs) (message_from xs) r e in
            sym (refused-first (read_tests room xs) (tests (message_from xs)) (message_from xs) (effect (message_from xs)) r e
            (λ s b. (takes (message_from xs)).low s (omega (arith, few r k)) (read-clear room xs s (k.lower s b)).0 (t s (omega (arith, few r k)))))

  pub on-lines : OnLines step tests effect terms
  unfolding jointly parse_into read_into
  on-lines = record {
    written = was-written;
    together = λ room l h. by-line room l (λ xs e. held room xs (h xs e));
    own-fit = λ room l t. by-line room l (λ xs e. by-room room l xs e t (dec_lt room (length (drop 7 xs))));
  }
    where
      by-line : (room : ℕ) (l : List ℕ) → ((xs : List ℕ) → numbers_of l ≡ some xs → and_then (parsed_from room (some xs)) step ≡ joint_from room tests effect (some xs))
          → and_then (parse_into room l) step ≡ jointly room l tests effect
      by-line room l f = go (numbers_of l) refl
        where
          go : (o : Option (List ℕ)) → numbers_of l ≡ o → and_then (parse_into room l) step ≡ jointly room l tests effect
          go none e = rw e
          go (some xs) e = rw e (f xs e)

      by-room : (room : ℕ) (l xs : List ℕ) → numbers_of l ≡ some xs → ModulusFits terms → Dec (room < length (drop 7 xs))
          → and_then (parsed_from room (some xs)) step ≡ joint_from room tests effect (some xs)
      by-room room l xs e t (yes h) =
          ap (λ (o : Judged Message). and_then o step) (sym (ap (parsed_from room) e) ∙ short-room room l xs e h ∙ ap (read_with room) e) ∙ short room xs h t
      by-room room l xs e t (no h) = held room xs (omega arith)

-- ---- groups of tests

-- the refusals that come before 4
before-size : (P : Refusal → Type 0) → P Form → P Modulus → P Composite → (r : Refusal) → place_of r < place_of Size → P r
unfolding place_of place_in
before-size P a b c r h = earlier P Size (omega arith) (a, (b, (c, tt))) r h

-- tests of which none comes before 4
record Quiet (ts : List Test) : Type 0 where
  above : (r : Refusal) → place_of r < place_of Size → clear r ts ≡ true

quiet : {ts : List Test} → clear Form ts ≡ true → clear Modulus ts ≡ true → clear Composite ts ≡ true → Quiet ts
quiet {ts} f m c = record { above = before-size (λ r. clear r ts ≡ true) f m c }

due-quiet : (kind : ℕ) (t : Terms) (a : Message) → Quiet (due_tests kind t a)
unfolding due_tests clear both
due-quiet kind t a = quiet refl refl refl

input-quiet : (q n : ℕ) (l : List ℕ) → Quiet (input_tests q n l)
unfolding input_tests clear both
input-quiet q n l = quiet refl refl refl

room-quiet : (n room : ℕ) → Quiet (room_tests n room)
unfolding room_tests clear both
room-quiet n room = quiet refl refl refl

open-room-quiet : (b : Bool) (n room : ℕ) → Quiet (given b (room_tests n room))
unfolding given room_tests clear both
open-room-quiet b n room = quiet refl refl refl

draw-quiet : (q n : ℕ) (ws : List ℕ) → Quiet (draw_tests q n ws)
unfolding draw_tests clear both
draw-quiet q n ws = quiet refl refl refl

regular-quiet : (q n : ℕ) (m : List ℕ) → Quiet (regular_tests q n m)
unfolding regular_tests clear both
regular-quiet q n m = quiet refl refl refl

last-quiet : (kind : ℕ) (t : Terms) → Quiet (last_tests kind t)
unfolding last_tests clear both
last-quiet kind t = quiet refl refl refl

-- the message's tests, then others
begins : {a : Message} {terms : List Test} (us : List Test) → clear Form us ≡ clear Form terms → clear Modulus us ≡ clear Modulus terms → clear Composite us ≡ clear Composite terms
    → Takes a terms (message_tests a ++ us)
begins {a} {terms} us f m c = record {
  own = λ r e. and_left _ _ (sym (clear-append r (message_tests a) us) ∙ e);
  low = λ r h own e. clear-append r (message_tests a) us ∙ and_both own (before-size (λ r. clear r us ≡ clear r terms) f m c r h ∙ e);
}

infixl 40 ◌then◌
◌then◌ : {a : Message} {terms ts us : List Test} → Takes a terms ts → Quiet us → Takes a terms (ts ++ us)
◌then◌ {a} {terms} {ts} {us} k u = record {
  own = λ r e. k.own r (and_left _ _ (sym (clear-append r ts us) ∙ e));
  low = λ r h own e. clear-append r ts us ∙ and_both (k.low r h own e) (u.above r h);
}

first-begins : (role : Role) (t : Terms) (s : Slot) (a : Message) → Takes a (terms_tests (sort_of role) t) (message_tests a ++ first_tests role t s)
unfolding first_tests terms_tests shape_tests slot_tests half_tests tape_tests body_tests clear both
first-begins role t s a = begins (first_tests role t s) refl refl refl

module _ (kind due : ℕ) (t : Terms) (s : Slot) (a : Message) where
  right-begins : Takes a (open_terms product due t) (message_tests a ++ later_tests right kind due t s)
  unfolding later_tests open_tests given terms_tests shape_tests slot_tests half_tests tape_tests body_tests clear both
  right-begins = begins (later_tests right kind due t s) refl refl refl

solver-begins : (kind : ℕ) (x : SolverSession) (s : Slot) (a : Message) → Takes a (open_terms system x.due x.terms) (message_tests a ++ solver_tests kind x s)
unfolding solver_tests kept_tests later_tests open_tests given terms_tests shape_tests slot_tests half_tests tape_tests body_tests clear both
solver-begins kind x s a = begins (solver_tests kind x s) refl refl refl

blinder-begins : (kind : ℕ) (x : BlinderSession) (s : Slot) (scratch : List ℕ) (a : Message)
    → Takes a (open_terms system x.due x.terms) (message_tests a ++ blinder_tests kind x s scratch)
unfolding blinder_tests room_tests kept_tests later_tests open_tests given terms_tests shape_tests slot_tests half_tests tape_tests body_tests clear both
blinder-begins kind x s scratch a = begins (blinder_tests kind x s scratch) refl refl refl

-- ---- the nine steps

pub parse-and-step : PARSE-AND-STEP
unfolding left_step left_tests right_last right_last_tests blinder_first blinder_first_tests solver_second solver_second_tests blinder_second blinder_second_tests solver_last solver_last_tests blinder_last blinder_last_tests solver_determinant solver_determinant_tests blinder_determinant blinder_determinant_tests
parse-and-step = (
  short-room,
  λ t s x words room share_room. on-lines _ _ _ _ (λ a. refl)
      (λ a. first-begins left t s a then due-quiet _ _ _ then input-quiet _ _ _ then room-quiet _ _ then room-quiet _ _ then draw-quiet _ _ _),
  λ x s share_room. on-lines _ _ _ _ (λ a. refl) (λ a. right-begins 2 x.due x.terms s a then due-quiet _ _ _ then open-room-quiet _ _ _),
  λ t s scratch_room mm y words room. on-lines _ _ _ _ (λ a. refl)
      (λ a. first-begins blinder t s a then due-quiet _ _ _ then input-quiet _ _ _ then input-quiet _ _ _ then room-quiet _ _ then room-quiet _ _ then draw-quiet _ _ _ then regular-quiet _ _ _ then regular-quiet _ _ _),
  λ x s room. on-lines _ _ _ _ (λ a. refl) (λ a. solver-begins 2 x s a then due-quiet _ _ _ then open-room-quiet _ _ _),
  λ x s scratch room. on-lines _ _ _ _ (λ a. refl) (λ a. blinder-begins 3 x s scratch a then due-quiet _ _ _ then open-room-quiet _ _ _),
  λ x s room. on-lines _ _ _ _ (λ a. refl) (λ a. solver-begins 4 x s a then due-quiet _ _ _ then open-room-quiet _ _ _ then last-quiet _ _),
  λ x s scratch answer_room. on-lines _ _ _ _ (λ a. refl) (λ a. blinder-begins 5 x s scratch a then due-quiet _ _ _ then open-room-quiet _ _ _),
  λ x s room. on-lines _ _ _ _ (λ a. refl) (λ a. solver-begins 4 x s a then due-quiet _ _ _ then open-room-quiet _ _ _ then last-quiet _ _),
  λ x s scratch answer_room. on-lines _ _ _ _ (λ a. refl)
      (λ a. blinder-begins 6 x s scratch a then due-quiet _ _ _ then open-room-quiet _ _ _ then regular-quiet _ _ _ then regular-quiet _ _ _),
)
