-- How many tapes and coins of the other end stand behind a view, and the promise on these numbers. Assumes nothing.
-- messages_of            what an end sends, by its own steps, one after the other
-- dealing, dealt_together the dealer's rules for two halves
-- is_completion          a tape and coins of the other end that give a view (RULES 10.3.3)
-- completions           how many there are
-- Counted               the inputs that are counted over
-- solution_for, answer_for the solution, and the blinder's answer, for the viewer's input and another one of the other end
-- answer_seen            the answer that a blinder got
-- Secret                demand 3's counts for one view
use Rattle.std.specs.Prelude.{◌≡◌, ◌≢◌, ◌↔◌, Bool, true, false, cond, List, [], ◌∷◌, ◌++◌, ℕ, ◌+◌, ◌*◌, eqb, length, get_or, take, drop}
use Rattle.algebra.specs.Matrix.{zeros, mat_add, mat_mul}
use Rattle.algebra.specs.Count.{both, eq_list, parts, part, join, count_parts}
use Rattle.algebra.specs.Inverse.{has_inverse}
use Rattle.algebra.specs.Elimination.{regular, solution}
use Rattle.algebra.specs.Words.{over}
use Rattle.determinant.specs.Determinant.{det}
use Rattle.determinant.specs.Rank.{rank}
use Rattle.determinant.specs.Session.{answer}
use Rattle.protocol.specs.declared.Terms.{Terms}
use Rattle.protocol.specs.Judge.{Test, Judged, refused, done, judge}
use Rattle.protocol.specs.Drawing.{words_for}
use Rattle.protocol.specs.Bounds.{Sort, product, system, input_tests}
use Rattle.protocol.specs.Tape.{Slot, slot_at, slot_words, pool_with, Role, left, right, blinder, solver, sort_of, layout, tape_size, matrices}
use Rattle.protocol.specs.Deal.{first_role, second_role, Dealt, deal, first_after, second_after}
use Rattle.protocol.specs.Message.{Message, is_determinant, last_kind, message_size}
use Rattle.protocol.specs.Step.{Outcome, scratch_after}
use Rattle.protocol.specs.Product.{right_first, left_step}
use Rattle.protocol.specs.System.{side_size, scratch_size, regular_tests, solver_first, blinder_first, solver_second, blinder_second, solver_ending}
use Rattle.protocol.specs.View.{View, facing, coin_layout, Finished, Unfinished}

-- ---- the messages that an end sends

-- the session's message of a kind with these residues
abbrev pub incoming : ℕ → Terms → (residues : List ℕ) → Message
incoming kind t a = record { head = record { kind = kind; terms = t }; residues = a }

-- a message's residues, if it is one
unfoldable pub said : Message → List (List ℕ)
said a = cond (eqb a.head.kind 0) [] (a.residues ∷ [])

-- what a step on a slot sends, and then what is sent from there on; a refused step ends it
unfoldable pub and_then : {S : Type 0} → Slot → Outcome S → (S → Slot → List (List ℕ)) → List (List ℕ)
and_then s (refused r) next = []
and_then s (done e) next = said e.sent ++ next e.session (slot_at (pool_with s e.slot) s.size s.index)

-- the next message that the end gets, and those after it; where there is none, the end waits
unfoldable pub hearing : (got : List (List ℕ)) → (List ℕ → List (List ℕ) → List (List ℕ)) → List (List ℕ)
hearing [] next = []
hearing (a ∷ got) next = next a got

-- each end's steps on its slot, with its input and the messages that it gets; what is written has just the room it needs. The last steps of right and
-- blinder send nothing, and are left out
module _ (t : Terms) (s : Slot) (input got : List (List ℕ)) where
  unfoldable pub right_messages : List (List ℕ)
  right_messages = and_then s (right_first t s (part 0 input) (message_size 1 t)) (λ x s. [])

  unfoldable pub left_messages : (words : List ℕ) → List (List ℕ)
  left_messages words =
      hearing got (λ a got.
      and_then s (left_step t s (part 0 input) words (incoming 1 t a) (message_size 2 t) (t.m * t.p)) (λ x s. []))

  unfoldable pub solver_messages : List (List ℕ)
  solver_messages =
      and_then s (solver_first t s (part 0 input) (part 1 input) (message_size 1 t)) (λ x s. hearing got (λ a got.
      and_then s (solver_second x s (incoming 2 t a) (message_size 3 t)) (λ x s. hearing got (λ a got.
      and_then s (solver_ending x s (incoming 4 t a) (message_size (last_kind t.m t.p) t)) (λ x s. [])))))

  unfoldable pub blinder_messages : (words : List ℕ) → List (List ℕ)
  blinder_messages words =
      hearing got (λ a got.
      let lent = zeros (scratch_size t) in
      let first = blinder_first t s (length lent) (part 0 input) (part 1 input) words (incoming 1 t a) (message_size 2 t) in
      and_then s first (λ x s. hearing got (λ a got.
      and_then s (blinder_second x s (over (scratch_after first) lent) (incoming 3 t a) (message_size 4 t)) (λ x s. []))))

-- what an end sends that has its half in this slot, draws these coins, has this input and gets these messages
abbrev pub messages_of : Role → Terms → Slot → (coins : List ℕ) (input got : List (List ℕ)) → List (List ℕ)
messages_of left t s coins input got = left_messages t s input got (words_for t.q coins)
messages_of right t s coins input got = right_messages t s input got
messages_of blinder t s coins input got = blinder_messages t s input got (words_for t.q coins)
messages_of solver t s coins input got = solver_messages t s input got

-- ---- the dealer's rules

-- whether two lists of lists are the same
unfoldable pub eq_lists : List (List ℕ) → List (List ℕ) → Bool
eq_lists [] [] = true
eq_lists [] (r ∷ rs) = false
eq_lists (l ∷ ls) [] = false
eq_lists (l ∷ ls) (r ∷ rs) = both (eq_list l r) (eq_lists ls rs)

-- what is drawn in a dealing, as it stands in its two halves
abbrev pub drawn_in : Sort → (first second : List (List ℕ)) → List (List ℕ)
drawn_in product a b = part 0 a ∷ part 0 b ∷ part 1 a ∷ []
drawn_in system a b = part 0 a ∷ part 0 b ∷ part 1 a ∷ part 2 a ∷ part 2 b ∷ part 3 a ∷ []

-- the same, of an end's own half and the other's
abbrev pub drawn_between : Role → (own other : List (List ℕ)) → List (List ℕ)
drawn_between left own other = drawn_in product own other
drawn_between right own other = drawn_in product other own
drawn_between blinder own other = drawn_in system own other
drawn_between solver own other = drawn_in system other own

-- room for either half of a tape
abbrev pub slot_size : Sort → Terms → ℕ
slot_size sort t = tape_size (first_role sort) t.m t.k t.p + tape_size (second_role sort) t.m t.k t.p

-- the dealing that draws these matrices, over two empty slots, each alone in its pool
unfoldable pub dealing : Sort → Terms → (drawn : List (List ℕ)) → Judged Dealt
dealing sort t d =
    let size = slot_size sort t in
    deal (zeros size) (zeros size) size 0
    (record { sort = sort; tape = t.tape; q = t.q; m = t.m; k = t.k; p = t.p; words = words_for t.q (join d) })

abbrev pub is_done : Judged Dealt → Bool
is_done (refused r) = false
is_done (done d) = true

-- the slot in which a dealing left an end's half
abbrev pub dealt_slot : Role → Terms → Judged Dealt → Slot
dealt_slot left t o = slot_at (first_after [] o) (slot_size product t) 0
dealt_slot right t o = slot_at (second_after [] o) (slot_size product t) 0
dealt_slot blinder t o = slot_at (first_after [] o) (slot_size system t) 0
dealt_slot solver t o = slot_at (second_after [] o) (slot_size system t) 0

-- the matrices of an end's half, as they stand in a slot, are these
unfoldable pub holds : Role → Terms → Slot → (half : List (List ℕ)) → Bool
holds role t s half = eq_lists half (matrices role t (slot_words s))

-- a dealing is accepted, and leaves these two halves
unfoldable pub dealt_together : Role → Terms → Judged Dealt → (own other : List (List ℕ)) → Bool
dealt_together role t o own other = both (is_done o) (both (holds role t (dealt_slot role t o) own) (holds (facing role) t (dealt_slot (facing role) t o) other))

-- P has an inverse
abbrev pub coins_fit : Role → Terms → (coins : List (List ℕ)) → Bool
coins_fit left t c = true
coins_fit right t c = true
coins_fit blinder t c = regular t.q t.m (part 0 c)
coins_fit solver t c = true

-- ---- completions

-- RULES 10.3.3. f: the matrices of the other end's half, then its coins and P. The dealer, drawing what stands in the two halves, leaves them both;
-- it asks that Q has an inverse. With the coins, the input i and the messages that the viewer sent, the other end's steps on its slot send those received so far
unfoldable pub is_completion : View → (i f : List (List ℕ)) → Bool
is_completion v i f =
    let other = facing v.role in
    let t = v.terms in
    let n = length (layout other t.m t.k t.p) in
    let o = dealing (sort_of v.role) t (drawn_between v.role v.half (take n f)) in
    both (dealt_together v.role t o v.half (take n f))
    (both (coins_fit other t (drop n f))
    (eq_lists v.received (take (length v.received) (messages_of other t (dealt_slot other t o) (join (drop n f)) i v.sent))))

unfoldable pub completions : View → (input : List (List ℕ)) → ℕ
completions v i =
    let other = facing v.role in
    let t = v.terms in
    count_parts t.q (layout other t.m t.k t.p ++ coin_layout other t) (λ f. is_completion v i f)

-- ---- the inputs that are counted over

-- what a system's first steps ask of their inputs: L and x, or M and y
abbrev pub pair_tests : Terms → (input : List (List ℕ)) → List Test
pair_tests t i = input_tests t.q (t.m * t.m) (part 0 i) ++ input_tests t.q (side_size t) (part 1 i) ++ regular_tests t.q t.m (part 0 i)

-- what each end's first step asks of its input
abbrev pub taken_tests : Role → Terms → (input : List (List ℕ)) → List Test
taken_tests left t i = input_tests t.q (t.m * t.k) (part 0 i)
taken_tests right t i = input_tests t.q (t.k * t.p) (part 0 i)
taken_tests blinder t i = pair_tests t i
taken_tests solver t i = pair_tests t i

abbrev pub Taken : Role → Terms → (input : List (List ℕ)) → Type 0
Taken role t i = ◌≡◌ {A = Judged Unit} (judge (taken_tests role t i) tt) (done tt)

-- the solver's input L, x and the blinder's M, y: one is the viewer's own
abbrev pub solver_input : Role → (own other : List (List ℕ)) → List (List ℕ)
solver_input left own other = other
solver_input right own other = other
solver_input blinder own other = other
solver_input solver own other = own

abbrev pub blinder_input : Role → (own other : List (List ℕ)) → List (List ℕ)
blinder_input left own other = own
blinder_input right own other = own
blinder_input blinder own other = own
blinder_input solver own other = other

-- part j of both, of n residues, added: L + M, and x + y
abbrev pub joint_part : (j n : ℕ) → View → (input : List (List ℕ)) → List ℕ
joint_part j n v i = mat_add v.terms.q n (part j (solver_input v.role v.input i)) (part j (blinder_input v.role v.input i))

abbrev pub joint_matrix : View → (input : List (List ℕ)) → List ℕ
joint_matrix v i = joint_part 0 (v.terms.m * v.terms.m) v i

abbrev pub joint_vector : View → (input : List (List ℕ)) → List ℕ
joint_vector v i = joint_part 1 (v.terms.m * 1) v i

-- a determinant is asked of any sum
abbrev pub sum_fits : Sort → View → (input : List (List ℕ)) → Bool
sum_fits product v i = true
sum_fits system v i = cond (is_determinant v.terms) true (has_inverse v.terms.q v.terms.m (joint_matrix v i))

-- the inputs counted over: the other end's first step takes them and, in a system with right-hand sides, the sum with the viewer's matrix has an inverse
pub record Counted (v : View) (i : List (List ℕ)) : Type 0 where
  pub taken : Taken (facing v.role) v.terms i
  pub sum : sum_fits (sort_of v.role) v i ≡ true

-- the z with (L + M) z = x + y
abbrev pub solution_for : View → (input : List (List ℕ)) → List ℕ
solution_for v i = solution v.terms.q v.terms.m (joint_matrix v i) (joint_vector v i)

-- what the blinder is to learn: that z, or the determinant of L + M
abbrev pub answer_for : View → (input : List (List ℕ)) → List ℕ
answer_for v i = cond (is_determinant v.terms) (det v.terms.q v.terms.m (joint_matrix v i) ∷ []) (solution_for v i)

-- P of a blinder's own coins
abbrev pub own_blinding : View → List ℕ
own_blinding v = part 0 (parts (coin_layout blinder v.terms) v.coins)

-- what a blinder's last step answers by its view: z = Q × t, or the determinant received, divided by those of P and Q
abbrev pub answer_seen : View → List ℕ
answer_seen v =
    cond (is_determinant v.terms) (answer v.terms.q v.terms.m (own_blinding v) (part 2 v.half) (get_or (part 2 v.received) 0 0) ∷ [])
    (mat_mul v.terms.q v.terms.m v.terms.m 1 (part 2 v.half) (part 2 v.received))

-- ---- demand 3's counts, for one view

pub record Secret (v : View) : Type 0 where
  -- RULES 10.3.4: one number for all inputs of the other end while the session is unfinished
  pub unfinished : Unfinished v → (i j : List (List ℕ)) → Counted v i → Counted v j → completions v i ≡ completions v j
  -- in a finished product every input has exactly one completion
  pub finished-product : sort_of v.role ≡ product → Finished v → (i : List (List ℕ)) → Counted v i → completions v i ≡ 1
  -- in a finished system the blinder's view has exactly one for a solver's input with the answer seen, a solution or a determinant, and none for another
  pub finished-blinder : v.role ≡ blinder → Finished v → (i : List (List ℕ)) → Counted v i → answer_for v i ≡ answer_seen v → completions v i ≡ 1
  pub other-answer : v.role ≡ blinder → Finished v → (i : List (List ℕ)) → Counted v i → answer_for v i ≢ answer_seen v → completions v i ≡ 0
  -- a solver's view has as many for any two blinder's inputs: whose sums with its own have the same rank, where the determinant is asked for, ..
  pub same_rank : v.role ≡ solver → is_determinant v.terms ≡ true → Finished v → (i j : List (List ℕ)) → Counted v i → Counted v j
      → rank v.terms.q v.terms.m (joint_matrix v i) ≡ rank v.terms.q v.terms.m (joint_matrix v j) → completions v i ≡ completions v j
  -- .. and whose solutions are both zero or both not, where a solution is
  pub finished-solver : v.role ≡ solver → is_determinant v.terms ≡ false → Finished v → (i j : List (List ℕ)) → Counted v i → Counted v j
      → (solution_for v i ≡ zeros (v.terms.m * 1)) ↔ (solution_for v j ≡ zeros (v.terms.m * 1)) → completions v i ≡ completions v j
