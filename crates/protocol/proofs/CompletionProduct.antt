-- The completions of the two views of a product: each end's steps, on whatever accepted message, send what algebra's formulas say, and so a finished view
-- has exactly one completion for each input of the other end. Assumes nothing.
-- right-sends, left-sends   what the ends' steps send
-- left_one                  left's view: exactly one completion for each input of right
-- right-one                 right's view after message 2: exactly one for each input of left
-- right-waiting             and before it, a number
use mathlib.Core.Path.{◌≡◌, refl, sym, ap, ◌∙◌}
use mathlib.Core.Bool.{Bool, true}
use mathlib.Core.List.{List, [], ◌∷◌, append-nil}
use Prim.Native.Nat.{ℕ, ◌+◌, ◌*◌, ◌^◌, ◌<◌}
use native.Mathlib.Nat.{le_refl}
use native.Mathlib.Omega.{arith}
use Rattle.algebra.specs.Matrix.{Residues, mat_sub, mat_mul}
use Rattle.algebra.specs.Count.{both, eq_list, parts, part, join}
use Rattle.algebra.specs.Product.{deal_b, send_y, send_x, send_r}
use Rattle.algebra.proofs.Views.{gives_right, gives_left, right_completions, left_completions}
use Rattle.algebra.proofs.Lists.{add-residues, sub-residues}
use Rattle.algebra.proofs.Matrix.{sub-sub}
use Rattle.algebra.proofs.Tests.{eq_list-eq, eq_list-of}
use Rattle.algebra.proofs.Parts.{Fits, none, ◌then◌, parts-transfer, parts_all}
use Rattle.algebra.proofs.Product.{left-secrecy, right-secrecy}
use Rattle.protocol.specs.declared.Terms.{Terms}
use Rattle.protocol.specs.Judge.{done}
use Rattle.protocol.specs.Drawing.{words_for}
use Rattle.protocol.specs.Bounds.{product}
use Rattle.protocol.specs.Tape.{Slot, left, right, READY, layout}
use Rattle.protocol.specs.Message.{message_of, message_layout, message_size}
use Rattle.protocol.specs.Product.{right_first_effect, right_first, left_effect, left_step}
use Rattle.protocol.specs.Completion.{hearing, right_messages, left_messages, eq_lists, is_completion, completions, Taken, taken_tests}
use Rattle.protocol.proofs.Judge.{passed}
use Rattle.protocol.proofs.Residues.{input-residues}
use Rattle.protocol.proofs.Halves.{Holding, holding-matrices, first_fits}
use Rattle.protocol.proofs.Messages.{message-parts, own-message}
use Rattle.protocol.proofs.Tests.{early, TermsFit}
use Rattle.protocol.proofs.StepTests.{right-first, left_step_lem}
use Rattle.protocol.proofs.CompletionDealt.{left-dealt, right-dealt, left-held, right-held}
use Rattle.protocol.proofs.CompletionLaws.{first_of, second-of, same_count, drawn-own, drawn-enough, message-fits, incoming-is, first-test, both_true, then-accepted, said-message, view_of}

-- ---- what the ends send

module _ (t : Terms) (terms : TermsFit product t) where
  h0 : 0 < t.q
  h0 = omega (arith, terms.big)

  module _ (y0 b0 : List ℕ) (s : Slot) (h : Holding right READY t (y0 ∷ b0 ∷ []) s) (input got : List (List ℕ)) (taken : Taken right t input) where
    right-accepts : right_first t s (part 0 input) (message_size 1 t) ≡ done (right_first_effect t s (part 0 input))
    right-accepts = (right-first t s (part 0 input) (message_size 1 t)).accepts (record {
      first = first_fits h terms;
      y-fits = input-residues t.q (t.k * t.p) (part 0 input) (passed (taken_tests right t input) taken).0;
      message-room = le_refl _;
    })

    right-sent : (right_first_effect t s (part 0 input)).sent ≡ message_of 1 t (send_y t.q t.m t.k t.p (part 0 input) y0 ∷ [])
    unfolding right_first_effect
    right-sent = rw (holding-matrices right READY t _ s h)

    pub right-sends : right_messages t s input got ≡ join (send_y t.q t.m t.k t.p (part 0 input) y0 ∷ []) ∷ []
    unfolding right_messages
    right-sends = then-accepted s _ _ _ right-accepts ∙ rw (right-sent, said-message) refl

  module _ (x0 a0 : List ℕ) (s : Slot) (h : Holding left READY t (x0 ∷ a0 ∷ []) s) (input : List (List ℕ)) (taken : Taken left t input)
      (u a : List ℕ) (ru : Residues t.q (t.m * t.p) u) (ra : Residues t.q (message_size 1 t) a) where
    y1 : List (List ℕ)
    y1 = parts (message_layout 1 t.m t.k t.p) a

    left-accepts : left_step t s (part 0 input) (words_for t.q u) (message_of 1 t y1) (message_size 2 t) (t.m * t.p)
        ≡ done (left_effect t s (part 0 input) (words_for t.q u) (message_of 1 t y1))
    unfolding y1
    left-accepts = (left_step_lem t s (part 0 input) (words_for t.q u) (message_of 1 t y1) (message_size 2 t) (t.m * t.p)).accepts (record {
      first = first_fits h terms;
      message = own-message 1 t y1 (message-fits 1 t a ra) (early _ _ 1 refl);
      x_fits = input-residues t.q (t.m * t.k) (part 0 input) (passed (taken_tests left t input) taken).0;
      message-room = le_refl _;
      share-room = le_refl _;
      enough = drawn-enough terms.small ru;
    })

    left-sent : (left_effect t s (part 0 input) (words_for t.q u) (message_of 1 t y1)).sent
        ≡ message_of 2 t (send_x t.q t.m t.k t.p (part 0 input) x0 ∷ send_r t.q t.m t.k t.p (part 0 input) (part 0 y1) u a0 ∷ [])
    unfolding left_effect y1
    left-sent = rw (holding-matrices left READY t _ s h, message-parts 1 t y1 (message-fits 1 t a ra), drawn-own terms.small ru)

    pub left-sends : (got : List (List ℕ)) → left_messages t s input (a ∷ got) (words_for t.q (join (u ∷ [])))
        ≡ join (send_x t.q t.m t.k t.p (part 0 input) x0 ∷ send_r t.q t.m t.k t.p (part 0 input)
        (part 0 (parts (message_layout 1 t.m t.k t.p) a)) u a0 ∷ []) ∷ []
    unfolding left_messages hearing y1
    left-sends got = rw (let z : join (u ∷ []) ≡ u = unfold join in append-nil u in z, incoming-is 1 t a ra)
        (then-accepted s _ _ _ left-accepts ∙ rw (left-sent, said-message) refl)

-- ---- left's view

module _ (t : Terms) (terms : TermsFit product t) (input : List (List ℕ)) (coins : List ℕ) (sent : List (List ℕ)) (a : List ℕ)
    (ra : Residues t.q (message_size 1 t) a) (i : List (List ℕ)) (taken : Taken right t i) where
  y1-received : List ℕ
  y1-received = part 0 (parts (message_layout 1 t.m t.k t.p) a)

  y1-residues : Residues t.q (t.k * t.p) y1-received
  unfolding message_layout y1-received
  y1-residues = first_of (message-fits 1 t a ra)

  left-same : (x0 a0 : List ℕ) → Residues t.q (t.m * t.k) x0 → Residues t.q (t.m * t.p) a0 → (ls : List (List ℕ)) → Fits t.q (t.k * t.p ∷ t.m * t.p ∷ []) ls
      → is_completion (view_of left t input (x0 ∷ a0 ∷ []) coins sent (a ∷ [])) i ls
      ≡ gives_left t.q t.m t.k t.p x0 a0 y1-received (part 0 i) (part 0 ls) (part 1 ls)
  unfolding is_completion gives_left y1-received both eq_lists message_layout parts send_y
  left-same x0 a0 rx r ls (◌then◌ {l = y0} ry (◌then◌ {l = b0} rb none)) =
      rw (
        left-dealt t terms x0 y0 a0 rx ry r b0,
        right-sends t terms y0 _ _ (right-held t terms x0 y0 a0 rx ry r) i sent taken,
        first-test 1 t a ra (sub-residues (h0 t terms) (t.k * t.p) (part 0 i) y0 then none) [] [],
      )
      (simp both_true)

  pub left_one : (half : List (List ℕ)) → Fits t.q (layout left t.m t.k t.p) half → completions (view_of left t input half coins sent (a ∷ [])) i ≡ 1
  unfolding completions y1-received left_completions
  left_one half (◌then◌ {l = x0} rx (◌then◌ {l = a0} r none)) =
      same_count t.q (layout right t.m t.k t.p) _ _ (left-same x0 a0 rx r)
      ∙ left-secrecy t.q t.m t.k t.p (h0 t terms) x0 a0 y1-received (part 0 i) y1-residues

-- ---- right's view

module _ (t : Terms) (terms : TermsFit product t) (input : List (List ℕ)) (coins : List ℕ) (b a : List ℕ) (sent : List (List ℕ))
    (rb : Residues t.q (message_size 1 t) b) (ra : Residues t.q (message_size 2 t) a) (i : List (List ℕ)) (taken : Taken left t i) where
  y1-sent : List ℕ
  y1-sent = part 0 (parts (message_layout 1 t.m t.k t.p) b)

  x1-received : List ℕ
  x1-received = part 0 (parts (message_layout 2 t.m t.k t.p) a)

  r1-received : List ℕ
  r1-received = part 1 (parts (message_layout 2 t.m t.k t.p) a)

  x1-residues : Residues t.q (t.m * t.k) x1-received
  unfolding message_layout x1-received
  x1-residues = first_of (message-fits 2 t a ra)

  r1-residues : Residues t.q (t.m * t.p) r1-received
  unfolding message_layout r1-received
  r1-residues = second-of (message-fits 2 t a ra)

  sent-fits : (x0 a0 u : List ℕ) → Fits t.q (message_layout 2 t.m t.k t.p)
      (send_x t.q t.m t.k t.p (part 0 i) x0 ∷ send_r t.q t.m t.k t.p (part 0 i) (part 0 (parts (message_layout 1 t.m t.k t.p) b)) u a0 ∷ [])
  unfolding message_layout send_x send_r
  sent-fits x0 a0 u = add-residues (h0 t terms) _ _ _ then sub-residues (h0 t terms) _ _ _ then none

  right-same : (y0 b0 : List ℕ) → Residues t.q (t.k * t.p) y0 → (ls : List (List ℕ)) → Fits t.q (t.m * t.k ∷ t.m * t.p ∷ t.m * t.p ∷ []) ls
      → is_completion (view_of right t input (y0 ∷ b0 ∷ []) coins (b ∷ sent) (a ∷ [])) i ls
      ≡ gives_right t.q t.m t.k t.p y0 b0 y1-sent x1-received r1-received (part 0 i) (part 0 ls) (part 1 ls) (part 2 ls)
  unfolding is_completion gives_right y1-sent x1-received r1-received both eq_lists message_layout parts
  right-same y0 b0 ry ls (◌then◌ {l = x0} rx (◌then◌ {l = a0} r (◌then◌ {l = u} ru none))) =
      rw (
        right-dealt t terms x0 y0 a0 rx ry r b0,
        left-sends t terms x0 a0 _ (left-held t terms x0 y0 a0 rx ry r) i taken u b ru rb sent,
        first-test 2 t a ra (sent-fits x0 a0 u) [] [],
      )
      (simp both_true)

  pub right-one : (half : List (List ℕ)) → Fits t.q (layout right t.m t.k t.p) half → completions (view_of right t input half coins (b ∷ sent) (a ∷ [])) i ≡ 1
  unfolding completions right_completions y1-sent x1-received r1-received
  right-one half (◌then◌ {l = y0} ry (◌then◌ {l = b0} r none)) =
      same_count t.q (t.m * t.k ∷ t.m * t.p ∷ t.m * t.p ∷ []) _ _ (right-same y0 b0 ry)
      ∙ right-secrecy t.q t.m t.k t.p (h0 t terms) y0 b0 y1-sent x1-received r1-received (part 0 i) r
      x1-residues r1-residues

-- ---- right's view before message 2

module _ (t : Terms) (terms : TermsFit product t) (input : List (List ℕ)) (coins : List ℕ) (sent i : List (List ℕ)) where
  -- A0 is what X0 leaves
  abbrev a_of : (y0 b0 x0 : List ℕ) → List ℕ
  a_of y0 b0 x0 = mat_sub t.q (t.m * t.p) (mat_mul t.q t.m t.k t.p x0 y0) b0

  abbrev dealt_test : (y0 b0 : List ℕ) → List (List ℕ) → Bool
  dealt_test y0 b0 ls = eq_list b0 (deal_b t.q t.m t.k t.p (part 0 ls) y0 (part 1 ls))

  waiting-same : (y0 b0 : List ℕ) → Residues t.q (t.k * t.p) y0 → (ls : List (List ℕ)) → Fits t.q (t.m * t.k ∷ t.m * t.p ∷ t.m * t.p ∷ []) ls
      → is_completion (view_of right t input (y0 ∷ b0 ∷ []) coins sent []) i ls ≡ dealt_test y0 b0 ls
  unfolding is_completion both eq_lists
  waiting-same y0 b0 ry ls (◌then◌ {l = x0} rx (◌then◌ {l = a0} r (◌then◌ {l = u} ru none))) = rw (right-dealt t terms x0 y0 a0 rx ry r b0) (simp both_true)

  pub right-waiting : (half : List (List ℕ)) → Fits t.q (layout right t.m t.k t.p) half
      → completions (view_of right t input half coins sent []) i ≡ t.q ^ (t.m * t.k + t.m * t.p)
  unfolding completions deal_b
  right-waiting half (◌then◌ {l = y0} ry (◌then◌ {l = b0} rb none)) =
      same_count t.q (t.m * t.k ∷ t.m * t.p ∷ t.m * t.p ∷ []) _ _ (waiting-same y0 b0 ry)
      ∙ parts-transfer t.q (t.m * t.k ∷ t.m * t.p ∷ t.m * t.p ∷ []) (t.m * t.k ∷ t.m * t.p ∷ []) (dealt_test y0 b0) (λ ls. true)
      (λ ls. part 0 ls ∷ part 2 ls ∷ []) (λ ls. part 0 ls ∷ a_of y0 b0 (part 0 ls) ∷ part 1 ls ∷ [])
      (record { fits = λ ls f e. to-fits ls f; passes = λ ls f e. refl; back = to_back })
      (record { fits = λ ls f e. from-fits ls f; passes = λ ls f e. from-passes ls f; back = λ ls f e. from_back ls f })
      ∙ parts_all t.q (t.m * t.k ∷ t.m * t.p ∷ [])
    where
      to-fits : (ls : List (List ℕ)) → Fits t.q (t.m * t.k ∷ t.m * t.p ∷ t.m * t.p ∷ []) ls → Fits t.q (t.m * t.k ∷ t.m * t.p ∷ []) (part 0 ls ∷ part 2 ls ∷ [])
      to-fits ls (rx then r then ru then none) = rx then ru then none

      to_back : (ls : List (List ℕ)) → Fits t.q (t.m * t.k ∷ t.m * t.p ∷ t.m * t.p ∷ []) ls → dealt_test y0 b0 ls ≡ true
          → part 0 ls ∷ a_of y0 b0 (part 0 ls) ∷ part 2 ls ∷ [] ≡ ls
      to_back ls (◌then◌ {l = x0} rx (◌then◌ {l = a0} r (◌then◌ {l = u} ru none))) e =
          ap (λ (a : List ℕ). x0 ∷ a ∷ u ∷ [])
          (ap (mat_sub t.q (t.m * t.p) (mat_mul t.q t.m t.k t.p x0 y0)) (eq_list-eq _ _ e) ∙ sub-sub (h0 t terms) (mat_mul t.q t.m t.k t.p x0 y0) r)

      from-fits : (ls : List (List ℕ)) → Fits t.q (t.m * t.k ∷ t.m * t.p ∷ []) ls
          → Fits t.q (t.m * t.k ∷ t.m * t.p ∷ t.m * t.p ∷ []) (part 0 ls ∷ a_of y0 b0 (part 0 ls) ∷ part 1 ls ∷ [])
      from-fits ls (rx then ru then none) = rx then sub-residues (h0 t terms) (t.m * t.p) _ _ then ru then none

      from-passes : (ls : List (List ℕ)) → Fits t.q (t.m * t.k ∷ t.m * t.p ∷ []) ls → dealt_test y0 b0 (part 0 ls ∷ a_of y0 b0 (part 0 ls) ∷ part 1 ls ∷ []) ≡ true
      from-passes ls f = eq_list-of (sym (sub-sub (h0 t terms) (mat_mul t.q t.m t.k t.p (part 0 ls) y0) rb))

      from_back : (ls : List (List ℕ)) → Fits t.q (t.m * t.k ∷ t.m * t.p ∷ []) ls → part 0 ls ∷ part 1 ls ∷ [] ≡ ls
      from_back ls (rx then ru then none) = refl
