-- The dealer's rules for two halves: a dealing that draws what stands in them is accepted exactly where Q has an inverse, and then each end's slot holds its
-- half. Assumes nothing.
-- left-dealt, right-dealt       a product's halves are dealt together exactly where B0 = X0 × Y0 − A0
-- left-held, right-held         and stand in their slots
-- blinder-dealt, solver-dealt   a system's exactly where also V = R × Q + G, and Q has an inverse
-- blinder-held, solver-held     and stand in their slots
use mathlib.Core.Path.{◌≡◌, refl, sym, ap, ap₂, ◌∙◌, subst}
use mathlib.Core.Bool.{Bool, true, false≢true}
use mathlib.Core.List.{List, [], ◌∷◌}
use Prim.Native.Nat.{ℕ, zero, suc, ◌*◌, ◌<◌}
use native.Mathlib.Omega.{arith}
use lib.ListN.{length, get_or, take, drop}
use lib.Seq.{take_all}
use Rattle.algebra.specs.Matrix.{Residues, tabulate, zeros}
use Rattle.algebra.specs.Count.{both, eq_list, join}
use Rattle.algebra.specs.Elimination.{regular}
use Rattle.algebra.specs.Product.{deal_b}
use Rattle.algebra.specs.System.{deal_v}
use Rattle.algebra.proofs.Lists.{length-tabulate, add-residues, sub-residues}
use Rattle.algebra.proofs.Tests.{and_left, and_right, and_both, eq_list-eq, eq_list-of, same_test}
use Rattle.algebra.proofs.Parts.{Fits, none, ◌then◌, fits-join, parts_join}
use Rattle.protocol.specs.declared.Terms.{Terms}
use Rattle.protocol.specs.Judge.{Judged, refused, done}
use Rattle.protocol.specs.Drawing.{words_for}
use Rattle.protocol.specs.Bounds.{Sort, product, system}
use Rattle.protocol.specs.Tape.{Slot, slot_at, is_slot, slot_words, READY, left, right, blinder, solver, tape_size, status_of}
use Rattle.protocol.specs.Deal.{Request, draw_layout, draw_size, drawn_parts, dealt_b, dealt_v, mask_fits, is_free, Dealt, dealt_effect, deal}
use Rattle.protocol.specs.Completion.{eq_lists, slot_size, dealing, is_done, dealt_slot, holds, dealt_together}
use Rattle.protocol.proofs.Tests.{TermsFit}
use Rattle.protocol.proofs.Halves.{Holding, holding-matrices}
use Rattle.protocol.proofs.Dealing.{request_for, DealFits, deal-step, dealt-holding}
use Rattle.protocol.proofs.CompletionLaws.{both_true, eq_lists-of, one-slot, drawn-own, drawn-enough}

-- ---- a dealing over empty slots

zeros-first : (n : ℕ) → get_or (zeros n) 0 0 ≡ 0
unfolding zeros tabulate
zeros-first zero = refl
zeros-first (suc n) = refl

module _ (sort : Sort) (t : Terms) (terms : TermsFit sort t) (d : List (List ℕ)) (fits : Fits t.q (draw_layout sort t.m t.k t.p) d) where
  abbrev size : ℕ
  size = slot_size sort t

  abbrev request : Request
  request = request_for sort t (words_for t.q (join d))

  abbrev empty : Slot
  empty = slot_at (zeros size) size 0

  empty-length : length (zeros size) ≡ size
  unfolding zeros
  empty-length = length-tabulate size (λ i. 0)

  empty-inside : is_slot empty ≡ true
  unfolding is_slot tape_size
  empty-inside = one-slot (length (zeros size)) size empty-length (omega arith)

  empty-words : slot_words empty ≡ zeros size
  unfolding slot_words
  empty-words = ap (λ (n : ℕ). take size (drop n (zeros size))) (let z : 0 * size ≡ 0 = omega arith in z) ∙ take_all size (zeros size) (omega (arith, empty-length))

  empty-free : is_free (status_of (slot_words empty)) ≡ true
  unfolding is_free status_of
  empty-free = rw (empty-words, zeros-first size)

  drawn-is : drawn_parts request ≡ d
  unfolding drawn_parts draw_size
  drawn-is = rw (drawn-own terms.small (fits-join fits)) (parts_join fits)

  fits-deal : mask_fits sort t.q t.m d ≡ true → DealFits request empty empty
  unfolding draw_size
  fits-deal mask = record {
    big = terms.big;
    small = terms.small;
    field = terms.field;
    sides = terms.sides;
    tape = terms.tape;
    first_slot = empty-inside;
    first-room = omega arith;
    second-slot = empty-inside;
    second-room = omega arith;
    enough = drawn-enough terms.small (fits-join fits);
    first-free = empty-free;
    second-free = empty-free;
    mask = rw drawn-is mask;
  }

  effect : Dealt
  effect = dealt_effect (zeros size) (zeros size) size 0 request

  dealing-done : mask_fits sort t.q t.m d ≡ true → dealing sort t d ≡ done effect
  unfolding dealing effect
  dealing-done mask = (deal-step (zeros size) (zeros size) size 0 request).accepts (fits-deal mask)

  dealing-mask : is_done (dealing sort t d) ≡ true → mask_fits sort t.q t.m d ≡ true
  unfolding dealing
  dealing-mask e = go (deal (zeros size) (zeros size) size 0 request) refl e
    where
      go : (o : Judged Dealt) → deal (zeros size) (zeros size) size 0 request ≡ o → is_done o ≡ true → mask_fits sort t.q t.m d ≡ true
      go (refused r) z e = absurd (false≢true e)
      go (done x) z e = rw drawn-is at ((deal-step (zeros size) (zeros size) size 0 request).means z).0.mask

b-residues : (t : Terms) → 0 < t.q → (x0 y0 a0 : List ℕ) → Residues t.q (t.m * t.p) (deal_b t.q t.m t.k t.p x0 y0 a0)
unfolding deal_b
b-residues t h x0 y0 a0 = sub-residues h _ _ _

v-residues : (t : Terms) → 0 < t.q → (r qm g : List ℕ) → Residues t.q (t.m * t.m) (deal_v t.q t.m r qm g)
unfolding deal_v
v-residues t h r qm g = add-residues h _ _ _

-- ---- products

module _ (t : Terms) (terms : TermsFit product t) (x0 y0 a0 : List ℕ) (rx : Residues t.q (t.m * t.k) x0) (ry : Residues t.q (t.k * t.p) y0)
    (ra : Residues t.q (t.m * t.p) a0) where
  abbrev p-drawn : List (List ℕ)
  p-drawn = x0 ∷ y0 ∷ a0 ∷ []

  abbrev p-dealt : Judged Dealt
  p-dealt = dealing product t p-drawn

  p-fits : Fits t.q (draw_layout product t.m t.k t.p) p-drawn
  p-fits = rx then ry then ra then none

  p-done : p-dealt ≡ done (effect product t terms p-drawn p-fits)
  p-done = dealing-done product t terms p-drawn p-fits refl

  pub left-held : Holding left READY t (x0 ∷ a0 ∷ []) (dealt_slot left t (dealing product t (x0 ∷ y0 ∷ a0 ∷ [])))
  unfolding effect dealt_effect
  left-held =
      subst (λ (o : Judged Dealt). Holding left READY t (x0 ∷ a0 ∷ []) (dealt_slot left t o)) (sym p-done)
      (rw (drawn-is product t terms p-drawn p-fits)
      (dealt-holding left t _ (x0 ∷ a0 ∷ []) (empty product t terms p-drawn p-fits) (empty-inside product t terms p-drawn p-fits) (omega arith) (rx then ra then none)))

  pub right-held : Holding right READY t (y0 ∷ deal_b t.q t.m t.k t.p x0 y0 a0 ∷ []) (dealt_slot right t (dealing product t (x0 ∷ y0 ∷ a0 ∷ [])))
  unfolding effect dealt_effect dealt_b
  right-held =
      subst (λ (o : Judged Dealt). Holding right READY t (y0 ∷ deal_b t.q t.m t.k t.p x0 y0 a0 ∷ []) (dealt_slot right t o)) (sym p-done)
      (rw (drawn-is product t terms p-drawn p-fits)
      (dealt-holding right t _ (y0 ∷ deal_b t.q t.m t.k t.p x0 y0 a0 ∷ []) (empty product t terms p-drawn p-fits)
      (empty-inside product t terms p-drawn p-fits) (omega arith)
      (ry then b-residues t (omega (arith, terms.big)) x0 y0 a0 then none)))

  -- the two halves that stand there, against X0, A0 and Y0, B0
  left-holds : holds left t (dealt_slot left t p-dealt) (x0 ∷ a0 ∷ []) ≡ true
  unfolding holds
  left-holds = eq_lists-of (sym (holding-matrices left READY t _ _ left-held))

  right-holds : (b0 : List ℕ) → holds right t (dealt_slot right t p-dealt) (y0 ∷ b0 ∷ []) ≡ eq_list b0 (deal_b t.q t.m t.k t.p x0 y0 a0)
  unfolding holds
  right-holds b0 = rw (holding-matrices right READY t _ _ right-held) (unfold eq_lists both in rw (eq_list-of {a = y0} refl) (both_true _))

  is-done : is_done p-dealt ≡ true
  is-done = ap is_done p-done

  pub left-dealt : (b0 : List ℕ) → dealt_together left t (dealing product t (x0 ∷ y0 ∷ a0 ∷ [])) (x0 ∷ a0 ∷ []) (y0 ∷ b0 ∷ []) ≡ eq_list b0
      (deal_b t.q t.m t.k t.p x0 y0 a0)
  unfolding dealt_together both
  left-dealt b0 = rw (is-done, left-holds) (right-holds b0)

  pub right-dealt : (b0 : List ℕ) → dealt_together right t (dealing product t (x0 ∷ y0 ∷ a0 ∷ [])) (y0 ∷ b0 ∷ []) (x0 ∷ a0 ∷ []) ≡ eq_list b0
      (deal_b t.q t.m t.k t.p x0 y0 a0)
  unfolding dealt_together both
  right-dealt b0 = rw (is-done, left-holds) (both_true _ ∙ right-holds b0)

-- ---- systems

module _ (t : Terms) (terms : TermsFit system t) (x0 y0 a0 qm r g : List ℕ) (rx : Residues t.q (t.m * t.k) x0) (ry : Residues t.q (t.k * t.p) y0)
    (ra : Residues t.q (t.m * t.p) a0) (rq : Residues t.q (t.m * t.k) qm) (rr : Residues t.q (t.m * t.k) r)
    (rg : Residues t.q (t.m * t.k) g) (square : t.k ≡ t.m) where
  abbrev s-drawn : List (List ℕ)
  s-drawn = x0 ∷ y0 ∷ a0 ∷ qm ∷ r ∷ g ∷ []

  abbrev s-dealt : Judged Dealt
  s-dealt = dealing system t s-drawn

  abbrev solver-half : List (List ℕ)
  solver-half = y0 ∷ deal_b t.q t.m t.k t.p x0 y0 a0 ∷ r ∷ deal_v t.q t.m r qm g ∷ []

  s-fits : Fits t.q (draw_layout system t.m t.k t.p) s-drawn
  s-fits = rx then ry then ra then rq then rr then rg then none

  s-done : regular t.q t.m qm ≡ true → s-dealt ≡ done (effect system t terms s-drawn s-fits)
  s-done e = dealing-done system t terms s-drawn s-fits e

  blinder-stands : regular t.q t.m qm ≡ true
      → Holding blinder READY t (x0 ∷ a0 ∷ qm ∷ g ∷ []) (dealt_slot blinder t (dealing system t (x0 ∷ y0 ∷ a0 ∷ qm ∷ r ∷ g ∷ [])))
  unfolding effect dealt_effect
  blinder-stands e =
      subst (λ (o : Judged Dealt). Holding blinder READY t (x0 ∷ a0 ∷ qm ∷ g ∷ []) (dealt_slot blinder t o)) (sym (s-done e))
      (rw (drawn-is system t terms s-drawn s-fits)
      (dealt-holding blinder t _ (x0 ∷ a0 ∷ qm ∷ g ∷ []) (empty system t terms s-drawn s-fits) (empty-inside system t terms s-drawn s-fits) (omega arith)
      (rx then ra then rq then rg then none)))

  solver-stands : regular t.q t.m qm ≡ true
      → Holding solver READY t (y0 ∷ deal_b t.q t.m t.k t.p x0 y0 a0 ∷ r ∷ deal_v t.q t.m r qm g ∷ [])
      (dealt_slot solver t (dealing system t (x0 ∷ y0 ∷ a0 ∷ qm ∷ r ∷ g ∷ [])))
  unfolding effect dealt_effect dealt_b dealt_v
  solver-stands e =
      subst (λ (o : Judged Dealt). Holding solver READY t solver-half (dealt_slot solver t o)) (sym (s-done e))
      (rw (drawn-is system t terms s-drawn s-fits)
      (dealt-holding solver t _ solver-half (empty system t terms s-drawn s-fits) (empty-inside system t terms s-drawn s-fits) (omega arith)
      (ry then b-residues t (omega (arith, terms.big)) x0 y0 a0 then rr then v-fits then none)))
    where
      v-fits : Residues t.q (t.m * t.k) (deal_v t.q t.m r qm g)
      v-fits = subst (λ (k : ℕ). Residues t.q (t.m * k) (deal_v t.q t.m r qm g)) (sym square) (v-residues t (omega (arith, terms.big)) r qm g)

  -- the two halves that stand there, where Q has an inverse
  module _ (e : regular t.q t.m qm ≡ true) where
    blinder-holds : holds blinder t (dealt_slot blinder t s-dealt) (x0 ∷ a0 ∷ qm ∷ g ∷ []) ≡ true
    unfolding holds
    blinder-holds = eq_lists-of (sym (holding-matrices blinder READY t _ _ (blinder-stands e)))

    solver-holds : (b0 v : List ℕ) → holds solver t (dealt_slot solver t s-dealt) (y0 ∷ b0 ∷ r ∷ v ∷ [])
        ≡ both (eq_list b0 (deal_b t.q t.m t.k t.p x0 y0 a0)) (eq_list v (deal_v t.q t.m r qm g))
    unfolding holds
    solver-holds b0 v =
        rw (holding-matrices solver READY t _ _ (solver-stands e)) (unfold eq_lists both in rw (eq_list-of {a = y0} refl, eq_list-of {a = r} refl) (simp both_true))

  -- the halves X0, A0, Q, G and Y0, B0, R, V are dealt together exactly where B0 = X0 × Y0 − A0 and V = R × Q + G, and Q has an inverse
  abbrev rules : (b0 v : List ℕ) → Bool
  rules b0 v = both (regular t.q t.m qm) (both (eq_list b0 (deal_b t.q t.m t.k t.p x0 y0 a0)) (eq_list v (deal_v t.q t.m r qm g)))

  by_mask : (test : Bool) (b0 v : List ℕ)
      → (regular t.q t.m qm ≡ true → test ≡ both (eq_list b0 (deal_b t.q t.m t.k t.p x0 y0 a0)) (eq_list v (deal_v t.q t.m r qm g)))
      → both (is_done s-dealt) test ≡ rules b0 v
  by_mask test b0 v h = same_test _ _
      (λ g. let m = dealing-mask system t terms s-drawn s-fits (and_left _ _ g) in and_both m (sym (h m) ∙ and_right _ _ g))
      (λ g. and_both (ap is_done (s-done (and_left _ _ g))) (h (and_left _ _ g) ∙ and_right _ _ g))

  pub blinder-dealt : (b0 v : List ℕ) → dealt_together blinder t (dealing system t (x0 ∷ y0 ∷ a0 ∷ qm ∷ r ∷ g ∷ [])) (x0 ∷ a0 ∷ qm ∷ g ∷ []) (y0 ∷ b0 ∷ r ∷ v ∷ [])
      ≡ both (regular t.q t.m qm) (both (eq_list b0 (deal_b t.q t.m t.k t.p x0 y0 a0)) (eq_list v (deal_v t.q t.m r qm g)))
  unfolding dealt_together both
  blinder-dealt b0 v = by_mask _ b0 v (λ e. ap₂ both (blinder-holds e) (solver-holds e b0 v))

  pub solver-dealt : (b0 v : List ℕ) → dealt_together solver t (dealing system t (x0 ∷ y0 ∷ a0 ∷ qm ∷ r ∷ g ∷ [])) (y0 ∷ b0 ∷ r ∷ v ∷ []) (x0 ∷ a0 ∷ qm ∷ g ∷ [])
      ≡ both (regular t.q t.m qm) (both (eq_list b0 (deal_b t.q t.m t.k t.p x0 y0 a0)) (eq_list v (deal_v t.q t.m r qm g)))
  unfolding dealt_together
  solver-dealt b0 v = by_mask _ b0 v (λ e. ap₂ both (solver-holds e b0 v) (blinder-holds e) ∙ both_true _)

  -- where they are dealt together, each stands in its slot
  pub blinder-held : (b0 v : List ℕ) → dealt_together solver t (dealing system t (x0 ∷ y0 ∷ a0 ∷ qm ∷ r ∷ g ∷ [])) (y0 ∷ b0 ∷ r ∷ v ∷ []) (x0 ∷ a0 ∷ qm ∷ g ∷ []) ≡ true
      → Holding blinder READY t (x0 ∷ a0 ∷ qm ∷ g ∷ []) (dealt_slot blinder t (dealing system t (x0 ∷ y0 ∷ a0 ∷ qm ∷ r ∷ g ∷ [])))
  blinder-held b0 v e = blinder-stands (and_left _ _ (sym (solver-dealt b0 v) ∙ e))

  pub solver-held : (b0 v : List ℕ) → dealt_together blinder t (dealing system t (x0 ∷ y0 ∷ a0 ∷ qm ∷ r ∷ g ∷ [])) (x0 ∷ a0 ∷ qm ∷ g ∷ []) (y0 ∷ b0 ∷ r ∷ v ∷ []) ≡ true
      → Holding solver READY t (y0 ∷ b0 ∷ r ∷ v ∷ []) (dealt_slot solver t (dealing system t (x0 ∷ y0 ∷ a0 ∷ qm ∷ r ∷ g ∷ [])))
  solver-held b0 v e =
      let k = sym (blinder-dealt b0 v) ∙ e in
      let o = and_right _ _ k in
      subst (λ (ls : List (List ℕ)). Holding solver READY t ls (dealt_slot solver t s-dealt))
      (ap₂ (λ (b v : List ℕ). y0 ∷ b ∷ r ∷ v ∷ []) (sym (eq_list-eq b0 _ (and_left _ _ o))) (sym (eq_list-eq v _ (and_right _ _ o)))) (solver-stands (and_left _ _ k))
