-- Matrices drawn one after the other, each straight to its place.
-- drawn-parts   what is drawn at once, cut into parts, is what is drawn part by part
-- three-first, three-second   three matrices in their places
-- Assumes nothing.
use mathlib.Core.Path.{◌≡◌, refl, sym, ap, ap₂, ◌∙◌}
use mathlib.Core.List.{List, [], ◌∷◌}
use Prim.Native.Nat.{ℕ, zero, suc, ◌+◌, ◌≤◌}
use native.Mathlib.Omega.{arith}
use lib.ListN.{length, take, drop}
use lib.Seq.{take-take, take-nil, drop-drop, length-take-le}
use Rattle.algebra.specs.Count.{part, parts, total}
use Rattle.algebra.specs.Words.{written_at}
use Rattle.algebra.proofs.Parts.{total-cons}
use Rattle.protocol.specs.Drawing.{residues_of, drawn, words_read}
use Rattle.protocol.specs.Deal.{Request, draw_layout, draw_size, drawn_parts}
use Rattle.drawing.proofs.Then.{next_drawn}
use Rattle.dealer.specs.Written.{first_and_third}
use Rattle.dealer.proofs.Words.{written_then}

drop-take : (a n : ℕ) (l : List ℕ) → drop a (take (a + n) l) ≡ take n (drop a l)
drop-take zero n l = let same : zero + n ≡ n = omega arith in rw same
drop-take (suc a) n [] = ap (drop (suc a)) (take-nil (suc a + n)) ∙ sym (take-nil n)
drop-take (suc a) n (x ∷ l) = let same : suc a + n ≡ suc (a + n) = omega arith in rw same (drop-take a n l)

parts-take : (ns l : List ℕ) → parts ns (take (total ns) l) ≡ parts ns l
unfolding parts
parts-take [] l = refl
parts-take (n ∷ ns) l =
    rw (total-cons n ns, take-take n (n + total ns) l (omega arith), drop-take n (total ns) l)
    (ap (λ (ls : List (List ℕ)). take n l ∷ ls) (parts-take ns (drop n l)))

pub drawn-parts : (r : Request) → drawn_parts r ≡ parts (draw_layout r.sort r.m r.k r.p) (residues_of r.q r.words)
unfolding drawn_parts drawn draw_size
drawn-parts r = parts-take (draw_layout r.sort r.m r.k r.p) (residues_of r.q r.words)

module _ (q a b c : ℕ) (words : List ℕ) (enough : a + (b + c) ≤ length (residues_of q words)) where
  pub three-first : (at : ℕ) (first one : List ℕ) {two : List ℕ} (i : ℕ) → i ≡ words_read q (a + b) words → at ≤ length first
      → one ≡ written_at at (drawn q a words) first → two ≡ written_at (at + a) (drawn q c (drop i words)) one
      → two ≡ written_at at (first_and_third a b c (residues_of q words)) first
  unfolding parts drawn first_and_third
  three-first at first one i here h e f =
      let r = residues_of q words in
      let few : a + b ≤ length r = omega arith in
      let next = next_drawn q (a + b) words i here c few ∙ ap (take c) (sym (drop-drop b a r)) in
      f
      ∙ (ap₂ (λ (l d : List ℕ). written_at (at + a) l d) next e
      ∙ written_then at a (take a r) (take c (drop b (drop a r))) first (length-take-le a r (omega arith)) h)

  pub three-second : (at : ℕ) (second : List ℕ) {one : List ℕ} (i : ℕ) → i ≡ words_read q a words → one ≡ written_at at (drawn q b (drop i words)) second
      → one ≡ written_at at (part 1 (parts (a ∷ b ∷ c ∷ []) (residues_of q words))) second
  unfolding parts
  three-second at second i here e =
      let few : a ≤ length (residues_of q words) = omega arith in
      e ∙ ap (λ (l : List ℕ). written_at at l second) (next_drawn q a words i here b few)
