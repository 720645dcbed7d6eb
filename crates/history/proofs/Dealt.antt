-- What an accepted dealing needs and leaves.
--   Fine, dealt-fine          what its tests say, by party
--   dealt-pools               each pool has its half at the slot, ready
-- Assumes nothing.
use mathlib.Core.Path.{◌≡◌, refl, sym, ap, ◌∙◌, subst}
use mathlib.Core.Bool.{true}
use mathlib.Core.List.{List}
use Prim.Native.Nat.{ℕ, ◌*◌, ◌≤◌, ◌<◌}
use native.Mathlib.Omega.{arith}
use lib.ListN.{length}
use Rattle.algebra.specs.Matrix.{Residues}
use Rattle.algebra.specs.Count.{part, join}
use Rattle.algebra.specs.Elimination.{regular}
use Rattle.algebra.specs.Product.{deal_b}
use Rattle.algebra.specs.System.{deal_v}
use Rattle.algebra.proofs.Lists.{sub-residues, add-residues}
use Rattle.algebra.proofs.Parts.{Fits, none, ◌then◌}
use Rattle.protocol.specs.Judge.{done}
use Rattle.protocol.specs.Bounds.{largest_modulus, Sort, product, system, field_fits, sides_fit}
use Rattle.protocol.specs.Tape.{Slot, is_slot, slot_words, pool_with, status_of, READY, blinder, layout, tape_size}
use Rattle.protocol.specs.Deal.{Request, first_role, second_role, first_half, second_half, draw_layout, drawn_parts, dealt_b, dealt_v, is_free, mask_fits, dealt_over, Dealt, dealt_effect, deal}
use Rattle.protocol.proofs.Tests.{system-sides}
use Rattle.protocol.proofs.Dealing.{DealFits, deal-step, drawn-fits}
use Rattle.history.specs.Log.{choose, Party, first, second, party-eq, opposite, Dealing, slot_of, after_dealing, role_by, half_role, Stated}
use Rattle.history.specs.Contents.{half_by, half, tape_on}

opposite-is : (h w : Party) → ¬ (h ≡ w) → opposite h ≡ w
opposite-is first first f = absurd (f refl)
opposite-is first second f = refl
opposite-is second first f = refl
opposite-is second second f = absurd (f refl)

-- what the tests of an accepted dealing say
pub record Fine (size : Party → ℕ) (start : Party → List ℕ) (d : Dealing) : Type 0 where
  pub big : 1 < d.request.q
  pub small : d.request.q ≤ largest_modulus
  pub field : field_fits d.request.sort d.request.q ≡ true
  pub sides : sides_fit d.request.sort d.request.m d.request.k d.request.p ≡ true
  pub tape : 1 ≤ d.request.tape.0
  pub room : (w : Party) → tape_size (half_role w d) d.request.m d.request.k d.request.p ≤ size w
  pub fits : (w : Party) → Fits d.request.q (layout (half_role w d) d.request.m d.request.k d.request.p) (half w d)
  pub inside : (w : Party) → is_slot (slot_of size d.on.pools w d.index) ≡ true
  pub free : (w : Party) → is_free (status_of (slot_words (slot_of size d.on.pools w d.index))) ≡ true
  pub mask : (w : Party) → half_role w d ≡ blinder → regular d.request.q d.request.m (part 2 (half w d)) ≡ true
  pub on-size : (w : Party) → length (d.on.pools w) ≡ length (start w)

-- ---- the matrices of the halves

module _ (r : Request) (big : 1 < r.q) (sides : sides_fit r.sort r.m r.k r.p ≡ true) where
  positive : 0 < r.q
  positive = omega (arith, big)

  v-residues : (ls : List (List ℕ)) → r.k ≡ r.m → Residues r.q (r.m * r.k) (dealt_v r ls)
  unfolding dealt_v deal_v
  v-residues ls e = subst (λ (k : ℕ). Residues r.q (r.m * k) (dealt_v r ls)) (sym e) (add-residues positive (r.m * r.m) _ _)

  first_fits : (sort : Sort) (ls : List (List ℕ)) → Fits r.q (draw_layout sort r.m r.k r.p) ls
      → Fits r.q (layout (first_role sort) r.m r.k r.p) (first_half sort ls)
  first_fits product ls (rx then ry then ra then none) = rx then ra then none
  first_fits system ls (rx then ry then ra then rq then rr then rg then none) = rx then ra then rq then rg then none

  second_fits : (sort : Sort) (ls : List (List ℕ)) → sides_fit sort r.m r.k r.p ≡ true → Fits r.q (draw_layout sort r.m r.k r.p) ls
      → Fits r.q (layout (second_role sort) r.m r.k r.p) (second_half sort ls (dealt_b r ls) (dealt_v r ls))
  unfolding dealt_b deal_b
  second_fits product ls s (rx then ry then ra then none) = ry then sub-residues positive _ _ _ then none
  second_fits system ls s (rx then ry then ra then rq then rr then rg then none) =
      ry then sub-residues positive _ _ _ then rr then v-residues _ ((system-sides r.m r.k r.p).0 s).k-is then none

-- Q of a blinder's half has an inverse
mask_first : (sort : Sort) (q n : ℕ) (ls : List (List ℕ)) → mask_fits sort q n ls ≡ true → first_role sort ≡ blinder → regular q n (part 2 (first_half sort ls)) ≡ true
mask_first product q n ls h e = absurd (let z : ◌≡◌ {A = ℕ} 0 1 = cc in omega arith)
mask_first system q n ls h e = h

second-blinder : {A : Type 0} (sort : Sort) → second_role sort ≡ blinder → A
second-blinder product e = absurd (let z : ◌≡◌ {A = ℕ} 0 1 = cc in omega arith)
second-blinder system e = absurd (let z : ◌≡◌ {A = ℕ} 0 1 = cc in omega arith)

-- ---- the dealing

module _ (size : Party → ℕ) (start : Party → List ℕ) (d : Dealing) (x : Dealt)
    (h : deal (d.on.pools d.holder) (d.on.pools (opposite d.holder)) d.size d.index d.request ≡ done x) (stated : Stated size d) where
  -- every slot with the size that the dealing states
  abbrev given : Party → ℕ
  given w = d.size

  slots-are : (w : Party) → slot_of given d.on.pools w d.index ≡ slot_of size d.on.pools w d.index
  slots-are w = ap (λ (n : ℕ). record { pool = d.on.pools w; size = n; index = d.index }) (stated w)

  abbrev r : Request
  r = d.request

  abbrev a : Slot
  a = slot_of given d.on.pools d.holder d.index

  abbrev b : Slot
  b = slot_of given d.on.pools (opposite d.holder) d.index

  facts : DealFits r a b
  facts = ((deal-step (d.on.pools d.holder) (d.on.pools (opposite d.holder)) d.size d.index r).means h).0

  pub dealt-fine : ((w : Party) → length (d.on.pools w) ≡ length (start w)) → Fine size start d
  unfolding half_role half
  dealt-fine sizes = record {
    big = facts.big;
    small = facts.small;
    tape = facts.tape;
    field = facts.field;
    sides = facts.sides;
    room = λ w. subst (λ (n : ℕ). tape_size (half_role w d) r.m r.k r.p ≤ n) (stated w) (room_by w (party-eq d.holder w));
    fits = λ w. fits_by w (party-eq d.holder w);
    inside = λ w. subst (λ (s : Slot). is_slot s ≡ true) (slots-are w) (inside-by w (party-eq d.holder w));
    free = λ w. subst (λ (s : Slot). is_free (status_of (slot_words s)) ≡ true) (slots-are w) (free-by w (party-eq d.holder w));
    mask = λ w. mask-by w (party-eq d.holder w);
    on-size = sizes;
  }
    where
      room_by : (w : Party) (c : Dec (d.holder ≡ w)) → tape_size (role_by c r.sort) r.m r.k r.p ≤ d.size
      room_by w (yes p) = facts.first-room
      room_by w (no p) = facts.second-room

      fits_by : (w : Party) (c : Dec (d.holder ≡ w)) → Fits r.q (layout (role_by c r.sort) r.m r.k r.p) (half_by c r)
      fits_by w (yes p) = first_fits r facts.big facts.sides r.sort (drawn_parts r) (drawn-fits facts)
      fits_by w (no p) = second_fits r facts.big facts.sides r.sort (drawn_parts r) facts.sides (drawn-fits facts)

      mask-by : (w : Party) (c : Dec (d.holder ≡ w)) → role_by c r.sort ≡ blinder → regular r.q r.m (part 2 (half_by c r)) ≡ true
      mask-by w (yes p) e = mask_first r.sort r.q r.m (drawn_parts r) facts.mask e
      mask-by w (no p) e = second-blinder r.sort e

      inside-by : (w : Party) (c : Dec (d.holder ≡ w)) → is_slot (slot_of given d.on.pools w d.index) ≡ true
      inside-by w (yes p) = subst (λ (w : Party). is_slot (slot_of given d.on.pools w d.index) ≡ true) p facts.first_slot
      inside-by w (no p) = subst (λ (w : Party). is_slot (slot_of given d.on.pools w d.index) ≡ true) (opposite-is d.holder w p) facts.second-slot

      free-by : (w : Party) (c : Dec (d.holder ≡ w)) → is_free (status_of (slot_words (slot_of given d.on.pools w d.index))) ≡ true
      free-by w (yes p) = subst (λ (w : Party). is_free (status_of (slot_words (slot_of given d.on.pools w d.index))) ≡ true) p facts.first-free
      free-by w (no p) =
          subst (λ (w : Party). is_free (status_of (slot_words (slot_of given d.on.pools w d.index))) ≡ true) (opposite-is d.holder w p) facts.second-free

  -- each pool has its half at the slot, ready
  pub dealt-pools : (w : Party) → (after_dealing d.holder x d.on).pools w
      ≡ pool_with (slot_of size d.on.pools w d.index) (tape_on READY (join (half w d)) d (slot_words (slot_of size d.on.pools w d.index)))
  unfolding deal dealt_effect dealt_over half
  dealt-pools w =
      go (party-eq d.holder w) ∙ ap (λ (s : Slot). pool_with s (tape_on READY (join (half w d)) d (slot_words s))) (slots-are w)
    where
      go : (c : Dec (d.holder ≡ w)) → choose c x.first x.second
          ≡ pool_with (slot_of given d.on.pools w d.index) (tape_on READY (join (half_by c r)) d (slot_words (slot_of given d.on.pools w d.index)))
      go (yes p) =
          ap (λ (z : Dealt). z.first) (sym ((deal-step (d.on.pools d.holder) (d.on.pools (opposite d.holder)) d.size d.index r).means h).1)
          ∙ ap (λ (w : Party). pool_with (slot_of given d.on.pools w d.index)
          (tape_on READY (join (first_half r.sort (drawn_parts r))) d (slot_words (slot_of given d.on.pools w d.index)))) p
      go (no p) =
          ap (λ (z : Dealt). z.second) (sym ((deal-step (d.on.pools d.holder) (d.on.pools (opposite d.holder)) d.size d.index r).means h).1)
          ∙ ap (λ (w : Party). pool_with (slot_of given d.on.pools w d.index)
          (tape_on READY (join (second_half r.sort (drawn_parts r) (dealt_b r (drawn_parts r)) (dealt_v r (drawn_parts r)))) d (slot_words (slot_of given d.on.pools w d.index))))
          (opposite-is d.holder w p)
