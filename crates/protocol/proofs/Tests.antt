-- What the groups of tests say that calls share: each group as a record of facts, with both directions.
--   Decides                     of a judged call: it is accepted exactly where these facts hold, and has then this effect
--   TermsFit, terms-tests       a session's numbers; ProductSides, SystemSides: its sides
--   HalfFits, half-slot .. fits-body   a slot that holds an end's half of a session's tape
--   FirstFits, OpenFits, LaterFits   what all first steps, all open sessions and all later steps need
--   MessageFits                 a message of the kind that is due, of the session
--   input-tests, room-tests, draw-tests   a slice of residues, room to write, enough words
-- Assumes nothing.
use mathlib.Core.Path.{◌≡◌, refl, sym, ap, ◌∙◌, subst}
use mathlib.Core.Logic.{◌↔◌}
use mathlib.Core.Bool.{true, false}
use mathlib.Core.List.{List}
use Prim.Native.Nat.{ℕ, zero, suc, ◌+◌, ◌*◌, ◌≤◌, ◌<◌}
use native.Mathlib.Nat.{mul-le-mul}
use native.Mathlib.Omega.{arith}
use lib.Dec.{ltb, eqb-suc-zero}
use lib.ListN.{length, get_or, take, drop, length-drop}
use lib.Seq.{length-take-le}
use borrow.Author.Tests.{eq-eqb, eqb-true, le-leb, leb-true}
use Rattle.algebra.specs.Matrix.{Residues}
use Rattle.algebra.specs.Count.{total}
use Rattle.algebra.proofs.Tests.{and_left, and_right, and_both}
use Rattle.algebra.proofs.Parts.{Fits, fits-join, fits-parts}
use Rattle.protocol.specs.declared.Terms.{Terms}
use Rattle.protocol.specs.declared.Head.{Head}
use Rattle.protocol.specs.Judge.{Test, Judged, done, judge}
use Rattle.protocol.specs.Drawing.{residues_of, draw_tests}
use Rattle.protocol.specs.Bounds.{largest_modulus, longest_side, longest_inner, most_residues, most_unknowns, within, all_below, Sort, product, system, field_fits, sides_fit, shape_tests, terms_tests, input_tests, room_tests}
use Rattle.protocol.specs.Tape.{Slot, is_slot, slot_words, tape_at, sort_at, q_at, m_at, k_at, p_at, sort_number, header_size, READY, IN-USE, Role, sort_of, layout, body_size, tape_size, status_of, body, matrices, slot_tests, half_tests, tape_tests, body_tests}
use Rattle.protocol.specs.Message.{Message, kind_known, kind_sort, last_fits, message_layout, message_size, message_parts, message_tests, due_tests}
use Rattle.protocol.specs.Step.{first_tests, is_open, open_tests, later_tests}
use Rattle.protocol.proofs.Judge.{Pass, ◌also◌, ◌next◌, nothing, split, here, rest, pass-given, given-pass, accepts, passed}
use Rattle.protocol.proofs.Residues.{residues-below, input-residues, residues-input, below-residues, join-cut}
use Rattle.protocol.proofs.Slots.{slot-length}

-- ---- a judged call

-- accepted exactly where F holds, and then with this effect
pub record Decides {A : Type 0} (o : Judged A) (effect : A) (F : Type 0) : Type 0 where
  pub accepts : F → o ≡ done effect
  pub means : {e : A} → o ≡ done e → F × (effect ≡ e)

pub decides : {A : Type 0} (ts : List Test) (effect : A) {F : Type 0} → ◌↔◌ {0, 0} (Pass ts) F → Decides (judge ts effect) effect F
decides ts effect f = record {
  accepts = λ h. accepts ts effect (f.1 h).all;
  means = λ h. (f.0 (record { all = (passed ts h).0 }), (passed ts h).1);
}

-- ---- a session's numbers

pub record TermsFit (sort : Sort) (t : Terms) : Type 0 where
  pub session : 1 ≤ t.session.0
  pub big : 1 < t.q
  pub small : t.q ≤ largest_modulus
  pub field : field_fits sort t.q ≡ true
  pub sides : sides_fit sort t.m t.k t.p ≡ true
  pub tape : 1 ≤ t.tape.0

pub terms-tests : (sort : Sort) (t : Terms) → ◌↔◌ {0, 0} (Pass (terms_tests sort t)) (TermsFit sort t)
unfolding terms_tests shape_tests within
terms-tests sort t = (
  λ a. record {
    session = leb-true _ _ (here a);
    big = leb-true _ _ (and_left _ _ (here (rest a)));
    small = leb-true _ _ (and_right _ _ (here (rest a)));
    field = here (rest (rest a));
    sides = here (rest (rest (rest a)));
    tape = leb-true _ _ (here (rest (rest (rest (rest a)))));
  },
  λ f. le-leb 1 t.session.0 f.session
      next and_both (le-leb 2 t.q f.big) (le-leb t.q largest_modulus f.small)
      next f.field
      next f.sides
      next le-leb 1 t.tape.0 f.tape
      next nothing,
)

-- the sides of a product and of a system
pub record ProductSides (m k p : ℕ) : Type 0 where
  pub some-m : 1 ≤ m
  pub few-m : m ≤ longest_side
  pub some-p : 1 ≤ p
  pub few-p : p ≤ longest_side
  pub some-k : 1 ≤ k
  pub few-k : k ≤ longest_inner
  pub few-x : m * k ≤ most_residues
  pub few-y : k * p ≤ most_residues

pub product-sides : (m k p : ℕ) → ◌↔◌ {0, 0} (sides_fit product m k p ≡ true) (ProductSides m k p)
unfolding sides_fit within
product-sides m k p = (
  λ e.
      let em = and_left _ _ e in
      let e1 = and_right _ _ e in
      let ep = and_left _ _ e1 in
      let e2 = and_right _ _ e1 in
      let ek = and_left _ _ e2 in
      let e3 = and_right _ _ e2 in
      record {
        some-m = leb-true _ _ (and_left _ _ em);
        few-m = leb-true _ _ (and_right _ _ em);
        some-p = leb-true _ _ (and_left _ _ ep);
        few-p = leb-true _ _ (and_right _ _ ep);
        some-k = leb-true _ _ (and_left _ _ ek);
        few-k = leb-true _ _ (and_right _ _ ek);
        few-x = leb-true _ _ (and_left _ _ e3);
        few-y = leb-true _ _ (and_right _ _ e3);
      },
  λ f. and_both (and_both (le-leb _ _ f.some-m) (le-leb _ _ f.few-m))
      (and_both (and_both (le-leb _ _ f.some-p) (le-leb _ _ f.few-p))
      (and_both (and_both (le-leb _ _ f.some-k) (le-leb _ _ f.few-k)) (and_both (le-leb _ _ f.few-x) (le-leb _ _ f.few-y)))),
)

pub record SystemSides (m k p : ℕ) : Type 0 where
  pub some : 1 ≤ m
  pub few : m ≤ most_unknowns
  pub k-is : k ≡ m
  pub low : m ≤ p
  pub high : p ≤ m + 1

pub system-sides : (m k p : ℕ) → ◌↔◌ {0, 0} (sides_fit system m k p ≡ true) (SystemSides m k p)
unfolding sides_fit within
system-sides m k p = (
  λ e. record {
    some = leb-true _ _ (and_left _ _ (and_left _ _ e));
    few = leb-true _ _ (and_right _ _ (and_left _ _ e));
    k-is = eqb-true _ _ (and_left _ _ (and_right _ _ e));
    low = leb-true _ _ (and_left _ _ (and_right _ _ (and_right _ _ e)));
    high = leb-true _ _ (and_right _ _ (and_right _ _ (and_right _ _ e)));
  },
  λ f. and_both (and_both (le-leb _ _ f.some) (le-leb _ _ f.few)) (and_both (eq-eqb _ _ f.k-is) (and_both (le-leb _ _ f.low) (le-leb _ _ f.high))),
)

-- a system's terms fit a product's bounds too, which kinds 1 and 2 are held to
pub product-of-system : (t : Terms) → TermsFit system t → TermsFit product t
unfolding field_fits
product-of-system t f =
    let g = (system-sides t.m t.k t.p).0 f.sides in
    record { session = f.session; big = f.big; small = f.small; field = refl; sides = (product-sides t.m t.k t.p).1 (wide g); tape = f.tape }
  where
    wide : {m k p : ℕ} → SystemSides m k p → ProductSides m k p
    wide {m} {k} {p} g =
        let square : m * m ≤ 256 = mul-le-mul {n₁ = m} {m₁ = m} {n₂ = 16} {m₂ = 16} g.few g.few in
        let x : m * k ≤ 2048 = rw g.k-is (omega arith) in
        let y : k * p ≤ 2048 = rw g.k-is (omega (arith, mul-le-mul {n₁ = m} {m₁ = p} {n₂ = 16} {m₂ = 17} g.few (omega (arith, g.few, g.high)))) in
        record {
          some-m = g.some;
          few-m = omega (arith, g.few);
          some-p = omega (arith, g.some, g.low);
          few-p = omega (arith, g.few, g.high);
          some-k = omega (arith, g.some, g.k-is);
          few-k = omega (arith, g.few, g.k-is);
          few-x = x;
          few-y = y;
        }

-- ---- slices and words

pub input-tests : (q n : ℕ) (l : List ℕ) → ◌↔◌ {0, 0} (Pass (input_tests q n l)) (Residues q n l)
input-tests q n l = (λ a. input-residues q n l a.all, λ r. record { all = residues-input r })

pub room-tests : (n room : ℕ) → ◌↔◌ {0, 0} (Pass (room_tests n room)) (n ≤ room)
unfolding room_tests
room-tests n room = (λ a. leb-true _ _ (here a), λ h. le-leb n room h next nothing)

pub draw-tests : (q n : ℕ) (ws : List ℕ) → ◌↔◌ {0, 0} (Pass (draw_tests q n ws)) (n ≤ length (residues_of q ws))
unfolding draw_tests
draw-tests q n ws = (λ a. leb-true _ _ (here a), λ h. le-leb n (length (residues_of q ws)) h next nothing)

-- ---- an end's half of a session's tape, in a slot

pub record HalfFits (role : Role) (status : ℕ) (t : Terms) (s : Slot) : Type 0 where
  pub inside : is_slot s ≡ true
  pub room : tape_size role t.m t.k t.p ≤ s.size
  pub status-is : status_of (slot_words s) ≡ status
  pub tape-is : get_or (slot_words s) tape_at 0 ≡ t.tape.0
  pub sort-is : get_or (slot_words s) sort_at 0 ≡ sort_number (sort_of role)
  pub q-is : get_or (slot_words s) q_at 0 ≡ t.q
  pub m-is : get_or (slot_words s) m_at 0 ≡ t.m
  pub k-is : get_or (slot_words s) k_at 0 ≡ t.k
  pub p-is : get_or (slot_words s) p_at 0 ≡ t.p

module _ (role : Role) (status : ℕ) (t : Terms) (s : Slot) where
  half-facts : Pass (slot_tests s) → Pass (half_tests role t.m t.k t.p s) → Pass (tape_tests role status t (slot_words s)) → HalfFits role status t s
  unfolding slot_tests half_tests tape_tests
  half-facts a b c =
      let c1 = rest c in
      let c2 = rest c1 in
      let c3 = rest c2 in
      let c4 = rest c3 in
      let c5 = rest c4 in
      record {
        inside = here a;
        room = leb-true _ _ (here b);
        status-is = eqb-true _ _ (here c);
        tape-is = eqb-true _ _ (here c1);
        sort-is = eqb-true _ _ (here c2);
        q-is = eqb-true _ _ (here c3);
        m-is = eqb-true _ _ (here c4);
        k-is = eqb-true _ _ (here c5);
        p-is = eqb-true _ _ (here (rest c5));
      }

  pub half-slot : HalfFits role status t s → Pass (slot_tests s)
  unfolding slot_tests
  half-slot f = f.inside next nothing

  pub half_room : HalfFits role status t s → Pass (half_tests role t.m t.k t.p s)
  unfolding half_tests
  half_room f = le-leb _ _ f.room next nothing

  pub half-tape : HalfFits role status t s → Pass (tape_tests role status t (slot_words s))
  unfolding tape_tests
  half-tape f =
      eq-eqb _ _ f.status-is
      next eq-eqb _ _ f.tape-is
      next eq-eqb _ _ f.sort-is
      next eq-eqb _ _ f.q-is
      next eq-eqb _ _ f.m-is
      next eq-eqb _ _ f.k-is
      next eq-eqb _ _ f.p-is
      next nothing

  -- its matrices are residues
  pub body-fits : HalfFits role status t s → Pass (body_tests role t (slot_words s)) → Fits t.q (layout role t.m t.k t.p) (matrices role t (slot_words s))
  unfolding body_tests body matrices tape_size body_size
  body-fits f a =
      let n = total (layout role t.m t.k t.p) in
      let long : n ≤ length (drop header_size (slot_words s)) = omega (arith, f.room, slot-length s f.inside, length-drop header_size (slot_words s)) in
      fits-parts (layout role t.m t.k t.p) (below-residues (length-take-le n (drop header_size (slot_words s)) long) (here a))

  pub fits-body : HalfFits role status t s → Fits t.q (layout role t.m t.k t.p) (matrices role t (slot_words s)) → Pass (body_tests role t (slot_words s))
  unfolding body_tests body matrices tape_size body_size
  fits-body f g =
      let n = total (layout role t.m t.k t.p) in
      let long : n ≤ length (drop header_size (slot_words s)) = omega (arith, f.room, slot-length s f.inside, length-drop header_size (slot_words s)) in
      let size : length (take n (drop header_size (slot_words s))) ≡ n = length-take-le n (drop header_size (slot_words s)) long in
      let whole = join-cut (layout role t.m t.k t.p) (take n (drop header_size (slot_words s))) (omega (arith, size)) in
      (ap (all_below t.q) (sym whole) ∙ residues-below (fits-join g)) next nothing

-- ---- first steps, open sessions, later steps

pub record FirstFits (role : Role) (t : Terms) (s : Slot) : Type 0 where
  pub terms : TermsFit (sort_of role) t
  pub half : HalfFits role READY t s
  pub matrices-fit : Fits t.q (layout role t.m t.k t.p) (matrices role t (slot_words s))

pub first-tests : (role : Role) (t : Terms) (s : Slot) → ◌↔◌ {0, 0} (Pass (first_tests role t s)) (FirstFits role t s)
unfolding first_tests
first-tests role t s = (
  λ a.
      let (a1, in_Body) = split a in
      let (a2, in-tape) = split a1 in
      let (a3, in-room) = split a2 in
      let (in-terms, in-slot) = split a3 in
      let half = half-facts role READY t s in-slot in-room in-tape in
      record { terms = (terms-tests (sort_of role) t).0 in-terms; half = half; matrices-fit = body-fits role READY t s half in_Body },
  λ f. (terms-tests (sort_of role) t).1 f.terms
      also half-slot role READY t s f.half
      also half_room role READY t s f.half
      also half-tape role READY t s f.half
      also fits-body role READY t s f.half f.matrices-fit,
)

pub open-due : (due : ℕ) → ◌↔◌ {0, 0} (is_open due ≡ true) (0 < due)
unfolding is_open
open-due zero = (λ e. absurd (let z : ◌≡◌ {A = ℕ} 0 1 = cc in omega arith), λ h. absurd (omega arith))
open-due (suc n) = (λ e. omega arith, λ h. rw (eqb-suc-zero n))

-- a session is open, and its half is in the slot, in use
pub record OpenFits (role : Role) (due : ℕ) (t : Terms) (s : Slot) : Type 0 where
  pub is_open : 0 < due
  pub terms : TermsFit (sort_of role) t
  pub half : HalfFits role IN-USE t s

pub open-tests : (role : Role) (due : ℕ) (t : Terms) (s : Slot) → ◌↔◌ {0, 0} (Pass (open_tests role due t s)) (OpenFits role due t s)
unfolding open_tests
open-tests role due t s = (
  λ a.
      let (a1, in-tape) = split a in
      let (a2, in-room) = split a1 in
      let (in-terms, in-slot) = split a2 in
      let o = here in-tape in
      record {
        is_open = (open-due due).0 o;
        terms = (terms-tests (sort_of role) t).0 (given-pass o in-terms);
        half = half-facts role IN-USE t s in-slot (given-pass o in-room) (rest in-tape);
      },
  λ f. pass-given (is_open due) _ ((terms-tests (sort_of role) t).1 f.terms)
      also half-slot role IN-USE t s f.half
      also pass-given (is_open due) _ (half_room role IN-USE t s f.half)
      also ((open-due due).1 f.is_open next half-tape role IN-USE t s f.half),
)

-- and this kind is due
pub record LaterFits (role : Role) (kind due : ℕ) (t : Terms) (s : Slot) : Type 0 where
  pub due-is : due ≡ kind
  pub session-open : OpenFits role due t s
  pub matrices-fit : Fits t.q (layout role t.m t.k t.p) (matrices role t (slot_words s))

pub later-tests : (role : Role) (kind due : ℕ) (t : Terms) (s : Slot) → ◌↔◌ {0, 0} (Pass (later_tests role kind due t s)) (LaterFits role kind due t s)
unfolding later_tests
later-tests role kind due t s = (
  λ a.
      let (a1, in_Body) = split a in
      let o = (open-tests role due t s).0 (rest a1) in
      record { due-is = eqb-true _ _ (here a1); session-open = o; matrices-fit = body-fits role IN-USE t s o.half in_Body },
  λ f. (eq-eqb due kind f.due-is next (open-tests role due t s).1 f.session-open)
      also fits-body role IN-USE t s f.session-open.half f.matrices-fit,
)

-- ---- a message of the kind that is due, of the session

pub record MessageFits (kind : ℕ) (t : Terms) (a : Message) : Type 0 where
  pub head-is : a.head ≡ record { kind = kind; terms = t }
  pub residues : Residues t.q (message_size kind t) a.residues
  pub last : last_fits kind t.m t.p ≡ true

-- kinds 1 to 4 have sides of either sort
pub early : (m p kind : ℕ) → ltb 4 kind ≡ false → last_fits kind m p ≡ true
unfolding last_fits
early m p kind e = rw e

-- its parts
pub message-parts-fit : {kind : ℕ} {t : Terms} {a : Message} → MessageFits kind t a → Fits t.q (message_layout kind t.m t.k t.p) (message_parts kind t a)
unfolding message_parts message_size
message-parts-fit {kind} {t} f = fits-parts (message_layout kind t.m t.k t.p) f.residues

-- two heads are the same if their numbers are
abbrev head_of : (kind session tape q m k p : ℕ) → Head
head_of kind session tape q m k p =
    record { kind = kind; terms = record { session = record { 0 = session }; tape = record { 0 = tape }; q = q; m = m; k = k; p = p } }

heads : {a b c d e f g a' b' c' d' e' f' g' : ℕ} → a ≡ a' → b ≡ b' → c ≡ c' → d ≡ d' → e ≡ e' → f ≡ f' → g ≡ g'
    → head_of a b c d e f g ≡ head_of a' b' c' d' e' f' g'
heads e0 e1 e2 e3 e4 e5 e6 = cc

module _ (kind : ℕ) (t : Terms) (a : Message) where
  same_head : Pass (due_tests kind t a) → a.head ≡ record { kind = kind; terms = t }
  unfolding due_tests
  same_head d =
      heads (eqb-true _ _ (here d)) (eqb-true _ _ (here (rest d))) (eqb-true _ _ (here (rest (rest d)))) (eqb-true _ _ (here (rest (rest (rest d)))))
      (eqb-true _ _ (here (rest (rest (rest (rest d)))))) (eqb-true _ _ (here (rest (rest (rest (rest (rest d)))))))
      (eqb-true _ _ (here (rest (rest (rest (rest (rest (rest d))))))))

  pub message-facts : Pass (message_tests a) → Pass (due_tests kind t a) → MessageFits kind t a
  unfolding message_tests
  message-facts m d =
      let e = same_head d in
      let (m1, m2) = split {ts = terms_tests (kind_sort a.head.kind) a.head.terms} (rest (rest m)) in
      record {
        head-is = e;
        residues = subst (λ (h : Head). Residues h.terms.q (message_size h.kind h.terms) a.residues) e ((input-tests _ _ _).0 m2);
        last = subst (λ (h : Head). last_fits h.kind h.terms.m h.terms.p ≡ true) e (here (rest m));
      }

  pub message-own : kind_known kind ≡ true → TermsFit (kind_sort kind) t → MessageFits kind t a → Pass (message_tests a)
  unfolding message_tests
  message-own k f m =
      subst (λ (h : Head). Pass (message_tests (record { head = h; residues = a.residues }))) (sym m.head-is)
      ((k next m.last next (terms-tests (kind_sort kind) t).1 f) also (input-tests t.q (message_size kind t) a.residues).1 m.residues)

  pub message-due : MessageFits kind t a → Pass (due_tests kind t a)
  unfolding due_tests
  message-due m = subst (λ (h : Head). Pass (due_tests kind t (record { head = h; residues = a.residues }))) (sym m.head-is)
      (eq-eqb kind kind refl
      next eq-eqb t.session.0 t.session.0 refl
      next eq-eqb t.tape.0 t.tape.0 refl
      next eq-eqb t.q t.q refl
      next eq-eqb t.m t.m refl
      next eq-eqb t.k t.k refl
      next eq-eqb t.p t.p refl
      next nothing)
