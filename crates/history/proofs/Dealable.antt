-- A dealing that keeps to the rules is accepted, whatever calls stood before it: where the halves have served, both slots are empty or spent.
--   free-words                what a place holds then is free
--   dealing-taken             after every list
-- Assumes nothing.
use mathlib.Core.Path.{◌≡◌, refl, sym, ap, ◌∙◌, subst}
use mathlib.Core.Bool.{true}
use mathlib.Core.List.{List}
use mathlib.Core.Option.{some, none}
use Prim.Native.Nat.{ℕ}
use Rattle.protocol.specs.Tape.{Slot, slot_at, is_slot, slot_words, status_of, EMPTY, SPENT}
use Rattle.protocol.specs.Deal.{Request, is_free}
use Rattle.protocol.proofs.Dealing.{deal-step}
use Rattle.history.specs.Ends.{Session}
use Rattle.history.specs.Log.{Party, opposite, Call, World, slot_of, run, Place, untouched, holds, place, Premises}
use Rattle.history.specs.Contents.{served_words, place_words}
use Rattle.history.specs.Claim.{Empty}
use Rattle.history.specs.Right.{DealtNow, HasServed, FairDealing}
use Rattle.history.proofs.Words.{tape-status}
use Rattle.history.proofs.Kept.{Inv, inside-start}
use Rattle.history.proofs.Along.{keeps}

free-words : (size : Party → ℕ) (start : Party → List ℕ) (sessions : ℕ → Session) (w : Party) (i : ℕ) → status_of (slot_words (slot_of size start w i)) ≡ EMPTY
    → (c : Place) → HasServed sessions c → is_free (status_of (place_words size start sessions w i c)) ≡ true
unfolding is_free
free-words size start sessions w i e untouched h = rw e refl
free-words size start sessions w i e (holds d none) h = absurd h
free-words size start sessions w i e (holds d (some n)) h =
    ap (λ (due : ℕ). is_free (status_of (served_words w d due (slot_words (slot_of size d.on.pools w i))))) h ∙ ap is_free (tape-status SPENT _ d _)

module _ (size : Party → ℕ) (start : Party → List ℕ) (lent : ℕ → List ℕ) (empty : Empty size start) (cs : List Call) (p : Premises size (run size start lent cs).log) where
  pub dealing-taken : (holder : Party) (len i : ℕ) (r : Request) → FairDealing size (run size start lent cs) len i r → DealtNow (run size start lent cs) holder len i r
  dealing-taken holder len i r f = (
    _,
    (deal-step (o.state.pools holder) (o.state.pools (opposite holder)) len i r).accepts (record {
      big = f.modulus.0;
      small = f.modulus.1;
      field = f.field;
      sides = f.sides;
      tape = f.number;
      first_slot = inside holder;
      first-room = f.room;
      second-slot = inside (opposite holder);
      second-room = f.other-room;
      enough = f.enough;
      first-free = free holder;
      second-free = free (opposite holder);
      mask = f.mask;
    }),
  )
    where
      o : World
      o = run size start lent cs

      inv : Inv size start (run size start lent cs).state (run size start lent cs).log
      inv = keeps size start empty lent cs p

      -- a slot of the stated size
      stated : (w : Party) → slot_of size o.state.pools w i ≡ slot_at (o.state.pools w) len i
      stated w = ap (λ (n : ℕ). slot_at (o.state.pools w) n i) (sym (f.stated w))

      inside : (w : Party) → is_slot (slot_at (o.state.pools w) len i) ≡ true
      inside w = subst (λ (s : Slot). is_slot s ≡ true) (stated w) (f.inside w)

      free : (w : Party) → is_free (status_of (slot_words (slot_at (o.state.pools w) len i))) ≡ true
      free w =
          let at = inside-start size start inv w i (f.inside w) in
          ap (λ (s : Slot). is_free (status_of (slot_words s))) (sym (stated w))
          ∙ ap (λ (ws : List ℕ). is_free (status_of ws)) (inv.shown w i at)
          ∙ free-words size start o.state.sessions w i (empty w i at) (place o.log w i) (f.free w)
