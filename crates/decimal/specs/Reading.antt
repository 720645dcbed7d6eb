-- What the reader's functions find in a line's bytes.
--   spell, numbers_before   the numbers that a line spells up to the first fault
--   tally_of    how many numbers a line has
--   grow       a run of digits with the next byte
--   Ran        a run that has been read as far as it goes
--   Finds      the number at a position
--   Tallied    the numbers of a line that has no fault, stored as far as there is room; TalliedBehind: without the first
--   count_reply, count_of, words_after   what the entry `numbers` answers and leaves
-- Assumes nothing.
use Rattle.std.specs.Prelude.{ℕ, ◌+◌, ◌*◌, ◌-◌, ◌^◌, ◌≤◌, ◌<◌, ◌≡◌, Bool, true, false, cond, List, [], ◌∷◌, ltb, eqb, length, get_or, set, drop}
use Rattle.std.specs.Prelude.{Option, Some, None, Result, Ok, Err}
use Rattle.std.proofs.Math.Option.{Option as Maybe, some, none}
use Rattle.std.proofs.lemmas.List.Edits.{sets}
use Rattle.algebra.specs.Words.{over}
use Rattle.protocol.specs.declared.Numeral.{Numeral}
use Rattle.protocol.specs.declared.Numeral.TheVariants as numeral
use Rattle.protocol.specs.declared.Refusal.{Refusal}
use Rattle.protocol.specs.Judge.{Judged, refused, done, refusal_number, Reply}
use Rattle.protocol.specs.Bounds.{within}
use Rattle.protocol.specs.Line.{with_byte, end_byte}
use Rattle.decimal.specs.declared.Run.{Run}
use Rattle.decimal.specs.declared.Found.{Found}

-- ---- what a line's bytes spell up to the first fault

-- the numbers in front of it, and whether there is none
pub record Spelled : Type 0 where
  pub values : List ℕ
  pub whole : Bool

abbrev pub fault : Spelled
fault = record { values = []; whole = false }

-- at the end of the line every number has been ended
abbrev pub spell_end : Numeral → Spelled
spell_end numeral.Empty = record { values = []; whole = true }
spell_end (numeral.Value v) = fault
spell_end numeral.Wrong = fault

-- a number in front of those behind it
abbrev pub with_number : ℕ → Spelled → Spelled
with_number v x = record { values = v ∷ x.values; whole = x.whole }

abbrev pub end_spelled : Numeral → Spelled → Spelled
end_spelled numeral.Empty x = fault
end_spelled (numeral.Value v) x = with_number v x
end_spelled numeral.Wrong x = fault

-- as `numbers` of protocol reads, where f has been read of the first number
abbrev pub spell : Numeral → List ℕ → Spelled
spell f [] = spell_end f
spell f (b ∷ bs) =
    let ends = eqb b (end_byte (length bs)) in
    let x = spell (cond ends numeral.Empty (with_byte f b)) bs in
    cond ends (end_spelled f x) x

-- of a whole line, which has 1 to 65,536 bytes and ends with byte 10; of another run of bytes nothing is read
unfoldable pub numbers_before : List ℕ → List ℕ
numbers_before l = cond (within 1 65536 (length l)) (cond (eqb (get_or l (length l - 1) 0) 10) (spell numeral.Empty l).values []) []

-- the numbers of a line that has no fault
abbrev pub numbers_in : Spelled → Maybe (List ℕ)
numbers_in x = cond x.whole (some x.values) none

-- how many numbers a line has
abbrev pub tally_of : Maybe (List ℕ) → Option ℕ
tally_of none = None
tally_of (some xs) = Some (length xs)

abbrev pub tally_in : Spelled → Option ℕ
tally_in x = cond x.whole (Some (length x.values)) None

-- ---- what the functions find

-- the byte 10 ends the line
abbrev pub Ended : List ℕ → Type 0
Ended s = get_or s (length s - 1) 0 ≡ 10

-- a run of digits with the next byte, where it is a digit
unfoldable pub grow : List ℕ → Run → Run
grow s r =
    let b = get_or s r.next 0 in
    cond (ltb b 48) r (cond (ltb 57 b) r (record { value = r.value * 10 + (b - 48); next = r.next + 1 }))

-- what has been read of a number that may be too large
unfoldable pub seen : ℕ → Numeral
seen v = cond (ltb v (2 ^ 32)) (numeral.Value v) numeral.Wrong

-- no byte but the one that ends it may follow
abbrev pub Stops : List ℕ → Numeral → ℕ → Type 0
Stops s f next = with_byte f (get_or s next 0) ≡ numeral.Wrong

-- from the run r on, t has been read, and no digit can follow
pub record Ran (s : List ℕ) (r t : Run) : Type 0 where
  pub reads : spell (numeral.Value r.value) (drop r.next s) ≡ spell (seen t.value) (drop t.next s)
  pub stops : Stops s (seen t.value) t.next
  pub inside : t.next < length s
  pub onward : r.next ≤ t.next

-- where f has been read of the number whose next byte stands at i
abbrev pub Finds : Numeral → List ℕ → ℕ → Option Found → Type 0
Finds f s i (Some n) = (spell f (drop i s) ≡ with_number n.value (spell numeral.Empty (drop n.next s))) × (i < n.next) × (n.next ≤ length s)
Finds f s i None = spell f (drop i s) ≡ fault

-- the word of the number at index n, where the first `skip` are not stored
unfoldable pub set_behind : ℕ → List ℕ → ℕ → ℕ → List ℕ
set_behind skip l n v = cond (ltb n skip) l (set l (n - skip) v)

-- n numbers, those behind the first `skip` stored from the start of `before` on as far as there is room
pub record StoredBehind (skip : ℕ) (o : Maybe (List ℕ)) (n : ℕ) (before after : List ℕ) : Type 0 where
  pub values : List ℕ
  pub reads : o ≡ some values
  pub count : n ≡ length values
  pub stores : after ≡ sets before 0 (drop skip values)

abbrev pub TalliedBehind : ℕ → Maybe (List ℕ) → (before after : List ℕ) → Option ℕ → Type 0
TalliedBehind skip o before after (Some n) = StoredBehind skip o n before after
TalliedBehind skip o before after None = o ≡ none

-- all of them stored
abbrev pub Stored : Maybe (List ℕ) → ℕ → (before after : List ℕ) → Type 0
Stored = StoredBehind 0

abbrev pub Tallied : Maybe (List ℕ) → (before after : List ℕ) → Option ℕ → Type 0
Tallied = TalliedBehind 0

-- ---- the entry `numbers`

-- what the answer tells: the refusal's number, 0 where the line is taken, and how many words, 0 where it is refused
abbrev pub count_reply : Result ℕ Refusal → Reply ℕ
count_reply (Ok n) = record { number = 0; values = n }
count_reply (Err r) = record { number = refusal_number r; values = 0 }

abbrev pub count_of : Judged (List ℕ) → Judged ℕ
count_of (refused r) = refused r
count_of (done xs) = done (length xs)

abbrev pub words_after : Judged (List ℕ) → List ℕ → List ℕ
words_after (refused r) out = out
words_after (done xs) out = over xs out
