-- `words::put_words` meets its contract: after i turns the bytes of i words stand over the start. Assumes nothing.
use mathlib.Core.Path.{◌≡◌, refl, sym, ◌∙◌}
use mathlib.Core.List.{List, [], ◌∷◌, ◌++◌}
use Prim.Native.Nat.{ℕ, ◌+◌, ◌*◌, ◌<◌}
use native.Mathlib.Numerals.{add-one}
use native.Mathlib.Omega.{arith}
use lib.ListN.{length, get_or, take, length-take}
use lib.Seq.{take-suc, get_or-take}
use borrow.Author.Rules.{rules}
use Rattle.algebra.specs.Words.{over}
use Rattle.vectors.proofs.Written.{part_then}
use Rattle.entry.specs.Bytes.{word_bytes, bytes_of}
use Rattle.entry.proofs.Bytes.{bytes-length, bytes-append}
use Rattle.words.proofs.put_words.Goals as goal

bytes_next : (i : ℕ) (ws : List ℕ) → i < length ws → bytes_of (take (i + 1) ws) ≡ bytes_of (take i ws) ++ word_bytes (get_or ws i 0)
unfolding bytes_of word_bytes
bytes_next i ws h = rw (add-one i, take-suc ws i 0 h) (bytes-append (take i ws) (get_or ws i 0 ∷ []))

pub loop-i-init : goal.loop-i-init
unfolding over bytes_of
loop-i-init c = (search rules, refl, refl)

pub loop-i-preserved : goal.loop-i-preserved
loop-i-preserved c =
    let a = c.args in
    let l = c.loop-i in
    let word = get_or-take a.n a.words.now l.i 0 (search rules) in (
      search rules,
      rw (bytes_next l.i a.words.now (search rules), sym word) (part_then (bytes_of (take l.i a.words.now)) _ a.out.now l.out _ (l.i * 4)
          (bytes-length (take l.i a.words.now) ∙ simp length-take (omega arith)) (search rules) l.invariant.1 c.put_word.ensures),
      search rules,
    )
