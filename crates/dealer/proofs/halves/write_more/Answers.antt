-- `dealer::halves::write_more` meets its contract. Assumes nothing.
use mathlib.Core.Path.{ap, ◌∙◌}
use native.Mathlib.Omega.{arith}
use borrow.Author.Rules.{rules}
use Prim.Native.Nat.{◌+◌, ◌*◌, ℕ}
use Rattle.protocol.specs.Bounds.{system}
use Rattle.protocol.specs.Drawing.{words_read}
use Rattle.drawing.proofs.Then.{read-few, next-inside, next-left, next-read}
use Rattle.vectors.proofs.Written.{tail-part}
use Rattle.dealer.specs.Sorts.{masks_count}
use Rattle.dealer.specs.Written.{more_first, more_second}
use Rattle.dealer.proofs.Known.{unknowns-of, enough-masks, more-count, first_more, second_more}
use Rattle.dealer.proofs.Whole.{rest-residues}
use Rattle.dealer.proofs.halves.write_more.Goals as goal

pub offset_bounds-words-read : goal.offset_bounds-words-read
offset_bounds-words-read c =
    let a = c.args in
    let t = a.t in
    let n = masks_count t.m t.k t.p in
    let nn = t.m * t.m in
    let inside = next-inside t.q n a.words.now a.read c.requires.1 in
    search rules

pub slice_bounds-fill_more-count : goal.slice_bounds-fill_more-count
slice_bounds-fill_more-count c =
    let a = c.args in
    let t = a.t in
    let n = masks_count t.m t.k t.p in
    let nn = t.m * t.m in
    let inside = next-inside t.q n a.words.now a.read c.requires.1 in
    search rules

pub slice_bounds-fill_more-start : goal.slice_bounds-fill_more-start
slice_bounds-fill_more-start c =
    let a = c.args in
    let t = a.t in
    let n = masks_count t.m t.k t.p in
    let nn = t.m * t.m in
    let inside = next-inside t.q n a.words.now a.read c.requires.1 in
    search rules

pub fill_more-more-requires : goal.fill_more-more-requires
fill_more-more-requires c =
    let a = c.args in
    let h = c.requires in
    let t = a.t in
    let n = masks_count t.m t.k t.p in
    let nn = t.m * t.m in
    let f = h.0.fits in
    let many = next-left t.q n a.words.now a.read h.1 (nn + (nn + nn)) (omega (arith, h.0.enough, more-count f)) in (
      unknowns-of f,
      rw (tail-part a.read a.words.now) many,
      omega (arith, c.matrix_at-f.ensures, first_more f, h.0.first-room),
      omega (arith, c.matrix_at-s.ensures, second_more f, h.0.second-room),
    )

pub overflow_add-result : goal.overflow_add-result
overflow_add-result c =
    let far = c in
    let a = far.args in
    let h = far.requires in
    let t = a.t in
    let n = masks_count t.m t.k t.p in
    let nn = t.m * t.m in
    let few = enough-masks system t.m t.k t.p h.0.enough in
    let sum = next-read t.q n a.words.now a.read h.1 (nn + (nn + nn)) few in
    let more = rw (tail-part a.read a.words.now) at c.fill_more-more.ensures.value in
    omega (arith, more, sum, read-few t.q (n + (nn + (nn + nn))) a.words.now)

pub returns : goal.returns
unfolding more_first more_second
returns c =
    let far = c in
    let a = far.args in
    let h = far.requires in
    let matrix-at = c.matrix_at-f in
    let matrix-at2 = c.matrix_at-s in
    let fill_more = c.fill_more-more in
    let t = a.t in
    let n = masks_count t.m t.k t.p in
    let nn = t.m * t.m in
    let few = enough-masks system t.m t.k t.p h.0.enough in
    let e = rw (tail-part a.read a.words.now, matrix-at.ensures, matrix-at2.ensures) at fill_more.ensures in
    let sum = next-read t.q n a.words.now a.read h.1 (nn + (nn + nn)) few in
    let all = ap (λ (i : ℕ). words_read t.q i a.words.now) (more-count h.0.fits) in
    let r = rw (rest-residues t a.words.now h.1 few) at e in
    record { value = ap (λ (i : ℕ). a.read + i) e.value ∙ (sum ∙ all); first_after = r.first_after; second_after = r.second_after }
