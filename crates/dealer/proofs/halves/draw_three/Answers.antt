-- `dealer::halves::draw_three` meets its contract: three drawings in a row. Assumes nothing.
use mathlib.Core.Path.{◌≡◌, ap, ◌∙◌}
use native.Mathlib.Omega.{arith}
use borrow.Author.Rules.{rules}
use Prim.Native.Nat.{ℕ, ◌+◌}
use Rattle.protocol.specs.Drawing.{words_read}
use Rattle.drawing.proofs.Then.{next-inside, next-left, next-read}
use Rattle.dealer.proofs.Draws.{three-first, three-second}
use Rattle.dealer.proofs.halves.draw_three.Goals as goal

pub draw_next-two-requires : goal.draw_next-two-requires
draw_next-two-requires c =
    let a = c.args in
    let draw-next = c.draw_next-one in
    let h = c.requires in
    let ws = a.words.now in
    let one : draw-next.result ≡ words_read a.q a.a ws = omega (arith, draw-next.ensures.value) in
    (h.0, next-inside a.q a.a ws _ one, next-left a.q a.a ws _ one a.b (omega (arith, h.1)), h.3)

pub draw_next-requires : goal.draw_next-requires
draw_next-requires c =
    let a = c.args in
    let draw-next = c.draw_next-one in
    let h = c.requires in
    let ws = a.words.now in
    let one : draw-next.result ≡ words_read a.q a.a ws = omega (arith, draw-next.ensures.value) in
    let two = c.draw_next-two.ensures.value ∙ next-read a.q a.a ws _ one a.b (omega (arith, h.1)) in
    (h.0, next-inside a.q (a.a + a.b) ws _ two, next-left a.q (a.a + a.b) ws _ two a.c (omega (arith, h.1)), search rules)

pub returns : goal.returns
returns c =
    let far = c in
    let a = far.args in
    let draw-next = c.draw_next-one in
    let draw-next2 = c.draw_next-two in
    let h = far.requires in
    let ws = a.words.now in
    let one : draw-next.result ≡ words_read a.q a.a ws = omega (arith, draw-next.ensures.value) in
    let two = draw-next2.ensures.value ∙ next-read a.q a.a ws _ one a.b (omega (arith, h.1)) in
    let three = c.draw_next.ensures in
    let sum : a.a + a.b + a.c ≡ a.a + (a.b + a.c) = omega arith in record {
      value = three.value ∙ (next-read a.q (a.a + a.b) ws _ two a.c (omega (arith, h.1)) ∙ ap (λ (n : ℕ). words_read a.q n ws) sum);
      first_after = three-first a.q a.a a.b a.c ws h.1 a.first_at a.first.now _ _ two (omega (arith, h.2)) draw-next.ensures.out_after three.out_after;
      second_after = three-second a.q a.a a.b a.c ws h.1 a.second_at a.second.now _ one draw-next2.ensures.out_after;
    }
