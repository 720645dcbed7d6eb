-- `decimal::number_at` meets its contract: the first byte decides between a zero, a run of digits and no number. Assumes nothing.
use mathlib.Core.Path.{◌≡◌, sym, ap, ◌∙◌}
use Prim.Native.Nat.{ℕ, ◌+◌, ◌-◌, ◌<◌, ◌^◌}
use native.Mathlib.Omega.{arith}
use lib.ListN.{get_or, drop}
use Rattle.decimal.proofs.Bytes.{no_number}
use Rattle.decimal.proofs.Runs.{digit-inside, first-digit, finds-first, zero-stops, too_large, seen-small}
use mathlib.Core.Logic.{inl, inr}
use Rattle.protocol.specs.Line.{with_byte}
use Rattle.protocol.specs.declared.Numeral.{Numeral}
use Rattle.protocol.specs.declared.Numeral.TheVariants.{Value}
use Rattle.decimal.specs.Reading.{spell}
use Rattle.decimal.proofs.number_at.Goals as goal

pub returns-then-b-lt48 : goal.returns-then-b-lt48
returns-then-b-lt48 c =
    let a = c.args in
    let pre = c.requires in
    let s = a.s.now in let at = a.at in let h = pre.0 in let e = pre.1 in no_number s at h (inl c.if-b-lt48.true)

pub returns-then-b-gt57 : goal.returns-then-b-gt57
returns-then-b-gt57 c =
    let a = c.args in
    let pre = c.requires in
    let s = a.s.now in let at = a.at in let h = pre.0 in let e = pre.1 in no_number s at h (inr c.if-b-gt57.true)

pub end_at-requires : goal.end_at-requires
end_at-requires c =
    let a = c.args in
    let pre = c.requires in
    let s = a.s.now in
    let at = a.at in
    let h = pre.0 in
    let e = pre.1 in
    (digit-inside s at e h c.if-b-lt48.false, zero-stops s (at + 1))

pub returns-then-b-eq48 : goal.returns-then-b-eq48
returns-then-b-eq48 c =
    let a = c.args in
    let pre = c.requires in
    let s = a.s.now in
    let at = a.at in
    let h = pre.0 in
    let e = pre.1 in
    let z : get_or s at 0 - 48 ≡ 0 = omega arith in
    finds-first (Value 0) s at (at + 1) c.end_at.result
    (first-digit s at h c.if-b-lt48.false c.if-b-gt57.false ∙ ap (λ (v : ℕ). spell (Value v) (drop (at + 1) s)) z)
    (omega arith) c.end_at.ensures

pub digits-r-requires : goal.digits-r-requires
digits-r-requires c =
    let a = c.args in
    let pre = c.requires in
    let s = a.s.now in
    let at = a.at in
    let h = pre.0 in
    let e = pre.1 in
    (digit-inside s at e h c.if-b-lt48.false, omega arith, omega arith, e)

pub returns-then-r-gt4294967295 : goal.returns-then-r-gt4294967295
returns-then-r-gt4294967295 c =
    let a = c.args in
    let pre = c.requires in
    let s = a.s.now in
    let at = a.at in
    let h = pre.0 in
    let e = pre.1 in
    first-digit s at h c.if-b-lt48.false c.if-b-gt57.false ∙ too_large s _
    c.digits-r.result c.digits-r.ensures c.if-r-gt4294967295.true

pub end_at-requires-2 : goal.end_at-requires-2
end_at-requires-2 c =
    let a = c.args in
    let pre = c.requires in
    let s = a.s.now in
    let at = a.at in
    let h = pre.0 in
    let e = pre.1 in
    let d = c.digits-r.ensures in
    let t = c.digits-r.result in
    let v : t.value < 2 ^ 32 = omega (arith, c.if-r-gt4294967295.false) in
    (d.inside, ap (λ (f : Numeral). with_byte f (get_or s t.next 0)) (sym (seen-small t.value v)) ∙ d.stops)

pub returns : goal.returns
returns c =
    let a = c.args in
    let pre = c.requires in
    let digits = c.digits-r in
    let s = a.s.now in
    let at = a.at in
    let h = pre.0 in
    let e = pre.1 in
    let d = digits.ensures in
    let t = digits.result in
    let v : t.value < 2 ^ 32 = omega (arith, c.if-r-gt4294967295.false) in
    finds-first (Value t.value) s at t.next c.end_at-2.result
    (first-digit s at h c.if-b-lt48.false
    c.if-b-gt57.false ∙ d.reads
    ∙ ap (λ (f : Numeral). spell f (drop t.next s)) (seen-small t.value v)) (omega (arith, d.onward)) c.end_at-2.ensures
