-- `rehearse::perform::play` meets its contract. Assumes nothing.
use mathlib.Core.Bool.{true}
use mathlib.Core.Path.{◌≡◌, sym, ap}
use Prim.Native.Nat.{ℕ, ◌+◌, ◌*◌, ◌≤◌}
use native.Mathlib.Omega.{arith}
use Rattle.protocol.specs.Judge.{done}
use Rattle.protocol.specs.Bounds.{product, sides_fit}
use Rattle.tape.proofs.Sides.{sides}
use Rattle.rehearse.proofs.Runs.{zeros-taken, rooms-taken}
use Rattle.rehearse.proofs.Judged.{same-printed}
use Rattle.rehearse.proofs.perform.play.Goals as goal

-- there is room for the messages and the shares
few : (m k p : ℕ) {kp mk mp : ℕ} → sides_fit product m k p ≡ true → kp ≡ k * p → mk ≡ m * k → mp ≡ m * p
    → (kp ≤ 2048) × (mk + mp ≤ 3072) × (mp ≤ 1024)
few m k p h f g e =
    let s = sides m k p h in
    (omega (arith, s.few-kp, f), omega (arith, s.few-mk, s.few-mp, g, e), omega (arith, s.few-mp, e))

pub overflow_add-reply : goal.overflow_add-reply
overflow_add-reply c = omega (arith, (few _ _ _ c.requires.0 c.times-kp.ensures c.times.ensures c.times-mp.ensures).1)

pub slice_bounds-y1-end : goal.slice_bounds-y1-end
slice_bounds-y1-end c = (few _ _ _ c.requires.0 c.times-kp.ensures c.times.ensures c.times-mp.ensures).0

pub slice_bounds-y1-end-2 : goal.slice_bounds-y1-end-2
slice_bounds-y1-end-2 c = sym (zeros-taken _ 2048 (few _ _ _ c.requires.0 c.times-kp.ensures c.times.ensures c.times-mp.ensures).0)

pub slice_bounds-x1r1-end : goal.slice_bounds-x1r1-end
slice_bounds-x1r1-end c = (few _ _ _ c.requires.0 c.times-kp.ensures c.times.ensures c.times-mp.ensures).1

pub slice_bounds-x1r1-end-2 : goal.slice_bounds-x1r1-end-2
slice_bounds-x1r1-end-2 c = sym (zeros-taken _ 3072 (few _ _ _ c.requires.0 c.times-kp.ensures c.times.ensures c.times-mp.ensures).1)

pub slice_bounds-u-end : goal.slice_bounds-u-end
slice_bounds-u-end c = (few _ _ _ c.requires.0 c.times-kp.ensures c.times.ensures c.times-mp.ensures).2

pub slice_bounds-u-end-2 : goal.slice_bounds-u-end-2
slice_bounds-u-end-2 c = sym (zeros-taken _ 1024 (few _ _ _ c.requires.0 c.times-kp.ensures c.times.ensures c.times-mp.ensures).2)

pub slice_bounds-v-end : goal.slice_bounds-v-end
slice_bounds-v-end c = (few _ _ _ c.requires.0 c.times-kp.ensures c.times.ensures c.times-mp.ensures).2

pub slice_bounds-v-end-2 : goal.slice_bounds-v-end-2
slice_bounds-v-end-2 c = sym (zeros-taken _ 1024 (few _ _ _ c.requires.0 c.times-kp.ensures c.times.ensures c.times-mp.ensures).2)

pub returns : goal.returns
returns c =
    let f = few _ _ _ c.requires.0 c.times-kp.ensures c.times.ensures c.times-mp.ensures in
    let kp = c.times-kp in
    let mp = c.times-mp in
    let mk = c.times in
    let told = c.result in
    let rooms = rooms-taken c.args.i.terms kp.result (mk.result + mp.result) mp.result f.0 f.1 f.2
    kp.ensures (omega (arith, mk.ensures, mp.ensures)) mp.ensures in
    λ p. same-printed (ap done (c.steps-heads.ensures p rooms)) told.ensures.place told.ensures.few told.ensures.contents
