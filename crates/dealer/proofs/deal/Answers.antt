-- `dealer::deal` meets its contract. Assumes nothing.
use mathlib.Core.Path.{◌≡◌, sym}
use native.Mathlib.Omega.{arith}
use borrow.Author.Rules.{rules}
use lib.ListN.{length}
use Rattle.std.proofs.lemmas.Result.{err_from_is_err_and}
use Rattle.protocol.specs.Deal.{draw_size}
use Rattle.tape.proofs.Slots.{slot-part-length}
use Rattle.dealer.specs.Sorts.{draw_count, request_of}
use Rattle.dealer.proofs.Known.{deal-known}
use Rattle.dealer.proofs.Leaving.{deal-refused, half_back, deal-done}
use Rattle.dealer.proofs.deal.Goals as goal

pub returns-in_err-check : goal.returns-in_err-check
returns-in_err-check c =
    let a = c.args in
    let r = request_of a.r.now in
    let p = err_from_is_err_and c.from_residual.result c.from_residual.ensures.1 in
    rw (p.1, p.2) (deal-refused a.first.now a.second.now a.at.size a.at.index r (sym c.in_err-check.ensures))

pub overflow_mul-from : goal.overflow_mul-from
overflow_mul-from c =
    let a = c.args in
    let k = deal-known _ a.r.now.terms _ _ _ _ _ c.in_ok-check.ensures in
    let i = k.first-inside in
    let j = k.second-inside in
    search rules

pub overflow_add-stop : goal.overflow_add-stop
overflow_add-stop c =
    let a = c.args in
    let k = deal-known _ a.r.now.terms _ _ _ _ _ c.in_ok-check.ensures in
    let i = k.first-inside in
    let j = k.second-inside in
    search rules

pub offset_bounds-first-from : goal.offset_bounds-first-from
offset_bounds-first-from c =
    let a = c.args in
    let k = deal-known _ a.r.now.terms _ _ _ _ _ c.in_ok-check.ensures in
    let i = k.first-inside in
    let j = k.second-inside in
    search rules

pub slice_bounds-write_halves-end : goal.slice_bounds-write_halves-end
slice_bounds-write_halves-end c =
    let a = c.args in
    let k = deal-known _ a.r.now.terms _ _ _ _ _ c.in_ok-check.ensures in
    let i = k.first-inside in
    let j = k.second-inside in
    search rules

pub slice_bounds-write_halves-end-2 : goal.slice_bounds-write_halves-end-2
slice_bounds-write_halves-end-2 c =
    let a = c.args in
    let k = deal-known _ a.r.now.terms _ _ _ _ _ c.in_ok-check.ensures in
    let i = k.first-inside in
    let j = k.second-inside in
    search rules

pub write_halves-read-requires : goal.write_halves-read-requires
write_halves-read-requires c =
    let a = c.args in
    let k = deal-known _ a.r.now.terms _ _ _ _ _ c.in_ok-check.ensures in
    let first = slot-part-length a.first.now a.at.size a.at.index k.first-inside in
    let second = slot-part-length a.second.now a.at.size a.at.index k.second-inside in
    let r = k.room in
    record {
      fits = r.fits;
      enough = r.enough;
      first-room = omega (arith, r.first-room, first, second);
      second-room = omega (arith, r.second-room, first, second);
    }

pub returns : goal.returns
unfolding draw_size draw_count
returns c =
    let far = c in
    let a = far.args in
    let write-halves = c.write_halves-read in
    let k = deal-known _ a.r.now.terms _ _ _ _ _ c.in_ok-check.ensures in
    let e = write-halves.ensures in
    let first = slot-part-length a.first.now a.at.size a.at.index k.first-inside in
    let second = slot-part-length a.second.now a.at.size a.at.index k.second-inside in
    let one : length write-halves.new.first ≡ a.at.size = omega (arith, first) in
    let two : length write-halves.new.second ≡ a.at.size = omega (arith, second) in
    deal-done a.first.now a.second.now a.at.size a.at.index (request_of a.r.now)
    (sym c.in_ok-check.ensures) e.value
    (half_back a.first.now _ _ a.at.size a.at.index one e.first_after) (half_back a.second.now _ _ a.at.size a.at.index two e.second_after)
