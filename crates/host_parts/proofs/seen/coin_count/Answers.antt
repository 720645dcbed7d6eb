-- `host_parts::seen::coin_count` meets its contract. Assumes nothing.
use Rattle.host_parts.proofs.Looked.{role-fits, coins-out, coins-left, blinder-fits, coins-blinder, coins-none}
use native.Mathlib.Omega.{arith}
use Rattle.judging.proofs.Flags.{fails, holds}
use Rattle.host_parts.proofs.seen.coin_count.Goals as goal

pub returns-then-not-sides_fit : goal.returns-then-not-sides_fit
returns-then-not-sides_fit c =
    let a = c.args in
    coins-out a.end a.t (fails (role-fits a.end c.end_of.result a.t c.end_of.ensures c.sides_fit.ensures) c.if-not-sides_fit.true)

pub returns-in-1 : goal.returns-in-1
returns-in-1 c =
    let a = c.args in
    coins-left a.end a.t (holds (role-fits a.end c.end_of.result a.t c.end_of.ensures c.sides_fit.ensures) c.if-not-sides_fit.false)
    c.in-1.is c.times.ensures

pub scratch_size-requires : goal.scratch_size-requires
scratch_size-requires c =
    let a = c.args in
    blinder-fits a.end a.t (holds (role-fits a.end c.end_of.result a.t c.end_of.ensures c.sides_fit.ensures) c.if-not-sides_fit.false)
    c.in-3.is

pub returns-in-3 : goal.returns-in-3
returns-in-3 c =
    let a = c.args in
    coins-blinder a.end a.t (holds (role-fits a.end c.end_of.result a.t c.end_of.ensures c.sides_fit.ensures) c.if-not-sides_fit.false)
    c.in-3.is c.scratch_size.ensures

pub returns-in_default : goal.returns-in_default
returns-in_default c =
    let a = c.args in
    coins-none a.end a.t (holds (role-fits a.end c.end_of.result a.t c.end_of.ensures c.sides_fit.ensures) c.if-not-sides_fit.false)
    (omega arith) (omega arith)
