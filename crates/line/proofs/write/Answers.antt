-- `line::write` meets its contract: the message is checked, and only then stored. Assumes nothing.
use mathlib.Core.Path.{refl, sym, ap, ◌∙◌}
use Prim.Native.Nat.{ℕ}
use lib.ListN.{length}
use Rattle.std.specs.Prelude.{Ok}
use Rattle.protocol.specs.Message.{message_with, message_tests}
use Rattle.protocol.specs.Line.{message_line, write_tests, write_into}
use Rattle.judging.proofs.InOrder.{refused-by, accepted-by}
use Rattle.decimal.proofs.Exits.{err-exit}
use Rattle.line.specs.Entries.{written_reply}
use Rattle.line.proofs.Fits.{message-few, has_room}
use Rattle.line.proofs.write.Goals as goal

pub returns-in_err-check_write : goal.returns-in_err-check_write
unfolding write_into
returns-in_err-check_write c =
    let a = c.args in
    let m = message_with a.h a.residues.now in
    rw (err-exit c.from_residual.result c.from_residual.ensures.1, refused-by (write_tests (length a.out.now) m) (message_line m) (sym c.in_err-check_write.ensures))
    (record { answered = refl; contents = refl })

pub put_message-requires : goal.put_message-requires
put_message-requires c =
    let a = c.args in
    let m = message_with a.h a.residues.now in
    let e = sym c.in_ok-check_write.ensures in
    let o = has_room (message_tests m) (length (message_line m)) (length a.out.now) e in
    (message-few m o.0, o.1)

pub returns : goal.returns
unfolding write_into
returns c =
    let a = c.args in
    let m = message_with a.h a.residues.now in
    let put = c.put_message.ensures in
    let e = sym c.in_ok-check_write.ensures in
    rw (accepted-by (write_tests (length a.out.now) m) (message_line m) e)
    (record { answered = ap (λ (n : ℕ). written_reply (Ok n)) put.place; contents = put.contents })
