-- What is printed of a run, by what stands in its messages' and shares' words. Assumes nothing.
use Rattle.std.specs.Prelude.{ℕ, List, ◌++◌}
use Rattle.protocol.specs.declared.Head.{Head}
use Rattle.protocol.specs.Message.{message_with}
use Rattle.protocol.specs.Ascii.{ascii}
use Rattle.protocol.specs.Line.{line}
use Rattle.protocol.specs.Rehearsal.{Run}

-- bytes enough for all that is printed: 2,048 and 3,072 residues with seven numbers before them, and two shares of 1,024 with their names
abbrev pub MOST : ℕ
MOST = 81920

-- the shares, each behind its end's name
abbrev pub shares_lines : (left right : List ℕ) → List ℕ
shares_lines l r = (ascii "left," ++ line l) ++ (ascii "right," ++ line r)

abbrev pub run_of : Head → (y1 : List ℕ) → Head → (x1r1 left right : List ℕ) → Run
run_of one y1 two x1r1 l r = record { one = message_with one y1; two = message_with two x1r1; left_share = l; right_share = r }
