-- Dealing on copies of the words that are looked at.
--   part_words         these words of a pool's bytes
--   raw_for, read_for   the raw words that are handed on, and how many of all are read
--   copied            what is left of both pools' bytes, and the answer
--   told              the same with the entry's report
--   SiftedFor         what the code knows of the raw words
-- Assumes nothing.
use Rattle.std.specs.Prelude.{◌≡◌, cond, List, [], ℕ, ◌*◌, ◌≤◌, eqb, take, drop}
use Rattle.algebra.specs.Words.{written_at}
use Rattle.protocol.specs.declared.Terms.{Terms}
use Rattle.protocol.specs.Answer.{Answer}
use Rattle.std.specs.Prelude.{Ok, Err}
use Rattle.protocol.specs.Judge.{Judged, refused, done}
use Rattle.protocol.specs.Bounds.{Sort}
use Rattle.protocol.specs.Drawing.{words_read}
use Rattle.protocol.specs.Step.{answer_reply}
use Rattle.protocol.specs.Deal.{Dealt, deal}
use Rattle.entry.specs.declared.Report.{Report}
use Rattle.entry.specs.Bytes.{words_of, bytes_of}
use Rattle.entry.specs.Entry.{Dealing, refusal_report}
use Rattle.drawing.specs.declared.Sifted.{Sifted}
use Rattle.drawing.specs.Sift.{kept_words}
use Rattle.dealer.specs.Sorts.{draw_count, request}
use Rattle.dealer.specs.Dealt.{Pools}
use Rattle.host_deal.specs.declared.part.Part.{Part}

unfoldable pub part_words : Part → (bytes : List ℕ) → List ℕ
part_words at bytes = take at.size (drop at.from (words_of bytes))

-- those that are kept, as many as are drawn; none where no word of a slot is looked at
unfoldable pub raw_for : Sort → Terms → (size : ℕ) → (words : List ℕ) → List ℕ
raw_for s t size words = cond (eqb size 0) [] (take (draw_count s t.m t.k t.p) (kept_words t.q words))

unfoldable pub read_for : Sort → Terms → (size : ℕ) → (words : List ℕ) → ℕ
read_for s t size words = cond (eqb size 0) 0 (words_read t.q (draw_count s t.m t.k t.p) words)

-- dealing into pools of one slot, with these words
unfoldable pub dealt_copies : Part → Sort → Terms → (first second words : List ℕ) → Judged Dealt
dealt_copies at s t first second words = deal (part_words at first) (part_words at second) at.size 0 (request s t words)

-- from the bytes of both pools as they were
abbrev pub back : Part → (first second : List ℕ) → Judged Dealt → Pools
back at first second (refused r) = record { answer = answer_reply (Err r); first = first; second = second }
back at first second (done d) = record {
  answer = answer_reply (Ok d.read);
  first = written_at (at.from * 4) (bytes_of d.first) first;
  second = written_at (at.from * 4) (bytes_of d.second) second;
}

unfoldable pub copied : Part → Sort → Terms → (first second words : List ℕ) → Pools
copied at s t first second words = back at first second (dealt_copies at s t first second words)

abbrev pub report_of : Answer → (read : ℕ) → Report
report_of (Ok n) read = record { number = 0; read = read; bytes = 0 }
report_of (Err r) read = refusal_report r

-- of all raw words `read` were read
abbrev pub reported : Part → (read : ℕ) → (first second : List ℕ) → Judged Dealt → Dealing
reported at read first second (refused r) = record { report = refusal_report r; first = first; second = second }
reported at read first second (done d) = record {
  report = record { number = 0; read = read; bytes = 0 };
  first = written_at (at.from * 4) (bytes_of d.first) first;
  second = written_at (at.from * 4) (bytes_of d.second) second;
}

unfoldable pub told : Part → Sort → Terms → (first second words : List ℕ) → Dealing
told at s t first second words =
    reported at (read_for s t at.size words) first second (dealt_copies at s t first second (raw_for s t at.size words))

-- of a slice that had room for them
pub record SiftedFor (s : Sort) (t : Terms) (size : ℕ) (words out : List ℕ) (r : Sifted) : Type 0 where
  pub few : r.kept ≤ 5120
  pub kept : take r.kept out ≡ raw_for s t size words
  pub read : r.read ≡ read_for s t size words
