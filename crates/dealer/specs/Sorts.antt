-- The sorts as the code names them, what is drawn for each, and a request over terms, and as the code has it. Assumes nothing.
use Rattle.std.specs.Prelude.{List, ℕ, ◌+◌, ◌*◌}
use Rattle.algebra.specs.Count.{total}
use Rattle.protocol.specs.declared.Terms.{Terms}
use Rattle.protocol.specs.Bounds as bounds
use Rattle.protocol.specs.Deal.{Request, draw_layout}
use Rattle.dealer.specs.declared.request.Request as code
use Rattle.dealer.specs.declared.sort.Sort.{Sort}
use Rattle.dealer.specs.declared.sort.Sort.TheVariants.{Product, System}

abbrev pub sort : Sort → bounds.Sort
sort Product = bounds.product
sort System = bounds.system

-- how many residues X0, Y0 and A0 have
abbrev pub masks_count : (m k p : ℕ) → ℕ
masks_count m k p = m * k + (k * p + m * p)

-- how many residues are drawn
unfoldable pub draw_count : bounds.Sort → (m k p : ℕ) → ℕ
draw_count s m k p = total (draw_layout s m k p)

-- the terms' session number is of no account
abbrev pub request : bounds.Sort → Terms → List ℕ → Request
request s t words = record { sort = s; tape = t.tape; q = t.q; m = t.m; k = t.k; p = t.p; words = words }

abbrev pub request_of : code.Request → Request
request_of r = request (sort r.sort) r.terms r.words.now
