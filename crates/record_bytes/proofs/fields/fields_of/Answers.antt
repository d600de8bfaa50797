-- `fields_of` meets its contract: each field is read from its bytes.
use Prim.Native.Nat.{ℕ, ◌<◌}
use native.Mathlib.Omega.{arith}
use mathlib.Core.Path.{◌≡◌, sym}
use mathlib.Core.List.{List}
use lib.ListN.{length, take, drop, get_or}
use lib.Seq.{drop-cons}
use Rattle.records.specs.Layout.{number, field_of}
use Rattle.record_bytes.proofs.fields.fields_of.Goals as goal

-- the number in one byte is that byte
read_one : (bytes : List ℕ) (from : ℕ) → from < length bytes → number (take 1 (drop from bytes)) ≡ get_or bytes from 0
read_one bytes from h = rw (drop-cons bytes from 0 h) (omega arith)

pub returns : goal.returns
unfolding field_of
returns c =
    let bytes = c.args.bytes.now in
    let kind = read_one bytes 0 (omega arith) in
    let detail = read_one bytes 1 (omega arith) in
    λ i. record {
      kind = sym kind i;
      detail = sym detail i;
      day = c.two.ensures i;
      reference = c.four.ensures i;
      premise = c.eight.ensures i;
      retailer = c.eight-2.ensures i;
    }
