-- How long the lines can be: each number of a line below a power of ten has at most so many digits. Assumes nothing.
use Prim.Native.Nat.{ℕ, ◌+◌, ◌≤◌}
use mathlib.Core.Path.{◌≡◌}
use mathlib.Core.List.{List, [], ◌∷◌}
use native.Mathlib.Omega.{arith}
use lib.ListN.{length, length-append}
use Rattle.records.specs.Layout.{Bytes}
use Rattle.records.specs.Notices.{decode}
use Rattle.records.proofs.Decode.{decode_fits}
use Rattle.tape_text.specs.Numbers.{decimal, spaced}
use Rattle.tape_text.proofs.Digits.{decimal_within, decimal_below}
use Rattle.tape_text.proofs.Lengths.{spaced_more}
use Rattle.tape_text.specs.Text.{record_line, notice_line, file_line, total_line}
use Rattle.tape_output.specs.Lengths.{notice_line_most, RecordLine, NoticeLine, FileLine, TotalLine}

record_length_lem : (place answer n : ℕ)
    → length (record_line place answer n) ≡ length (decimal place) + length (decimal answer) + length (decimal n) + 3
unfolding record_line
record_length_lem place answer n =
    omega (arith, length-append (decimal place) (spaced (answer ∷ n ∷ [])), spaced_more answer (n ∷ []), spaced_more n [])

pub record_line_lem : RecordLine
record_line_lem place answer n p a m =
    omega (
      arith,
      record_length_lem place answer n,
      decimal_below 3 place (omega arith),
      decimal_below 1 answer (omega arith),
      decimal_below 3 n
          (omega arith),
    )

pub notice_line_lem : NoticeLine
unfolding notice_line
notice_line_lem x fits =
    omega (
      arith,
      spaced_more x.code (x.kind ∷ x.day ∷ x.reference ∷ x.premise ∷ x.addressee ∷ []),
      spaced_more x.kind (x.day ∷ x.reference ∷ x.premise ∷ x.addressee ∷ []),
      spaced_more x.day (x.reference ∷ x.premise ∷ x.addressee ∷ []),
      spaced_more x.reference (x.premise ∷ x.addressee ∷ []),
      spaced_more x.premise (x.addressee ∷ []),
      spaced_more x.addressee [],
      decimal_below 2 x.code (omega (arith, fits.code)),
      decimal_below 2 x.kind (omega (arith, fits.kind)),
      decimal_below 4 x.day (omega (arith, fits.day)),
      decimal_below 9 x.reference (omega (arith, fits.reference)),
      decimal_within x.premise,
      decimal_within x.addressee,
    )

-- what is read from bytes fits its fields
pub notice_line_of : (bytes : List ℕ) → Bytes bytes → length (notice_line (decode bytes)) ≤ notice_line_most
notice_line_of bytes b = notice_line_lem (decode bytes) (decode_fits bytes b)

pub file_line_lem : FileLine
unfolding file_line
file_line_lem premise retailer since r s =
    omega (
      arith,
      spaced_more premise (retailer ∷ since ∷ []),
      spaced_more retailer (since ∷ []),
      spaced_more since [],
      decimal_within premise,
      decimal_below 12 retailer (omega arith),
      decimal_below 4 since (omega arith),
    )

pub total_line_lem : TotalLine
unfolding total_line
total_line_lem accepted refused a r =
    omega (
      arith,
      spaced_more accepted (refused ∷ []),
      spaced_more refused [],
      decimal_below 3 accepted (omega arith),
      decimal_below 3 refused (omega arith),
    )
