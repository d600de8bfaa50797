-- How long the text of a call can be, and the end's. Assumes nothing.
use Prim.Native.Nat.{ℕ, ◌+◌, ◌*◌, ◌≤◌}
use mathlib.Core.List.{List, [], ◌∷◌, map}
use native.Mathlib.Omega.{arith}
use lib.ListN.{length, length-append, length-map}
use borrow.Author.Tests.{leb-true}
use Rattle.lists.specs.Search.{Each}
use Rattle.days.specs.Days.{last_day}
use Rattle.records.specs.declared.Notice.{Notice}
use Rattle.records.specs.Layout.{Bytes}
use Rattle.records.specs.Records.{last_retailer}
use Rattle.records.specs.Notices.{decode, encode}
use Rattle.records.proofs.Notices.{encode_bytes}
use Rattle.premise.specs.declared.File.{File}
use Rattle.std.specs.Prelude.{Ok, Err}
use Rattle.premise.specs.Refusals.{Answer}
use Rattle.premise.specs.declared.Refusal.TheVariants.{ShortBuffer, NotWellKept, MalformedRecord, NoSuchPremise, OtherAgreement, PremiseHeld}
use Rattle.premise.specs.declared.Refusal.TheVariants.{BookFull, OrderOpen, ReferenceHeld, DayOutOfRange, NoSwitchDate, NotFirstIn}
use Rattle.premise.specs.declared.Refusal.TheVariants.{RetailerShareFull, StackFull, NoSuchOrder, StatusNotTaken, CounterNotAbove, OrderInWindow}
use Rattle.premise.specs.declared.Refusal.TheVariants.{NotNextDay}
use Rattle.premise.specs.Refusals.{number}
use Rattle.premise.specs.WellKept.{FileKept}
use Rattle.book.specs.Book.{files_of}
use Rattle.book.specs.Calls.{Result}
use Rattle.book.proofs.Kept.{count_is, book_kept_means}
use Rattle.tape_text.specs.Text.{record_line, notice_line, file_line, total_line}
use Rattle.tape_output.specs.Lengths.{last_answer, most_notices, record_line_most, notice_line_most, file_line_most}
use Rattle.tape_output.proofs.LineLengths.{record_line_lem, notice_line_of, file_line_lem, total_line_lem}
use Rattle.tape_reader.specs.Counts.{most_records}
use Rattle.tape_output.specs.declared.Playing.{Playing}
use Rattle.tape_output.specs.Output.{row_lines, result_text, file_lines, ending}
use Rattle.tape_output.specs.Stretches.{ending_most, Ready}

-- ---- a record's line
pub number_most : (answer : Answer) → number answer ≤ last_answer
unfolding number
number_most (Ok tt) = omega arith
number_most (Err ShortBuffer) = omega arith
number_most (Err NotWellKept) = omega arith
number_most (Err MalformedRecord) = omega arith
number_most (Err NoSuchPremise) = omega arith
number_most (Err OtherAgreement) = omega arith
number_most (Err PremiseHeld) = omega arith
number_most (Err BookFull) = omega arith
number_most (Err OrderOpen) = omega arith
number_most (Err ReferenceHeld) = omega arith
number_most (Err DayOutOfRange) = omega arith
number_most (Err NoSwitchDate) = omega arith
number_most (Err NotFirstIn) = omega arith
number_most (Err RetailerShareFull) = omega arith
number_most (Err StackFull) = omega arith
number_most (Err NoSuchOrder) = omega arith
number_most (Err StatusNotTaken) = omega arith
number_most (Err CounterNotAbove) = omega arith
number_most (Err OrderInWindow) = omega arith
number_most (Err NotNextDay) = omega arith

-- ---- the lines of notices: rows of bytes
encoded_bytes : (xs : List Notice) → Each Bytes (map encode xs)
encoded_bytes [] = tt
encoded_bytes (x ∷ xs) = (encode_bytes x, encoded_bytes xs)

row_lines_most : (rs : List (List ℕ)) → Each Bytes rs → length (row_lines rs) ≤ notice_line_most * length rs
row_lines_most [] b = omega arith
row_lines_most (r ∷ rs) b =
    omega (arith, length-append (notice_line (decode r)) (row_lines rs), notice_line_of r b.0, row_lines_most rs b.1)

-- ---- the text of a call
pub result_text_most : (place : ℕ) (x : Result) → place ≤ most_records → length x.notices ≤ most_notices
    → length (result_text place x) ≤ record_line_most + notice_line_most * length x.notices
result_text_most place x left few =
    let answer = number x.answer in
    let notices = x.notices in
    omega (
      arith,
      length-append (record_line place answer (length notices)) (row_lines (map encode notices)),
      record_line_lem place answer (length notices) left (number_most x.answer) few,
      row_lines_most (map encode notices) (encoded_bytes notices),
      length-map notices encode,
    )

-- ---- the end
file_lines_most : (fs : List File) → Each FileKept fs → length (file_lines fs) ≤ file_line_most * length fs
file_lines_most [] k = omega arith
file_lines_most (f ∷ fs) k =
    omega (
      arith,
      length-append (file_line f.premise f.retailer f.since) (file_lines fs),
      file_line_lem f.premise f.retailer f.since
          (leb-true f.retailer last_retailer k.0.retailer)
          (omega (arith, leb-true f.since last_day k.0.since)),
      file_lines_most fs k.1,
    )

pub ending_most_lem : (p : Playing) → Ready p → length (ending p) ≤ ending_most
unfolding ending
ending_most_lem p ready =
    let k = (book_kept_means p.book).0 ready.kept in
    omega (
      arith,
      length-append (file_lines (files_of p.book)) (total_line p.reader.accepted p.reader.refused),
      file_lines_most (files_of p.book) k.files,
      count_is p.book k.tidy,
      k.tidy.few,
      total_line_lem p.reader.accepted p.reader.refused (omega (arith, ready.sound, ready.within))
          (omega (arith, ready.sound, ready.within)),
    )
