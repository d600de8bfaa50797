-- How long a line can be, as statements; proofs/LineLengths.antt proves them. With them a caller lends a fixed room instead of asking
-- each text's own length.
use Rattle.std.specs.Prelude.{ℕ, ◌≤◌, ◌<◌, length}
use Rattle.records.specs.declared.Notice.{Notice}
use Rattle.records.specs.Notices.{FitsFields}
use Rattle.records.specs.Records.{last_retailer}
use Rattle.tape_reader.specs.Counts.{most_records}
use Rattle.tape_text.specs.Text.{record_line, notice_line, file_line, total_line}

-- the last number of the table of answers
abbrev pub last_answer : ℕ
last_answer = 26

-- a call gives at most so many notices
abbrev pub most_notices : ℕ
most_notices = 1024

abbrev pub record_line_most : ℕ
record_line_most = 13

abbrev pub RecordLine : Type 0
RecordLine = (place answer n : ℕ) → place ≤ most_records → answer ≤ last_answer → n ≤ most_notices
    → length (record_line place answer n) ≤ record_line_most

abbrev pub notice_line_most : ℕ
notice_line_most = 69

abbrev pub NoticeLine : Type 0
NoticeLine = (x : Notice) → FitsFields x → length (notice_line x) ≤ notice_line_most

abbrev pub file_line_most : ℕ
file_line_most = 43

-- whatever the premise's number, since it has at most 20 digits
abbrev pub FileLine : Type 0
FileLine = (premise retailer since : ℕ) → retailer ≤ last_retailer → since < 65536 → length (file_line premise retailer since) ≤ file_line_most

abbrev pub total_line_most : ℕ
total_line_most = 12

abbrev pub TotalLine : Type 0
TotalLine = (accepted refused : ℕ) → accepted ≤ most_records → refused ≤ most_records → length (total_line accepted refused) ≤ total_line_most
