-- Lines that document 01 prints for its own tape, as bytes: the definitions compute to them. Assumes nothing.
use mathlib.Core.Path.{◌≡◌, refl}
use mathlib.Core.List.{[], ◌∷◌}
use Rattle.records.specs.declared.Notice.{Notice}
use Rattle.tape_text.specs.Numbers.{decimal}
use Rattle.tape_text.specs.Text.{record_line, notice_line, file_line, total_line}

-- 1 0 0
first_record : record_line 1 0 0 ≡ 49 ∷ 32 ∷ 48 ∷ 32 ∷ 48 ∷ 10 ∷ []
unfolding record_line decimal
first_record = refl

abbrev scheduled : Notice
scheduled = record { code = 3; kind = 3; day = 0; reference = 1; premise = 7; addressee = 202 }

-- n 3 3 0 1 7 202
scheduled_notice : notice_line scheduled ≡ 110 ∷ 32 ∷ 51 ∷ 32 ∷ 51 ∷ 32 ∷ 48 ∷ 32 ∷ 49 ∷ 32 ∷ 55 ∷ 32 ∷ 50 ∷ 48 ∷ 50 ∷ 10 ∷ []
unfolding notice_line decimal
scheduled_notice = refl

-- p 7 202 0
only_file : file_line 7 202 0 ≡ 112 ∷ 32 ∷ 55 ∷ 32 ∷ 50 ∷ 48 ∷ 50 ∷ 32 ∷ 48 ∷ 10 ∷ []
unfolding file_line decimal
only_file = refl

-- t 4 0
last_line_lem : total_line 4 0 ≡ 116 ∷ 32 ∷ 52 ∷ 32 ∷ 48 ∷ 10 ∷ []
unfolding total_line decimal
last_line_lem = refl

-- no line of that tape has a number that reads otherwise from its end: 2730 12 1024
latest_record : record_line 2730 12 1024 ≡ 50 ∷ 55 ∷ 51 ∷ 48 ∷ 32 ∷ 49 ∷ 50 ∷ 32 ∷ 49 ∷ 48 ∷ 50 ∷ 52 ∷ 10 ∷ []
unfolding record_line decimal
latest_record = refl

-- the longest number of 64 bits
longest_number : decimal 18446744073709551615 ≡ 49 ∷ 56 ∷ 52 ∷ 52 ∷ 54 ∷ 55 ∷ 52 ∷ 52 ∷ 48 ∷ 55 ∷ 51 ∷ 55 ∷ 48 ∷ 57 ∷ 53 ∷ 53 ∷ 49 ∷ 54 ∷ 49
    ∷ 53 ∷ []
unfolding decimal
longest_number = refl
