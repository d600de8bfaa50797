-- Document 01, "The tape program": the lines that it prints, as bytes. Numbers in base ten.
use Rattle.std.specs.Prelude.{ℕ, List, [], ◌∷◌, ◌++◌}
use Rattle.records.specs.declared.Notice.{Notice}
use Rattle.tape_text.specs.Numbers.{decimal, spaced, lettered}

-- Lines: place from 1, answer, n.
unfoldable pub record_line : ℕ → ℕ → ℕ → List ℕ
record_line place answer n = decimal place ++ spaced (answer ∷ n ∷ [])

-- Per notice `n` code K day F P addressee.
unfoldable pub notice_line : Notice → List ℕ
notice_line x = lettered 110 (x.code ∷ x.kind ∷ x.day ∷ x.reference ∷ x.premise ∷ x.addressee ∷ [])

-- At the end per file `p` P R S ..
unfoldable pub file_line : ℕ → ℕ → ℕ → List ℕ
file_line premise retailer since = lettered 112 (premise ∷ retailer ∷ since ∷ [])

-- .. then `t` accepted refused.
unfoldable pub total_line : ℕ → ℕ → List ℕ
total_line accepted refused = lettered 116 (accepted ∷ refused ∷ [])
