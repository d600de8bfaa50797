-- Document 02, change 10: when our tape agrees with the second supplier's, and where not.
use Rattle.std.specs.Prelude.{ℕ, min, ◌≡◌, List, [], ◌∷◌, ◌++◌, Bool, true, false, cond, not, ◌&&◌, eqb, length}
use Rattle.std.specs.Prelude.{Option, Some, None}
use Rattle.records.specs.declared.Record.{Record}
use Rattle.records.specs.Records.{reading, kind_day_mark}
use Rattle.premise.specs.Steps.{is}
use Rattle.book.specs.CallsInRow.{records_of}
use Rattle.demands.specs.Tapes.{own_of}
use Rattle.tape_agreement_rules.specs.declared.Agreement.{Agreement}
use Rattle.tape_agreement_rules.specs.declared.Agreement.TheVariants.{Same, MarksDiffer, Differ}

-- ---- what document 02 has of each answer
-- "The tool says yes" ..
unfoldable pub says_yes : Agreement → Bool
says_yes Same = true
says_yes MarksDiffer = false
says_yes (Differ premise) = false

-- .. "With a no it also gives 0 if the day marks alone differ, otherwise the smallest P at which they differ; with a yes that number is 0."
unfoldable pub number_given : Agreement → ℕ
number_given Same = 0
number_given MarksDiffer = 0
number_given (Differ premise) = premise

-- ---- a tape
-- its records of 24 bytes; a short last one is one of them, and malformed
abbrev pub records_in : List ℕ → List (List ℕ)
records_in tape = records_of (length tape) tape

-- "the well-formed records naming it together with the day marks" are those that concern a premise in demand 3: `own_of`. "the day marks by
-- themselves", also where a call would answer 15:
abbrev pub is_mark : Option Record → Bool
is_mark None = false
is_mark (Some r) = is kind_day_mark r

abbrev pub marks_of : List (List ℕ) → List (List ℕ)
marks_of [] = []
marks_of (bytes ∷ rest) = cond (is_mark (reading bytes)) (bytes ∷ marks_of rest) (marks_of rest)

-- the premises that well-formed records name
abbrev pub named : Option Record → List ℕ
named None = []
named (Some r) = cond (is kind_day_mark r) [] (r.premise ∷ [])

abbrev pub premises_of : List (List ℕ) → List ℕ
premises_of [] = []
premises_of (bytes ∷ rest) = named (reading bytes) ++ premises_of rest

-- ---- "in the same order and with the same bytes on both tapes"
-- as many elements, each the same as the other's in its place
abbrev pub same_by : {A : Type 0} → (A → A → Bool) → List A → List A → Bool
same_by same [] [] = true
same_by same [] (y ∷ ys) = false
same_by same (x ∷ xs) [] = false
same_by same (x ∷ xs) (y ∷ ys) = same x y && same_by same xs ys

abbrev pub same_bytes : List ℕ → List ℕ → Bool
same_bytes = same_by eqb

abbrev pub same_records : List (List ℕ) → List (List ℕ) → Bool
same_records = same_by same_bytes

abbrev pub differ_at : List (List ℕ) → List (List ℕ) → ℕ → Bool
differ_at ours theirs premise = not (same_records (own_of premise ours) (own_of premise theirs))

-- ---- "the smallest P at which they differ"
-- the smallest of some numbers that pass a test
abbrev pub smaller : ℕ → Option ℕ → Option ℕ
smaller n None = Some n
smaller n (Some m) = Some (min n m)

abbrev pub smallest_of : (ℕ → Bool) → List ℕ → Option ℕ
smallest_of test [] = None
smallest_of test (n ∷ ns) = cond (test n) (smaller n (smallest_of test ns)) (smallest_of test ns)

abbrev pub answer_of : Option ℕ → Agreement
answer_of None = Same
answer_of (Some premise) = Differ premise

-- A premise that neither tape names has the day marks alone, so that only those named on either can differ where the marks don't.
abbrev pub agreement_of : List (List ℕ) → List (List ℕ) → Agreement
agreement_of ours theirs =
    cond (same_records (marks_of ours) (marks_of theirs))
    (answer_of (smallest_of (differ_at ours theirs) (premises_of ours ++ premises_of theirs)))
    MarksDiffer

-- What comparing two tapes gives.
unfoldable pub agreement : List ℕ → List ℕ → Agreement
agreement ours theirs = agreement_of (records_in ours) (records_in theirs)

-- What `compare` promises of its answer.
abbrev pub Compared : List ℕ → List ℕ → Agreement → Type 0
Compared ours theirs answer = answer ≡ agreement ours theirs
