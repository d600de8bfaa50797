-- A day mark on a list of files: each is left well kept and under its number, so that the list rises as before; the notices stand in the
-- files' order. Assumes nothing.
use Prim.Native.Nat.{ℕ}
use mathlib.Core.Path.{◌≡◌, refl, sym, ap, ◌∙◌}
use mathlib.Core.List.{List, [], ◌∷◌, ◌++◌, append_assoc}
use Rattle.std.specs.Prelude.{Some}
use mathlib.Core.Bool.{Bool, true, false, cond}
use lib.Dec.{eqb}
use Rattle.lists.specs.Search.{Each}
use Rattle.records.specs.declared.Notice.{Notice}
use Rattle.premise.specs.declared.File.{File}
use Rattle.premise.specs.WellKept.{FileKept}
use Rattle.premise.specs.OnePremise.{State, marked}
use Rattle.premise.specs.Laws.{marked_or}
use Rattle.premise_laws.specs.Laws.{KeptFor}
use Rattle.premise_laws.proofs.KeptPasses.{mark_keeps}
use Rattle.book.specs.Book.{file_for}
use Rattle.book.specs.Calls.{marked_files, marked_notices}
use Rattle.book.specs.Laws.{MarkTellsInOrder}
use Rattle.book.proofs.Files.{Rising}

module _ (calendar : List ℕ) (day : ℕ) where
  pub marked_one : (f : File) → FileKept f → KeptFor f.premise (marked calendar day f).file
  marked_one f k = mark_keeps calendar day f f.premise (record { number = refl; kept = k })

  -- the file found afterwards is the one found before, marked
  pub marked_state : (premise : ℕ) (fs : List File) → Each FileKept fs
      → ◌≡◌ {A = State} (record { today = day; file = file_for premise (marked_files calendar day fs) })
      (marked_or calendar day (file_for premise fs)).state
  unfolding file_for
  marked_state premise [] u = refl
  marked_state premise (f ∷ fs) u =
      ap (λ n. found (eqb n premise)) (marked_one f u.0).number ∙ go (eqb f.premise premise) (marked_state premise fs u.1)
    where
      -- what is found, by whether the first file is the one
      found : Bool → State
      found a = record { today = day; file = cond a (Some (marked calendar day f).file) (file_for premise (marked_files calendar day fs)) }

      go : (a : Bool)
          → ◌≡◌ {A = State} (record { today = day; file = file_for premise (marked_files calendar day fs) })
          (marked_or calendar day (file_for premise fs)).state
          → found a ≡ (marked_or calendar day (cond a (Some f) (file_for premise fs))).state
      go true ih = refl
      go false ih = ih

  pub marked_each : (fs : List File) → Each FileKept fs → Each FileKept (marked_files calendar day fs)
  marked_each [] u = tt
  marked_each (f ∷ fs) u = ((marked_one f u.0).kept, marked_each fs u.1)

  -- what holds of the numbers
  pub marked_numbers : (In : ℕ → Type 0) (fs : List File) → Each FileKept fs → Each (λ f. In f.premise) fs
      → Each (λ f. In f.premise) (marked_files calendar day fs)
  marked_numbers In [] u v = tt
  marked_numbers In (f ∷ fs) u v = (rw (marked_one f u.0).number v.0, marked_numbers In fs u.1 v.1)

  pub marked_rising : (n : ℕ) (fs : List File) → Each FileKept fs → Rising n fs → Rising n (marked_files calendar day fs)
  marked_rising n [] u r = tt
  marked_rising n (f ∷ fs) u r = rw (marked_one f u.0).number (r.0, marked_rising f.premise fs u.1 r.1)

pub mark_tells_in_order : MarkTellsInOrder
mark_tells_in_order calendar day [] others = refl
mark_tells_in_order calendar day (f ∷ fs) others =
    ap (λ (l : List Notice). (marked calendar day f).notices ++ l) (mark_tells_in_order calendar day fs others)
    ∙ sym (append_assoc (marked calendar day f).notices (marked_notices calendar day fs) (marked_notices calendar day others))
