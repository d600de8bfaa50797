-- The books on the way from a fresh one: well kept, with every premise number in range; and what a record's bytes rule out. Assumes
-- nothing.
use Prim.Native.Nat.{ℕ, ◌+◌}
use mathlib.Core.Path.{◌≡◌, refl}
use mathlib.Core.List.{List}
use Rattle.std.specs.Prelude.{Option, Some, None}
use mathlib.Core.Bool.{Bool, true, false, cond}
use lib.Dec.{eqb}
use Rattle.lists.specs.Search.{Each}
use Rattle.records.specs.declared.Record.{Record}
use Rattle.records.specs.Layout.{Bytes}
use Rattle.records.specs.Records.{reading, kind_day_mark, well_formed}
use Rattle.records.proofs.Readings.{says, said_in_width}
use Rattle.premise.specs.declared.File.{File}
use Rattle.std.specs.Prelude.{Err}
use Rattle.premise.specs.declared.Refusal.TheVariants.{NotNextDay}
use Rattle.premise.specs.Steps.{is}
use Rattle.premise.specs.OnePremise.{step}
use Rattle.premise_laws.specs.Laws.{Held, KeptFor}
use Rattle.book.specs.declared.Book.{Book}
use Rattle.book.specs.Book.{files_of, book_of, with_file}
use Rattle.book.specs.Calls.{premise_state, marked_files, refusal, on_day_mark, as_one, marked_book}
use Rattle.book.specs.Laws.{BookKept}
use Rattle.demands.specs.Demand3.{Premise}
use Rattle.book.proofs.SameFiles.{with_each}
use Rattle.book.proofs.Kept.{holds_its_files}
use Rattle.book.proofs.Marks.{marked_numbers}
use Rattle.book.proofs.Keeps.{has_premise, step_kept_file}
use Rattle.book.proofs.Acts.{acted}

-- ---- a book on the way: well kept, and every premise number in range
abbrev pub InRange : List File → Type 0
InRange fs = Each (λ f. Premise f.premise) fs

pub record OnWay (b : Book) : Type 0 where
  pub kept : BookKept b
  pub ranged : InRange (files_of b)

-- ---- what a record's bytes rule out
-- of a reading: well formed, and its number in range unless it is a day mark
pub record Sound (r : Record) : Type 0 where
  pub formed : well_formed r ≡ true
  pub ranged : is kind_day_mark r ≡ false → Premise r.premise

abbrev pub SoundIn : Option Record → Type 0
SoundIn None = Unit {0}
SoundIn (Some r) = Sound r

pub sound : (bytes : List ℕ) → Bytes bytes → SoundIn (reading bytes)
sound bytes u = go (reading bytes) refl
  where
    go : (d : Option Record) → reading bytes ≡ d → SoundIn d
    go None e = tt
    go (Some r) e =
        let s = says bytes r e in
        record {
          formed = s.formed;
          ranged = λ t. record { above = has_premise r s.formed t; below = (said_in_width bytes r u s).premise };
        }

ranged_of : (today : ℕ) (fs : List File) → InRange fs → InRange (files_of (book_of today fs))
ranged_of today fs u = rw (holds_its_files today fs) u

module _ (calendar : List ℕ) (b : Book) (k : OnWay b) where
  -- ---- numbers stay in range
  ranged_one : (r : Record) → Sound r → is kind_day_mark r ≡ false → InRange (files_of (as_one calendar b r).book)
  ranged_one r s t =
      let file : Option File = (step calendar (premise_state b r.premise) r).state.file in
      ranged_of b.today (with_file r.premise file (files_of b))
      (with_each (λ f. Premise f.premise) r.premise file (files_of b) (go file (step_kept_file b k.kept calendar r s.formed))
      k.ranged)
    where
      go : (file : Option File) → Held (KeptFor r.premise) file → Held (λ f. Premise f.premise) file
      go None h = tt
      go (Some f) h = rw h.number (s.ranged t)

  ranged_mark : (r : Record) → InRange (files_of (on_day_mark calendar b r).book)
  ranged_mark r = go (eqb r.day (b.today + 1))
    where
      go : (next : Bool) → InRange (files_of (cond next (marked_book calendar b r.day) (refusal (Err NotNextDay) b)).book)
      go true = ranged_of r.day (marked_files calendar r.day (files_of b))
          (marked_numbers calendar r.day Premise (files_of b) k.kept.files k.ranged)
      go false = k.ranged

  pub ranged_acted : (d : Option Record) → SoundIn d → InRange (files_of (acted calendar b d).book)
  ranged_acted None s = k.ranged
  ranged_acted (Some r) s = go (is kind_day_mark r) refl
    where
      go : (mark : Bool) → is kind_day_mark r ≡ mark → InRange (files_of (cond mark (on_day_mark calendar b r) (as_one calendar b r)).book)
      go true t = ranged_mark r
      go false t = ranged_one r s t
