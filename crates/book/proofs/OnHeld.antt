-- A record of kinds 3 to 9, 11 or 12 on a premise whose file stands at a place of a well_kept book: the call is the one-premise rules' step
-- on that file, and stores the file that is left at that place. Assumes nothing.
use Prim.Native.Nat.{ℕ, ◌≤◌, ◌<◌}
use mathlib.Core.Path.{◌≡◌, sym, ap, subst, ◌∙◌}
use mathlib.Core.List.{List}
use Rattle.std.specs.Prelude.{Option, Some}
use mathlib.Core.Bool.{Bool, false, cond}
use native.Mathlib.Omega.{arith}
use lib.ListN.{length, get_or}
use lib.Seq.{get_or-take}
use Rattle.records.specs.declared.Record.{Record}
use Rattle.records.specs.Records.{reading, kind_day_mark}
use Rattle.records.proofs.Readings.{says}
use Rattle.premise.specs.declared.File.{File}
use Rattle.premise.specs.Steps.{is}
use Rattle.premise.specs.OnePremise.{Given, step, given_on}
use Rattle.premise_laws.specs.Laws.{Held, KeptFor}
use Rattle.book.specs.declared.Book.{Book}
use Rattle.book.specs.Book.{files_of, book_of, book_kept, file_for, put_in, with_file}
use Rattle.book.specs.Calls.{notice_bytes, premise_state, Result, call, meets_row6, on_day_mark, as_one, in_book}
use Rattle.book.specs.Laws.{BookKept, OnHeld, with_file_at, CallOnHeld}
use Rattle.book.proofs.Files.{Rising, rises_rising}
use Rattle.book.proofs.FilesPut.{found_at, put_at_lem}
use Rattle.book.proofs.Kept.{count_is, stored, book_kept_means}
use Rattle.book.proofs.Keeps.{step_kept_file, call_keeps}
use Rattle.book.proofs.Acts.{acted, call_acts}
use Rattle.book.proofs.Rows.{not_new}
use Rattle.premise.proofs.KindsOf.{needs_no_mark}

module _ (calendar : List ℕ) (b : Book) (bytes lent : List ℕ) (r : Record) (at : ℕ) (past g : File) (k : BookKept b)
    (room : notice_bytes ≤ length lent)
    (e : reading bytes ≡ Some r) (h : OnHeld b at past r)
    (left : (given_on calendar b.today (Some (get_or b.files at past)) r).state.file ≡ Some g) where
  abbrev ruled : Given
  ruled = given_on calendar b.today (Some (get_or b.files at past)) r

  not_mark : is kind_day_mark r ≡ false
  not_mark = needs_no_mark r h.kind.needs

  rising : Rising 0 (files_of b)
  rising = rises_rising 0 (files_of b) k.rising

  inside : at < length (files_of b)
  inside = omega (arith, h.within, count_is b k.tidy)

  -- the file at the place is the premise's
  read_there : get_or (files_of b) at past ≡ get_or b.files at past
  read_there = get_or-take b.count b.files at past h.within

  own : (get_or (files_of b) at past).premise ≡ r.premise
  own = ap (λ (f : File). f.premise) read_there ∙ h.own

  found : file_for r.premise (files_of b) ≡ Some (get_or b.files at past)
  found = found_at past r.premise 0 (files_of b) rising at inside own ∙ ap Some read_there

  given : step calendar (premise_state b r.premise) r ≡ ruled
  given = ap (λ (x : Option File). given_on calendar b.today x r) found

  kept_file : KeptFor r.premise g
  kept_file = subst (Held (KeptFor r.premise)) (ap (λ (x : Given). x.state.file) given ∙ left)
      (step_kept_file b k calendar r (says bytes r e).formed)

  -- it is put in over the old one
  put_there : book_of b.today (put_in g (files_of b)) ≡ with_file_at b at g
  put_there = ap (book_of b.today) (put_at_lem past g 0 (files_of b) rising at inside (own ∙ sym kept_file.number))
      ∙ stored b k.tidy at g h.within

  abbrev Expected : Result
  Expected = record { answer = ruled.answer; notices = ruled.notices; book = with_file_at b at g }

  result : call calendar b bytes lent ≡ Expected
  result =
      call_acts calendar b bytes lent k room (ap (meets_row6 b) e ∙ not_new b r (get_or b.files at past) found) ∙ ap (acted calendar b) e
      ∙ ap (λ (a : Bool). cond a (on_day_mark calendar b r) (as_one calendar b r)) not_mark
      ∙ ap (in_book b r.premise) given
      ∙ ap {B = Result} (λ (c : Book). record { answer = ruled.answer; notices = ruled.notices; book = c })
      (ap (λ (x : Option File). book_of b.today (with_file r.premise x (files_of b))) left ∙ put_there)

pub call_on_held : CallOnHeld
call_on_held calendar b bytes lent r at past g well room e h left =
    let k = (book_kept_means b).0 well in
    let same = result calendar b bytes lent r at past g k room e h left in
    record {
      result = same;
      file = kept_file calendar b bytes lent r at past g k room e h left;
      book = sym (ap (λ (x : Result). book_kept x.book) same) ∙ call_keeps calendar b bytes lent well;
    }
