-- What the tape program prints is what record calls gave, one for each record of the tape. Assumes nothing.
use Prim.Native.Nat.{ℕ, ◌+◌, ◌≤◌}
use mathlib.Core.Path.{◌≡◌, refl, sym, ap, ap₂, ◌∙◌}
use mathlib.Core.List.{List, [], ◌∷◌, ◌++◌, append_assoc}
use lib.ListN.{length, take}
use Rattle.lists.specs.Search.{Each}
use Rattle.records.specs.Notices.{Emits, rows}
use Rattle.records.proofs.Emits.{emits_as, emits_rows}
use Rattle.premise.specs.Refusals.{number}
use Rattle.book.specs.Book.{fresh_book}
use Rattle.book.specs.Calls.{Result, notice_bytes}
use Rattle.book.specs.CallsInRow.{records_of, called}
use Rattle.book.specs.Promise.{Promised}
use Rattle.book.proofs.CallsInRow.{called_lent}
use Rattle.demands.specs.Demand3.{Made, Played}
use Rattle.demands.specs.Sample.{plays}
use Rattle.demands.specs.Tapes.{tape_of}
use Rattle.demands.proofs.ByDefinition.{promised, fed_to, rooms}
use Rattle.tape_text.specs.Text.{record_line}
use Rattle.tape_reader.specs.Counts.{most_records, counted}
use Rattle.tape_reader.proofs.Counts.{counted_place}
use Rattle.tape_output.specs.declared.Playing.{Playing}
use Rattle.tape_output.specs.Output.{calendar_most, tape_most, starting, played_on, record_text, row_lines, ending, printed}
use Rattle.tape_output.specs.TapeIsCalls.{calls_text, after_calls, TapeIsCalls, CallsCanBeMade}

-- one call: the record's text, and the tape after it, are what it gave
module _ (calendar : List ℕ) (p : Playing) (m : Made)
    (kept-promise : Promised calendar p.book m.bytes m.lent m.reply m.after) (long : notice_bytes ≤ length m.lent) where
  same : Rattle.book.specs.Calls.call calendar p.book m.bytes m.lent ≡ called calendar p.book m.bytes
  same = called_lent calendar p.book m.bytes m.lent long

  answer_is : m.reply.answer ≡ (called calendar p.book m.bytes).answer
  answer_is = kept-promise.answer ∙ ap (λ (x : Result). x.answer) same

  book_is : m.reply.book ≡ (called calendar p.book m.bytes).book
  book_is = kept-promise.book ∙ ap (λ (x : Result). x.book) same

  emitted : Emits m.lent m.after m.reply.sent (called calendar p.book m.bytes).notices
  emitted = emits_as (ap (λ (x : Result). x.notices) same) kept-promise.notices

  pub call_text : record_text calendar p m.bytes
      ≡ record_line (p.reader.place + 1) (number m.reply.answer) m.reply.sent ++ row_lines (rows m.reply.sent m.after)
  unfolding record_text
  call_text =
      sym (λ i. record_line (p.reader.place + 1) (number (answer_is i)) (emitted.count i) ++ row_lines (emits_rows emitted i))

  pub call_plays : played_on calendar p m.bytes
      ≡ record { reader = counted p.reader (number m.reply.answer); book = m.reply.book }
  call_plays = sym (λ i. record { reader = counted p.reader (number (answer_is i)); book = book_is i })

calls_printed : (calendar : List ℕ) (p : Playing) (ms : List Made) → Played calendar p.book ms
    → Each (λ (m : Made). notice_bytes ≤ length m.lent) ms
    → printed calendar p (tape_of ms) ≡ calls_text p.reader.place ms ++ ending (after_calls p ms)
calls_printed calendar p [] played long = refl
calls_printed calendar p (m ∷ ms) played long =
    let on : Playing = record { reader = counted p.reader (number m.reply.answer); book = m.reply.book } in
    let line = record_line (p.reader.place + 1) (number m.reply.answer) m.reply.sent in
    let listed = row_lines (rows m.reply.sent m.after) in
    let rest = calls_printed calendar on ms played.1 long.1 in
    let place = counted_place p.reader (number m.reply.answer) in
    let end = ending (after_calls p (m ∷ ms)) in
    ap₂ (λ (l : List ℕ) (q : Playing). l ++ printed calendar q (tape_of ms)) (call_text calendar p m played.0 long.0)
    (call_plays calendar p m played.0 long.0)
    ∙ ap (λ (l : List ℕ). (line ++ listed) ++ l) (rest ∙ ap (λ (n : ℕ). calls_text n ms ++ end) place)
    ∙ sym (append_assoc (line ++ listed) (calls_text (p.reader.place + 1) ms) end)

pub tape_is_calls : TapeIsCalls
tape_is_calls calendar tape ms calls =
    ap (printed (take calendar_most calendar) starting) (sym calls.fed)
    ∙ calls_printed (take calendar_most calendar) starting ms calls.played calls.room

pub calls_can_be_made : CallsCanBeMade
calls_can_be_made calendar tape =
    let days = take calendar_most calendar in
    let records = records_of most_records (take tape_most tape) in (
      plays days (fresh_book 0) records,
      record {
        played = promised days (fresh_book 0) records;
        room = rooms days (fresh_book 0) records;
        fed = fed_to days (fresh_book 0) records;
      },
    )
