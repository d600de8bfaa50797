-- The samples hold: computed; and the theorem about books applies to one of them. Assumes nothing.
use Prim.Native.Nat.{ℕ}
use mathlib.Core.Path.{◌≡◌, refl, ap, sym, ◌∙◌}
use mathlib.Core.List.{List, [], ◌∷◌}
use mathlib.Core.Bool.{true, false≢true}
use native.Mathlib.Omega.{arith}
use Rattle.lists.specs.Search.{Each}
use Rattle.records.specs.Layout.{field_of}
use Rattle.records.specs.Records.{well_formed_by, reading_by}
use Rattle.records.specs.Notices.{encode_by}
use Rattle.premise.specs.Orders.{places}
use Rattle.premise.specs.WellKept.{order_kept_by, is_blank, file_kept_by, file_blank}
use Rattle.premise.specs.Refusals.{number, premise_rows, order_rows}
use Rattle.premise.specs.OnePremise.{stepped_with, step_with}
use Rattle.book.specs.declared.Book.{Book}
use Rattle.book.specs.Totals.{waiting_in}
use Rattle.book.specs.Book.{book_of, book_kept_by, book_kept, fresh_book, file_for, put_in, taken_out}
use Rattle.book.specs.Calls.{call_rows_by, call_by}
use Rattle.book.proofs.Kept.{fresh_kept}
use Rattle.book.proofs.Keeps.{call_keeps}
use Rattle.book.proofs.Row6.{answered_full}
use Rattle.demands.specs.Demand3.{Made, Played, AllAllowed, SameBooks}
use Rattle.demands.specs.Sample.{lent, made, plays, create7, create5, order7, order5, scheduled7, scheduled5, mark1, malformed, calendar}
use Rattle.demands.proofs.ByDefinition.{byte_test, are_bytes, Short, by_definition, rooms}
use Rattle.tape_agreement_rules.specs.declared.Agreement.TheVariants.{Same}
use Rattle.tape_agreement_rules.specs.Agreement.{says_yes, number_given, records_in, agreement, Compared}
use Rattle.tape_agreement_rules.specs.Theorems.{TapeCalls}
use Rattle.tape_agreement_rules.specs.Samples.{joined, sample, shuffled, all_hold, called, Comes}
use Rattle.tape_agreement_rules.proofs.Books.{yes_means_equal_books}

pub samples : all_hold ≡ true
unfolding field_of well_formed_by reading_by create7 create5 order7 order5 scheduled7 scheduled5 mark1 malformed says_yes number_given agreement
samples = refl

-- ---- the theorem applied
-- calls that demand 3 takes are not answered 6
not_answered_6 : (days : List ℕ) (b : Book) (ms : List Made) → book_kept b ≡ true → Played days b ms → AllAllowed b ms
    → Each (λ (m : Made). number m.reply.answer ≡ 6 → ⊥) ms
not_answered_6 days b [] kept p a = tt
not_answered_6 days b (m ∷ ms) kept p a = (
  (λ six.
      false≢true (sym a.0.places
      ∙ (answered_full days b m.bytes m.lent kept a.0.room).0 (sym (ap number p.0.answer) ∙ six))),
  not_answered_6 days m.reply.book ms (ap book_kept p.0.book ∙ call_keeps days b m.bytes m.lent kept) p.1 a.1,
)

-- the calls of a short tape
short_calls : (tape : List ℕ) (records : List (List ℕ)) → Short records → records ≡ records_in tape
    → TapeCalls calendar 0 tape (called calendar records)
short_calls tape records short cut =
    let p = by_definition calendar 0 records short in
    record {
      played = p.played;
      fed = p.fed ∙ cut;
      room = rooms calendar (fresh_book 0) records;
      places = not_answered_6 calendar (fresh_book 0) (called calendar records) (fresh_kept 0) p.played p.allowed;
    }

record Tapes : Type 0 where
  first : Short sample
  cut : sample ≡ records_in (joined sample)
  bytes : byte_test (joined sample) ≡ true
  second : Short shuffled
  cut₂ : shuffled ≡ records_in (joined shuffled)
  bytes₂ : byte_test (joined shuffled) ≡ true
  same : Compared (joined sample) (joined shuffled) Same

tapes : Tapes
unfolding field_of well_formed_by reading_by create7 create5 order7 order5 scheduled7 scheduled5 mark1 malformed agreement
tapes = record {
  first = record { real = refl; few = omega arith };
  cut = refl;
  bytes = refl;
  second = record { real = refl; few = omega arith };
  cut₂ = refl;
  bytes₂ = refl;
  same = refl;
}

equal : SameBooks 0 (called calendar sample) (called calendar shuffled)
unfolding says_yes
equal =
    yes_means_equal_books calendar 0 (joined sample) (joined shuffled) Same (are_bytes (joined sample) tapes.bytes)
    (are_bytes (joined shuffled) tapes.bytes₂) tapes.same refl
    (called calendar sample)
    (called calendar shuffled)
    (short_calls (joined sample) sample tapes.first tapes.cut)
    (short_calls (joined shuffled) shuffled tapes.second tapes.cut₂)

pub comes : Comes
unfolding places number premise_rows order_rows stepped_with step_with order_kept_by is_blank file_kept_by file_blank field_of encode_by well_formed_by
    reading_by waiting_in book_of book_kept_by file_for put_in taken_out call_rows_by call_by lent made plays
comes = record { same = tapes.same; books = equal; room = refl; full = refl; left = refl; fewer = refl }
