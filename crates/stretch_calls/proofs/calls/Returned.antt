-- What is returned where nothing is played, and where every record is answered 2. Assumes nothing.
use Prim.Native.Nat.{ℕ, ◌*◌}
use mathlib.Core.Path.{◌≡◌, refl, sym, ap, ◌∙◌}
use mathlib.Core.List.{List, [], ◌++◌}
use lib.ListN.{length, drop, replicate, length-replicate}
use Rattle.records.specs.declared.Notice.{Notice}
use Rattle.records.specs.Layout.{record_length}
use Rattle.records.specs.Notices.{encode_all}
use Rattle.std.specs.Prelude.{Err}
use Rattle.premise.specs.declared.Refusal.TheVariants.{NotWellKept}
use Rattle.book.specs.declared.Book.{Book}
use Rattle.book.specs.Calls.{refusal}
use Rattle.book.specs.CallsInRow.{stopped}
use Rattle.stretch_rules.specs.declared.StretchAnswer.{StretchAnswer}
use Rattle.stretch_rules.specs.declared.StretchAnswer.TheVariants.{Taken}
use Rattle.stretch_rules.specs.Stretch.{Outcome, Gives}
use Rattle.stretch_rules.proofs.NothingPlayed.{gives_as, twos, no_notices}

pub nothing_returned : {x : Outcome} {answer : StretchAnswer} {b : Book} {records : List (List ℕ)} (answers notices : List ℕ)
    → x ≡ record { answer = answer; course = stopped b records }
    → Gives x (record { answer = answer; played = 0; sent = 0; book = b }) answers answers notices notices
nothing_returned answers notices e =
    gives_as (sym e)
    (record { answer = refl; played = refl; book = refl; answers = refl; notices = record { count = refl; bytes = refl } })

pub twos_returned : {x : Outcome} {b : Book} (n : ℕ) (answers₀ answers₁ notices : List ℕ)
    → x ≡ record { answer = Taken; course = record { results = replicate n (refusal (Err NotWellKept) b); book = b; left = [] } }
    → answers₁ ≡ replicate n 2 ++ drop n answers₀
    → Gives x (record { answer = Taken; played = n; sent = 0; book = b }) answers₀ answers₁ notices notices
twos_returned {x} {b} n answers₀ answers₁ notices e answered =
    let long : n ≡ length {A = ℕ} (replicate n 2) = sym (length-replicate {A = ℕ} n 2) in
    gives_as (sym e)
    (record {
      answer = refl;
      played = sym (length-replicate n (refusal (Err NotWellKept) b));
      book = refl;
      answers =
          answered ∙ ap (λ (k : ℕ). replicate n 2 ++ drop k answers₀) long
          ∙ ap (λ (l : List ℕ). l ++ drop (length l) answers₀) (sym (twos n b));
      notices = record {
        count = ap (λ (l : List Notice). length l) (sym (no_notices n b));
        bytes = ap (λ (l : List Notice). encode_all l ++ drop (record_length * length l) notices) (sym (no_notices n b));
      };
    })
