-- The line of the four totals: how long it can be, and whose it is. Assumes nothing.
use Prim.Native.Nat.{ℕ, ◌+◌, ◌≤◌}
use mathlib.Core.Path.{◌≡◌, ap, ◌∙◌}
use mathlib.Core.List.{List, [], ◌∷◌}
use native.Mathlib.Omega.{arith}
use lib.ListN.{length}
use Rattle.tape_text.specs.Numbers.{Puts}
use Rattle.tape_text.proofs.Lengths.{any_lettered}
use Rattle.tape_text.proofs.Puts.{puts_as}
use Rattle.book.specs.declared.Book.{Book}
use Rattle.book.specs.declared.Waiting.{Waiting}
use Rattle.book.specs.Promise.{Shown}
use Rattle.waiting.specs.Output.{question_letter, waiting_line, waiting_line_most}

line_most_lem : (w : Waiting) → length (waiting_line w) ≤ waiting_line_most
unfolding waiting_line
line_most_lem w = any_lettered question_letter (w.review ∷ w.permit ∷ w.scheduled ∷ w.cancel ∷ [])

pub line_fits : (w : Waiting) (at : ℕ) (out : List ℕ) → at + waiting_line_most ≤ length out → at + length (waiting_line w) ≤ length out
line_fits w at out room = omega (arith, line_most_lem w, room)

-- the line of what is shown of a book is that of its totals
pub shown_put : (b c : Book) (shown : Waiting) {at stop : ℕ} {before after : List ℕ} → b ≡ c → Shown b shown
    → Puts at before after stop (waiting_line shown) → Puts at before after stop (waiting_line c.waiting)
shown_put b c shown same asked p = puts_as (ap waiting_line (asked ∙ ap (λ (x : Book). x.waiting) same)) p
