-- The four totals: every book on the way from a fresh one is well kept, and so its totals are the counts over its files; and equal books
-- have equal totals. Assumes nothing.
use Prim.Native.Nat.{ℕ}
use mathlib.Core.Path.{◌≡◌, ap, sym, subst, ◌∙◌}
use mathlib.Core.List.{List, [], ◌∷◌}
use mathlib.Core.Bool.{true}
use Rattle.premise.specs.declared.File.{File}
use Rattle.book.specs.declared.Book.{Book}
use Rattle.book.specs.declared.Waiting.{Waiting}
use Rattle.book.specs.Totals.{waiting_in}
use Rattle.book.specs.Book.{files_of, book_kept, fresh_book}
use Rattle.book.proofs.Kept.{book_kept_means, fresh_kept, totals_are}
use Rattle.book.proofs.Keeps.{call_keeps}
use Rattle.demands.specs.Demand3.{Made, Played, last_book}
use Rattle.waiting_totals.specs.Waiting.{CountsOver, TotalsAreCounts, ShuffledTotals}
use Rattle.demands.proofs.Demand3.{demand_3}

last_kept : (calendar : List ℕ) (b : Book) (ms : List Made) → Played calendar b ms → book_kept b ≡ true
    → book_kept (last_book b ms) ≡ true
last_kept calendar b [] p k = k
last_kept calendar b (m ∷ ms) p k =
    last_kept calendar m.reply.book ms p.1 (ap book_kept p.0.book ∙ call_keeps calendar b m.bytes m.lent k)

counts_over : (fs : List File) (shown : Waiting) → shown ≡ waiting_in fs → CountsOver fs shown
unfolding waiting_in
counts_over fs shown e =
    record {
      review = ap (λ (w : Waiting). w.review) e;
      permit = ap (λ (w : Waiting). w.permit) e;
      dated = ap (λ (w : Waiting). w.scheduled) e;
      cancel = ap (λ (w : Waiting). w.cancel) e;
    }

pub totals_are_counts : TotalsAreCounts
totals_are_counts calendar start ms shown p asked =
    let b = last_book (fresh_book start) ms in
    let kept = (book_kept_means b).0 (last_kept calendar (fresh_book start) ms p (fresh_kept start)) in
    counts_over (files_of b) shown (asked ∙ totals_are b kept.tidy)

pub shuffled_totals : ShuffledTotals
shuffled_totals calendar start one other shown seen p a q c agree asked again =
    asked ∙ ap (λ (b : Book). b.waiting) (demand_3.shuffled calendar start one other p a q c agree).book ∙ sym again
