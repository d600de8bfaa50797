-- Whoever holds a yes holds equal books: through demand 3, whose premises the calls of two tapes meet, none of which was answered 6.
-- Assumes nothing.
use Prim.Native.Nat.{ℕ}
use mathlib.Core.Path.{ap, sym, subst, ◌∙◌}
use mathlib.Core.List.{List}
use Rattle.lists.specs.Search.{Each}
use Rattle.records.specs.Layout.{Bytes}
use Rattle.book.specs.Book.{fresh_book}
use Rattle.book.proofs.Kept.{fresh_kept}
use Rattle.demands.specs.Demand3.{Made, AllAllowed}
use Rattle.demands.specs.Tapes.{own_of}
use Rattle.demands.proofs.Callers.{none_answered_6}
use Rattle.demands.proofs.Demand3.{demand_3}
use Rattle.demands.proofs.Tapes.{own_of_made}
use Rattle.tape_agreement_rules.specs.Theorems.{TapeCalls, YesMeansEqualBooks}
use Rattle.tape_agreement_rules.proofs.Cuts.{cut_bytes}
use Rattle.tape_agreement_rules.proofs.Answers.{yes_exactly}

allowed : (calendar : List ℕ) (start : ℕ) (tape : List ℕ) (ms : List Made) → Bytes tape → TapeCalls calendar start tape ms
    → AllAllowed (fresh_book start) ms
allowed calendar start tape ms u c =
    none_answered_6 calendar (fresh_book start) ms (fresh_kept start) c.played (subst (Each Bytes) (sym c.fed) (cut_bytes tape u))
    c.room c.places

pub yes_means_equal_books : YesMeansEqualBooks
yes_means_equal_books calendar start ours theirs answer u v compared said ms ns c d =
    let agree = (yes_exactly ours theirs answer u v compared).0 said in
    demand_3.shuffled calendar start ms ns c.played (allowed calendar start ours ms u c) d.played
    (allowed calendar start theirs ns v d)
    (λ premise i.
    own_of_made premise ms ∙ ap (own_of premise) c.fed ∙ agree premise i ∙ sym (own_of_made premise ns ∙ ap (own_of premise) d.fed))
