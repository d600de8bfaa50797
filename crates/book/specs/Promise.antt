-- What a record call promises, for every calendar, book, record and buffer: everything that comes out, by equation.
use Rattle.std.specs.Prelude.{◌≡◌, List, ℕ}
use Rattle.records.specs.Layout.{Layout, wide}
use Rattle.records.specs.Notices.{EmitsBy}
use Rattle.premise.specs.Orders.{kept_width}
use Rattle.book.specs.declared.Book.{Book}
use Rattle.book.specs.declared.Reply.{Reply}
use Rattle.book.specs.declared.Waiting.{Waiting}
use Rattle.book.specs.Calls.{call_by}

-- Acceptance returns 0 and the count n; the first 24 × n bytes hold the notices and the rest stays. A refusal has no notices.
pub record PromisedBy (layout : Layout) (calendar : List ℕ) (b : Book) (bytes before : List ℕ) (r : Reply) (after : List ℕ) : Type 0 where
  pub answer : r.answer ≡ (call_by layout kept_width calendar b bytes before).answer
  pub book : r.book ≡ (call_by layout kept_width calendar b bytes before).book
  pub notices : EmitsBy layout before after r.sent (call_by layout kept_width calendar b bytes before).notices

-- The promise that the code keeps: by the wide layout.
abbrev pub Promised : List ℕ → Book → List ℕ → List ℕ → Reply → List ℕ → Type 0
Promised = PromisedBy wide

-- Document 02, change 11: "the question returns the stored four, from any book". What it promises, of a damaged book too.
abbrev pub Shown : Book → Waiting → Type 0
Shown b shown = shown ≡ b.waiting

-- Nothing is free: two replies that are promised for one call are the same, and so are the two buffers.
pub record Same (r s : Reply) (after later : List ℕ) : Type 0 where
  pub reply : r ≡ s
  pub bytes : after ≡ later

abbrev pub NothingFree : Type 0
NothingFree =
    (calendar : List ℕ) (b : Book) (bytes before : List ℕ) (r s : Reply) (after later : List ℕ)
    → Promised calendar b bytes before r after → Promised calendar b bytes before s later → Same r s after later
