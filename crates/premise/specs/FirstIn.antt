-- Document 01, "Not first in" (002, table 11.1).
use Rattle.std.specs.Prelude.{ℕ, ◌-◌, List, [], ◌∷◌, Bool, ◌&&◌, ◌||◌, eqb, leb, get_or}
use Rattle.lists.specs.Search.{any_of}
use Rattle.records.specs.Records.{standard_switch}
use Rattle.premise.specs.declared.Order.{Order}
use Rattle.premise.specs.Orders.{scheduled, has_status, has_kind}

-- Y refuses; as a number, since the code's table holds numbers.
abbrev Y : ℕ
Y = 1

abbrev N : ℕ
N = 0

-- Columns new K 1, 2, 3, 4; rows the kind of the Scheduled order, 1 to 5.
abbrev pub table : List (List ℕ)
table =
    (Y ∷ N ∷ N ∷ Y ∷ [])
    ∷ (N ∷ Y ∷ N ∷ Y ∷ [])
    ∷ (N ∷ N ∷ N ∷ Y ∷ [])
    ∷ (N ∷ N ∷ N ∷ Y ∷ [])
    ∷ (N ∷ N ∷ N ∷ N ∷ [])
    ∷ []

-- The table's entry for a Scheduled order's kind and a new order's, both from 1 on; a new K 5 has no column, and is never refused.
unfoldable pub refuses : ℕ → ℕ → Bool
refuses scheduled_kind new_kind = leb 1 scheduled_kind && leb 1 new_kind && eqb (get_or (get_or table (scheduled_kind - 1) []) (new_kind - 1) N) Y

-- A Y counts if the held order is Scheduled with SD equal to the new RD. A new K 3 is also refused if a Scheduled K 3 has SD at or after
-- the new RD.
unfoldable pub stands_in_way : ℕ → ℕ → Order → Bool
stands_in_way new_kind requested o =
    has_status scheduled o
    && (eqb o.scheduled requested && refuses o.kind new_kind || eqb new_kind standard_switch && has_kind standard_switch o
    && leb requested o.scheduled)

-- not first in
unfoldable pub not_first_in : ℕ → ℕ → List Order → Bool
not_first_in new_kind requested os = any_of (stands_in_way new_kind requested) os
