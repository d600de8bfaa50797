-- `admit` meets its contract: where a place is unused nothing goes, and where none is the oldest closed order does; there is
-- one, since not all eight are open.
use mathlib.Core.Path.{◌≡◌, ap, ◌∙◌, sym}
use mathlib.Core.List.{List, [], ◌∷◌, ◌++◌}
use native.Mathlib.Omega.{arith}
use Rattle.std.specs.Prelude.{Some, None}
use Rattle.lists.specs.Search.{place_of}
use Rattle.premise.specs.declared.Order.{Order}
use Rattle.premise.specs.Orders.{is_closed, held, with_orders}
use Rattle.premise_laws.proofs.FileOrders.{place_held}
use Rattle.premise_file.proofs.stack.Eight.{open_full}
use Rattle.premise_file.proofs.stack.Room.{room_free, room_full}
use Rattle.premise_file.proofs.stack.admit.Goals as goal

pub returns-then-file-lt-MOST_ORDERS : goal.returns-then-file-lt-MOST_ORDERS
returns-then-file-lt-MOST_ORDERS c =
    let f = c.args.file.now in
    c.append.ensures ∙ ap (λ (l : List Order). with_orders f (l ++ (c.args.order ∷ [])))
    (sym (room_free f c.requires.0 c.if-file-lt-MOST_ORDERS.true))

pub replace_oldest-requires : goal.replace_oldest-requires
replace_oldest-requires c =
    let f = c.args.file.now in
    let n = c.requires.0.few in
    let h = c.if-file-lt-MOST_ORDERS.false in
    let i = c.in-Some.at in
    let found : place_of is_closed (held f) ≡ Some i = cc in
    (c.requires.0, omega (arith, n, h), omega (arith, n, place_held f c.requires.0 i is_closed found))

pub returns-in-Some : goal.returns-in-Some
returns-in-Some c =
    let f = c.args.file.now in
    let found : place_of is_closed (held f) ≡ Some c.in-Some.at = cc in
    c.replace_oldest.ensures
    ∙ ap (λ (l : List Order). with_orders f (l ++ (c.args.order ∷ [])))
    (sym (room_full f c.requires.0 c.if-file-lt-MOST_ORDERS.false c.in-Some.at found))

pub returns-in_default : goal.returns-in_default
returns-in_default c =
    let f = c.args.file.now in
    let none : place_of is_closed (held f) ≡ None = cc in
    cc (c.requires.1, open_full f c.requires.0 c.if-file-lt-MOST_ORDERS.false none)
