-- `file_blank` meets its contract: a field besides the orders that is not zero decides, and else the places do.
use mathlib.Core.Path.{◌≡◌, ◌∙◌}
use lib.ListN.{length}
use Rattle.lists.proofs.Length.{unmapped}
use Rattle.premise_kept.proofs.unused.Zero.{head_used, places_decide}
use Rattle.premise_kept.proofs.unused.file_blank.Goals as goal

pub returns-then-head : goal.returns-then-head
returns-then-head c =
    let e : length c.args.file.now.orders ≡ 8 = search unmapped in
    c.are_blank.ensures ∙ places_decide c.args.file.now c.if-head.true e

pub returns-else-head : goal.returns-else-head
returns-else-head c = head_used c.args.file.now c.if-head.false
