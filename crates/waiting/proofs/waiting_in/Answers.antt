-- `waiting_in` meets its contract: the book is the tape's, and what is put is the line of the totals that it keeps.
use Rattle.waiting.proofs.Line.{shown_put}
use Rattle.waiting.proofs.waiting_in.Goals as goal

pub returns-clause-puts : goal.returns-clause-puts
returns-clause-puts c =
    shown_put _ _ _ c.played-b.ensures c.waiting_orders.ensures c.put_waiting.ensures.puts
