-- `turned_total` meets its contract: an order comes in, goes out, or neither.
use Rattle.book_files.proofs.waiting.Turning.{comes_in, goes_out, stays_out, counted_out}
use Rattle.book_files.proofs.waiting.turned_total.Goals as goal

pub returns-then-came-status : goal.returns-then-came-status
returns-then-came-status c = let a = c.args in comes_in a.status a.left a.came a.total c.requires.2 c.if-came-status.true

pub overflow_sub-result : goal.overflow_sub-result
overflow_sub-result c =
    let a = c.args in counted_out a.status a.left a.total c.requires.0 c.if-left-status.true

pub returns-then-left-status : goal.returns-then-left-status
returns-then-left-status c =
    let a = c.args in
    goes_out a.status a.left a.came a.total c.requires.2 c.if-came-status.false c.if-left-status.true

pub returns : goal.returns
returns c =
    let a = c.args in
    stays_out a.status a.left a.came a.total c.requires.2 c.if-came-status.false c.if-left-status.false
