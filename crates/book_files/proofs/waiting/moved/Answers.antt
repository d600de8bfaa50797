use native.Mathlib.Omega.{arith}
use borrow.Author.Rules.{rules}
use lib.ListN.{length-append}
use Rattle.std.proofs.lemmas.Slice.Zip.{zip_turn, zip_end}
use Rattle.premise.specs.Orders.{blank}
use Rattle.book_files.proofs.waiting.Turning.{eight, turning_none, turn_asks, turn_more, turn_still, turning_end}
use Rattle.book_files.proofs.waiting.moved.Goals as goal

pub loop-left-init : goal.loop-left-init
loop-left-init c = let a = c.args in turning_none a.w a.old.now a.stored.now c.requires.0 c.requires.1 c.requires.2

pub turned-totals-requires : goal.turned-totals-requires
turned-totals-requires c =
    let a = c.args in
    let turn = zip_turn a.old.now.orders a.stored.now.orders _ c.into_iter-left-iterator.result c.loop-left.left-iterator c.next.new.self _ (search rules) (search rules) c.loop-left.yielded_by _ c.in-Some.is
    c.next.ensures.steps in
    turn_asks c.loop-left.invariant turn.0 blank (turn.2 blank) (turn.3 blank) c.if-left-came.true

pub loop-left-preserved-then-left-came : goal.loop-left-preserved-then-left-came
loop-left-preserved-then-left-came c =
    let a = c.args in
    let turn = zip_turn a.old.now.orders a.stored.now.orders _ c.into_iter-left-iterator.result c.loop-left.left-iterator c.next.new.self _ (search rules) (search rules) c.loop-left.yielded_by _ c.in-Some.is
    c.next.ensures.steps in
    turn_more c.loop-left.invariant turn.0 blank (turn.2 blank) (turn.3 blank) (length-append c.loop-left.yielded _) c.turned-totals.ensures

pub loop-left-preserved : goal.loop-left-preserved
loop-left-preserved c =
    let a = c.args in
    let turn = zip_turn a.old.now.orders a.stored.now.orders _ c.into_iter-left-iterator.result c.loop-left.left-iterator c.next.new.self _ (search rules) (search rules) c.loop-left.yielded_by _ c.in-Some.is
    c.next.ensures.steps in
    turn_still c.loop-left.invariant turn.0 blank (turn.2 blank) (turn.3 blank) (length-append c.loop-left.yielded _) c.if-left-came.false

pub returns : goal.returns
returns c =
    let a = c.args in
    let all = zip_end a.old.now.orders a.stored.now.orders _ c.into_iter-left-iterator.result c.loop-left.left-iterator c.next.new.self _ (search rules) (search rules) c.loop-left.yielded_by c.in-None.is
    c.next.ensures.steps in
    let inv = c.loop-left.invariant in
    turning_end inv (omega (arith, all, eight _ inv.leaves, eight _ inv.comes))
