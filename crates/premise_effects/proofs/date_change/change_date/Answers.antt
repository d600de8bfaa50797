-- `change_date` meets its contract: one notice, and a second where the premise's retailer hears of it too.
use mathlib.Core.Path.{refl, ap}
use mathlib.Core.Bool.{not}
use Rattle.premise_notices.proofs.Sent.{done_case}
use Rattle.premise_effects.proofs.Both.{second_room, done_both}
use Rattle.premise_effects.proofs.date_change.Notices.{told_once, told_twice, tells_room}
use Rattle.premise_effects.proofs.date_change.change_date.Goals as goal

pub tell-requires : goal.tell-requires
tell-requires c =
    let a = c.args in
    tells_room a.calendar.now a.today a.file.now a.r a.o c.with_date-t.result c.with_date-t.ensures a.out.now c.requires

pub returns-else-o-file : goal.returns-else-o-file
returns-else-o-file c =
    let a = c.args in
    done_case _
    (told_once a.calendar.now a.today a.file.now a.r a.o c.with_date-t.result c.with_date-t.ensures (ap not c.if-o-file.false))
    (record { order_after = refl; sends = c.tell.ensures })

pub tell-requires-then-o-file : goal.tell-requires-then-o-file
tell-requires-then-o-file c =
    let a = c.args in
    second_room
    (told_twice a.calendar.now a.today a.file.now a.r a.o c.with_date-t.result c.with_date-t.ensures (ap not c.if-o-file.true))
    c.requires c.tell.ensures

pub returns-then-o-file : goal.returns-then-o-file
returns-then-o-file c =
    let a = c.args in
    done_both
    (told_twice a.calendar.now a.today a.file.now a.r a.o c.with_date-t.result c.with_date-t.ensures (ap not c.if-o-file.true))
    c.requires c.tell.ensures c.tell-then-o-file.ensures
