use Rattle.std.proofs.Common.{refl, sym, ap₂, ◌∙◌, ◌*◌, ◌/◌, ◌<◌, ◌≡◌, length, length-append, arith, rules}
use Rattle.lists.proofs.Chunks.{piece_turn, pieces_end}
use Rattle.first_fittings.proofs.Writing.{writing_start, writing_more, writing_end, room_left, room_for}
use Rattle.first_fittings.proofs.write_all.Goals as goal

pub loop-i-init : goal.loop-i-init
loop-i-init g c = writing_start g.D.Direction.way g.D.Direction.INTO g.met.D.Direction.gives _ _

pub write-requires : goal.write-requires
write-requires g c =
    let d = g.D.Direction in
    let laws = g.met.D.Direction in
    let some : 0 < d.way.size = omega (arith, laws.takes, laws.some_taken) in
    let sized = c.chunks_exact.ensures.size ∙ c.FROM.ensures ∙ sym laws.takes in
    let piece =
    piece_turn d.way.size some c.args.input.now c.into_iter-i-iterator.result (search rules) (search (rules, sized)) (search rules) c.loop-i.yielded c.loop-i.i-iterator
    c.loop-i.yielded_by c.next.result c.next.new.self (c.in-Some.i, c.in-Some.record) c.in-Some.is c.next.ensures.steps in
    let room = room_for d.INTO (length c.args.input.now / d.way.size) (length c.args.output.now) laws.some_given c.requires in
    let at : c.INTO.result * c.in-Some.i ≡ d.INTO * length c.loop-i.yielded = ap₂ (λ a b. a * b) c.INTO.ensures piece.place in (
      piece.long,
      room_left d.way d.INTO laws.gives c.args.input.now c.args.output.now room c.loop-i.output (length c.loop-i.yielded) c.loop-i.invariant _ at piece.below,
    )

pub loop-i-preserved : goal.loop-i-preserved
loop-i-preserved g c =
    let d = g.D.Direction in
    let laws = g.met.D.Direction in
    let some : 0 < d.way.size = omega (arith, laws.takes, laws.some_taken) in
    let sized = c.chunks_exact.ensures.size ∙ c.FROM.ensures ∙ sym laws.takes in
    let piece =
    piece_turn d.way.size some c.args.input.now c.into_iter-i-iterator.result (search rules) (search (rules, sized)) (search rules) c.loop-i.yielded c.loop-i.i-iterator
    c.loop-i.yielded_by c.next.result c.next.new.self (c.in-Some.i, c.in-Some.record) c.in-Some.is c.next.ensures.steps in
    let room = room_for d.INTO (length c.args.input.now / d.way.size) (length c.args.output.now) laws.some_given c.requires in
    let at : c.INTO.result * c.in-Some.i ≡ d.INTO * length c.loop-i.yielded = ap₂ (λ a b. a * b) c.INTO.ensures piece.place in
    writing_more d.way d.INTO laws.gives c.args.input.now c.args.output.now room c.loop-i.output (length c.loop-i.yielded) c.loop-i.invariant
    _ _ c.in-Some.record.now c.write.new.buffer at (length-append c.loop-i.yielded _) piece.below piece.is c.write.ensures

pub returns : goal.returns
returns g c =
    let d = g.D.Direction in
    let laws = g.met.D.Direction in
    let some : 0 < d.way.size = omega (arith, laws.takes, laws.some_taken) in
    let sized = c.chunks_exact.ensures.size ∙ c.FROM.ensures ∙ sym laws.takes in
    let all =
    pieces_end d.way.size some c.args.input.now c.into_iter-i-iterator.result (search rules) (search (rules, sized)) (search rules) c.loop-i.yielded c.loop-i.i-iterator
    c.loop-i.yielded_by c.next.result c.next.new.self c.in-None.is c.next.ensures.steps in
    let room = room_for d.INTO (length c.args.input.now / d.way.size) (length c.args.output.now) laws.some_given c.requires in
    writing_end d.way d.INTO laws.gives c.args.input.now c.args.output.now room c.loop-i.output (length c.loop-i.yielded) c.loop-i.invariant _ all refl
