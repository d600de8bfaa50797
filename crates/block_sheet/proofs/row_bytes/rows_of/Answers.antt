use Rattle.std.proofs.Common.{◌≡◌, ℕ, ◌+◌, ◌*◌, ◌∙◌, ◌++◌, ◌∷◌, [], sym, ap, subst, length, drop, length-append, set, arith, rules}
use Rattle.lists.proofs.Chunks.{piece_turn, pieces_end}
use Rattle.block_sheet.specs.RowBytes.{row_length, row_of}
use Rattle.block_sheet.proofs.row_bytes.Reading.{Reading, row_cut, reading_none, reading_more, reading_all}
use Rattle.block_sheet.proofs.row_bytes.rows_of.Goals as goal

pub loop-i-init : goal.loop-i-init
loop-i-init c = reading_none c.args.bytes.now c.requires

pub row_of-requires : goal.row_of-requires
row_of-requires c =
    let piece =
    piece_turn row_length (omega arith) c.args.bytes.now c.into_iter-i-iterator.result (search rules) (search rules) (search rules)
    c.loop-i.yielded c.loop-i.i-iterator c.loop-i.yielded_by c.next.result c.next.new.self (c.in-Some.i, c.in-Some.row) c.in-Some.is
    c.next.ensures.steps in
    omega (arith, piece.long)

pub bounds-rows-i : goal.bounds-rows-i
bounds-rows-i c =
    let piece =
    piece_turn row_length (omega arith) c.args.bytes.now c.into_iter-i-iterator.result (search rules) (search rules) (search rules)
    c.loop-i.yielded c.loop-i.i-iterator c.loop-i.yielded_by c.next.result c.next.new.self (c.in-Some.i, c.in-Some.row) c.in-Some.is
    c.next.ensures.steps in
    omega (arith, piece.below, piece.place, c.loop-i.invariant.few)

pub loop-i-preserved : goal.loop-i-preserved
loop-i-preserved c =
    let bytes = c.args.bytes.now in
    let piece =
    piece_turn row_length (omega arith) c.args.bytes.now c.into_iter-i-iterator.result (search rules) (search rules) (search rules)
    c.loop-i.yielded c.loop-i.i-iterator c.loop-i.yielded_by c.next.result c.next.new.self (c.in-Some.i, c.in-Some.row) c.in-Some.is
    c.next.ensures.steps in
    let read = reading_more c.loop-i.invariant c.row_of.result piece.below
    (c.row_of.ensures ∙ ap row_of piece.is ∙ row_cut (drop (row_length * length c.loop-i.yielded) bytes)) in
    let at : length c.loop-i.yielded ≡ c.in-Some.i = sym piece.place in
    let P : ℕ → ℕ → Type 0 = λ i n. Reading bytes (set c.loop-i.rows i c.row_of.result) n in
    let n : length c.loop-i.yielded + 1 ≡ length (c.loop-i.yielded ++ (c.in-Some.i, c.in-Some.row) ∷ []) =
    sym (length-append c.loop-i.yielded ((c.in-Some.i, c.in-Some.row) ∷ [])) in
    subst (P c.in-Some.i) n (subst (λ (i : ℕ). P i (length c.loop-i.yielded + 1)) at read)

pub returns : goal.returns
returns c =
    reading_all c.loop-i.invariant
    (omega (
      arith,
      pieces_end row_length (omega arith) c.args.bytes.now c.into_iter-i-iterator.result (search rules) (search rules) (search rules)
          c.loop-i.yielded c.loop-i.i-iterator c.loop-i.yielded_by c.next.result c.next.new.self c.in-None.is c.next.ensures.steps,
    ))
