-- `fill_sheet` meets its contract: with a refusal every row stays, and else all are filled in.
use Rattle.std.proofs.Common.{◌≡◌, ◌<◌, ◌≤◌, List, ◌++◌, Ok, Err, length, get_or, set, map, arith, refl, sym, ap, ap₂, ◌∙◌, rules, append-nil}
use Rattle.std.proofs.lemmas.List.{take_all, drop_all, get_or_default}
use Rattle.std.proofs.lemmas.List.Edits.{map_over_more}
use Rattle.book.specs.declared.Book.{Book}
use Rattle.sheet_rules.specs.declared.BlockRow.{BlockRow}
use Rattle.sheet_rules.specs.declared.Tally.{Tally}
use Rattle.sheet_rules.specs.declared.SheetRefusal.{SheetRefusal}
use Rattle.sheet_rules.specs.declared.SheetRefusal.TheVariants.{NotWellKept, UnsoundRow}
use Rattle.sheet_rules.specs.Sheet.{SheetAnswer, counted, sheet_answer, rows_after, Fills}
use Rattle.sheet_calls.proofs.lent_rows.fill_sheet.Goals as goal

-- what a read past the last row would give, of which none comes
abbrev past : BlockRow
past = record { block = 0; first = 0; last = 0; files = 0; dark = 0 }

stay : (refusal : SheetRefusal) (b : Book) (rows : List BlockRow) → rows ≡ rows_after (Err refusal) b rows
unfolding rows_after
stay NotWellKept b rows = refl
stay UnsoundRow b rows = refl

-- what a call promises, of the answer that comes of it
fills : {b : Book} {rows after : List BlockRow} (answer : SheetAnswer) → answer ≡ sheet_answer b rows → after ≡ rows_after answer b rows
    → Fills b rows answer after
fills {b} {rows} answer e f = record { answered = e; rows = f ∙ ap (λ (a : SheetAnswer). rows_after a b rows) e }

pub returns-in_err-judge : goal.returns-in_err-judge
returns-in_err-judge c =
    let b = c.args.b in
    let rows = c.args.rows.now in
    let refusal = c.in_err-judge.field-0.0 in
    let e : c.from_residual.result ≡ Err refusal = search rules in
    fills c.from_residual.result (e ∙ sym c.in_err-judge.was ∙ c.judge.ensures)
    (stay refusal b rows ∙ ap (λ (a : SheetAnswer). rows_after a b rows) (sym e))

pub loop-row-preserved : goal.loop-row-preserved
unfolding counted
loop-row-preserved c =
    let rows = c.loop-row.rows in
    let i = c.loop-row.row-index in
    let old = get_or rows i past in
    let within : i < length rows = omega arith in
    let filled : Tally → BlockRow =
    λ t. record { block = old.block; first = old.first; last = old.last; files = t.files; dark = t.dark } in
    ap (λ (t : Tally). set rows i (filled t)) c.tally-tally.ensures
    ∙ map_over_more (counted c.args.b) c.args.rows.now rows i old (omega arith) c.loop-row.invariant
    (get_or_default rows i past old within)

pub returns : goal.returns
unfolding rows_after
returns c =
    let rows = c.args.rows.now in
    let all : length rows ≤ c.loop-row.row-index = omega arith in
    fills {b = c.args.b} {rows = rows} (Ok tt) (search rules)
    (c.loop-row.invariant
    ∙ ap₂ (λ (xs ys : List BlockRow). map (counted c.args.b) xs ++ ys) (take_all c.loop-row.row-index rows all)
    (drop_all c.loop-row.row-index rows all)
    ∙ append-nil (map (counted c.args.b) rows))
