use mathlib.Core.Path.{◌≡◌, refl, sym, ◌∙◌}
use native.Mathlib.Omega.{arith}
use lib.ListN.{length}
use Rattle.lists.proofs.Length.{unmapped}
use Rattle.book.specs.Totals.{waiting_in}
use Rattle.book_files.proofs.Tidy.{past}
use Rattle.book_files.proofs.kept.WellKept.{held_done, no_day_lem, too_many, waiting_fits, file_not_rising, file_not_kept, file_passes, totals_differ, place_not_blank, place_passes, unused_done}
use Rattle.book_files.proofs.kept.book_kept.Goals as goal

pub returns-then-b-gt-LAST_DAY : goal.returns-then-b-gt-LAST_DAY
returns-then-b-gt-LAST_DAY c = sym (no_day_lem c.args.b (omega (arith, c.if-b-gt-LAST_DAY.true)))

pub returns-then-n-gt-MOST_FILES : goal.returns-then-n-gt-MOST_FILES
returns-then-n-gt-MOST_FILES c = sym (too_many c.args.b (omega (arith, c.if-n-gt-MOST_FILES.true)))

pub held-init : goal.held-init
unfolding waiting_in
held-init c =
    let long : length c.args.b.files ≡ 64 = search unmapped in
    record {
      within = omega arith;
      same = refl;
      few = omega (arith, c.if-n-gt-MOST_FILES.false);
      day = omega (arith, c.if-b-gt-LAST_DAY.false);
      long = long;
      kept = refl;
      passed = tt;
      sum = refl;
    }

pub returns-then-file-last : goal.returns-then-file-last
returns-then-file-last c =
    file_not_rising c.held.invariant past c.held-test.true (omega (arith, c.if-file-last.true))

pub returns-in_default : goal.returns-in_default
returns-in_default c = file_not_kept c.held.invariant past c.held-test.true c.file_kept.ensures c.in_default.is

pub overflow_add-waiting : goal.overflow_add-waiting
overflow_add-waiting c =
    let v = file_passes c.held.invariant past c.held-test.true c.file_kept.ensures (omega (arith, c.if-file-last.false)) c.in-Some.is in
    record { fits = waiting_fits v }

pub held-preserved : goal.held-preserved
held-preserved c =
    file_passes c.held.invariant past c.held-test.true c.file_kept.ensures (omega (arith, c.if-file-last.false)) c.in-Some.is

pub returns-then-packed-waiting : goal.returns-then-packed-waiting
returns-then-packed-waiting c =
    totals_differ c.held.invariant c.held-test.false c.packed.ensures c.if-packed-waiting.true

pub unused-init : goal.unused-init
unused-init c =
    let g = c.well_formed in
    held_done c.held.invariant c.held-test.false c.packed.ensures
    (record { review = omega (arith, g); permit = omega (arith, g); dated = omega (arith, g); cancel = omega (arith, g) })
    c.if-packed-waiting.false

pub returns-then-not-file_blank : goal.returns-then-not-file_blank
returns-then-not-file_blank c =
    place_not_blank c.unused.invariant _ (omega (arith, c.unused-test.true))
    (sym c.file_blank.ensures ∙ c.if-not-file_blank.true)

pub unused-smaller : goal.unused-smaller
unused-smaller c = omega arith

pub unused-preserved : goal.unused-preserved
unused-preserved c =
    place_passes c.unused.invariant _ (omega (arith, c.unused-test.true))
    (sym c.file_blank.ensures ∙ c.if-not-file_blank.false)

pub returns : goal.returns
returns c = unused_done c.unused.invariant (omega (arith, c.unused-test.false))
