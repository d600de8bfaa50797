use Rattle.std.proofs.Common.{◌≤◌, ◌∙◌, refl, length-take}
use native.Mathlib.Omega.{arith}
use Rattle.book.specs.Book.{most_files}
use Rattle.book.proofs.Kept.{book_kept_means}
use Rattle.tape_output.specs.declared.Playing.{Playing}
use Rattle.tape_output.specs.Stretches.{Ready}
use Rattle.tape_player.proofs.ending.Filed.{filed_none, filed_more, filed_all}
use Rattle.tape_player.proofs.ending.put_ending.Goals as goal

few : (p : Playing) → Ready p → p.book.count ≤ most_files
few p ready = ((book_kept_means p.book).0 ready.kept).tidy.few

pub shared_ref_as_front-file-items : goal.shared_ref_as_front-file-items
shared_ref_as_front-file-items c = few c.args.p.now c.requires.0

pub offset_bounds-file-items-file-index : goal.offset_bounds-file-items-file-index
offset_bounds-file-items-file-index c =
    let b = c.args.p.now.book in
    omega (arith, length-take b.count b.files, few c.args.p.now c.requires.0)

pub loop-file-init : goal.loop-file-init
loop-file-init c = record { filed = filed_none c.args.p.now _ _ c.requires.0 c.requires.1; same_buffer = refl }

pub loop-file-preserved : goal.loop-file-preserved
loop-file-preserved c =
    let v = c.loop-file.invariant in record {
      filed = filed_more v.filed c.loop-file-test.true c.file.ensures.puts;
      same_buffer = c.file.ensures.same_buffer ∙ v.same_buffer;
    }

pub returns-clause-puts : goal.returns-clause-puts
returns-clause-puts c = filed_all c.loop-file.invariant.filed c.loop-file-test.false c.total.ensures.puts
