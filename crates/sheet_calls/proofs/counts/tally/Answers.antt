-- At the end all files that the book holds are passed: as many of its places as it says, but no more than it has.
use Rattle.std.proofs.Common.{◌≡◌, ℕ, ◌≤◌, min, List, Bool, length, take, arith, refl, sym, ap, ◌∙◌, leb, true, false}
use Rattle.std.specs.List.{count_by}
use Rattle.std.proofs.lemmas.List.{take_all}
use borrow.Author.Tests.{leb-true, leb-false}
use Rattle.lists.specs.Search.{count_of}
use Rattle.lists.proofs.Chains.{count_chain}
use Rattle.premise.specs.declared.File.{File}
use Rattle.book.specs.Book.{files_of}
use Rattle.sheet_rules.specs.Sheet.{is_dark, any, passes_in, tally_of}
use Rattle.sheet_calls.proofs.counts.tally.Goals as goal

held : (n count : ℕ) (files : List File) → n ≡ min count (length files) → take n files ≡ take count files
held n count files e = go (leb count (length files)) refl
  where
    go : (b : Bool) → leb count (length files) ≡ b → take n files ≡ take count files
    go true few = ap (λ (m : ℕ). take m files) (omega (arith, e, leb-true count (length files) few))
    go false many =
        let over = leb-false count (length files) many in
        take_all n files (omega arith) ∙ sym (take_all count files (omega arith))

pub returns : goal.returns
unfolding tally_of
returns c =
    let b = c.args.b.now in
    let row = c.args.row.now in
    let passed = take c.min.result b.files in
    let end : length passed ≤ c.loop-file.file-index = omega arith in
    let all : (test : File → Bool) → count_by test (take c.loop-file.file-index passed) ≡ count_of test (files_of b) =
    λ test. ap (count_by test) (take_all c.loop-file.file-index passed end ∙ held c.min.result b.count b.files (omega arith))
    ∙ sym (count_chain test (files_of b)) in
    let x = c.loop-file.invariant.files ∙ all (passes_in any row.first row.last) in
    let y = c.loop-file.invariant.dark ∙ all (passes_in is_dark row.first row.last) in
    λ k. record { files = x k; dark = y k }
