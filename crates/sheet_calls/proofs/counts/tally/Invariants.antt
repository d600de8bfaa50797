-- `tally` meets its contract. The loop's invariant: the files passed are counted. Their list is what the slice has of the book's places.
use Rattle.std.proofs.Common.{◌≡◌, ◌≤◌, take}
use Rattle.std.specs.List.{count_by}
use Rattle.sheet_rules.specs.Sheet.{is_dark, any, passes_in}
use Rattle.sheet_calls.proofs.counts.tally.Given as goal

abbrev pub invariant-loop-file : goal.invariant-loop-file
invariant-loop-file l = record {
  few : l.tally.files ≤ l.file-index;
  few_dark : l.tally.dark ≤ l.file-index;
  files : l.tally.files ≡ count_by (passes_in any l.row.first l.row.last) (take l.file-index l.file-items);
  dark : l.tally.dark ≡ count_by (passes_in is_dark l.row.first l.row.last) (take l.file-index l.file-items);
}
