-- Document 01, "Set pieces", and what document 02 adds: one list of cases, by topic. proofs/Pieces.antt proves that none of them fails.
use Rattle.std.specs.Prelude.{List, ◌++◌}
pub mod Agreements
pub mod Clock
pub mod DateChange
pub mod Document
pub mod Evaluation
pub mod Forms
pub mod Kept
pub mod OneDay
pub mod Records
pub mod Refusals
pub mod Retailers
pub mod Windows
use Rattle.premise.specs.Pieces.Forms.{Piece}
use Rattle.premise.specs.Pieces.Document.{limits, reviews, permits, switches, tape}
use Rattle.premise.specs.Pieces.Records.{created, ordered, scheduled_or_permitted, unexecuteds, readings, cancels, evaluations}
use Rattle.premise.specs.Pieces.Clock.{reviews_end, permits_end, cancels_end}
use Rattle.premise.specs.Pieces.Evaluation.{same_day, drops, overtaken, losing}
use Rattle.premise.specs.Pieces.DateChange.{redates, redated_on_tape, redates_refused}
use Rattle.premise.specs.Pieces.Agreements.{agreements, agreements_told, agreements_on_tape}
use Rattle.premise.specs.Pieces.OneDay.{one_day}
use Rattle.premise.specs.Pieces.Windows.{windows}
use Rattle.premise.specs.Pieces.Retailers.{long_retailers}
use Rattle.premise.specs.Pieces.Refusals.{first_in, statuses, premises, day_limits, stacks, shares}
use Rattle.premise.specs.Pieces.Kept.{kept_orders, kept_files, numbers}

abbrev pub pieces : List Piece
pieces =
    limits ++ reviews ++ permits ++ switches ++ tape
    ++ created ++ ordered ++ scheduled_or_permitted ++ unexecuteds ++ readings ++ cancels ++ evaluations
    ++ reviews_end ++ permits_end ++ cancels_end
    ++ same_day ++ drops ++ overtaken ++ losing
    ++ first_in ++ statuses ++ premises ++ day_limits ++ stacks ++ shares
    ++ redates ++ redated_on_tape ++ redates_refused
    ++ agreements ++ agreements_told ++ agreements_on_tape ++ one_day ++ windows ++ long_retailers
    ++ kept_orders ++ kept_files ++ numbers
