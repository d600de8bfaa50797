-- The part of the table of refusals that is for an agreement on a file.
use Rattle.std.specs.Prelude.{ℕ, Bool, not, ◌&&◌, eqb}
use Rattle.records.specs.declared.Record.{Record}
use Rattle.records.specs.Records.{delete}

-- A delete names a retailer other than C.
abbrev pub deletes_another : ℕ → Record → Bool
deletes_another agreement r = eqb r.detail delete && not (eqb r.retailer agreement)
