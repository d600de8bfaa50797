-- The cases of `well_formed`, kind by kind, as the code's dispatch meets them; proofs/ByKind.antt proves that they are its cases.
use Rattle.std.specs.Prelude.{ℕ, List, [], ◌∷◌, Bool, false, ◌&&◌}
use Rattle.days.specs.Days.{is_day}
use Rattle.records.specs.declared.Record.{Record}
use Rattle.records.specs.Records.{unused, a_reference, a_premise, a_retailer, a_retailer_or_none, a_counter, an_order_kind, a_reply}
use Rattle.records.specs.Records.{an_agreement}
use Rattle.records.specs.Records.{a_window, order_day}

-- what the fields beside the kind may hold
abbrev pub holds : (ℕ → Bool) → (ℕ → Bool) → (ℕ → Bool) → (ℕ → Bool) → (ℕ → Bool) → Record → Bool
holds detail day reference premise retailer r =
    detail r.detail && day r.day && reference r.reference && premise r.premise && retailer r.retailer

abbrev pub create_holds : Record → Bool
create_holds = holds a_window is_day unused a_premise a_retailer_or_none

abbrev pub retire_holds : Record → Bool
retire_holds = holds unused unused unused a_premise unused

abbrev pub new_order_holds : Record → Bool
new_order_holds r = holds an_order_kind (order_day r.detail) a_reference a_premise a_retailer r

-- scheduled and meter read: an order and a day
abbrev pub dated_holds : Record → Bool
dated_holds = holds unused is_day a_reference a_premise unused

-- permit required and unexecutable: an order alone
abbrev pub undated_holds : Record → Bool
undated_holds = holds unused unused a_reference a_premise unused

abbrev pub cancel_holds : Record → Bool
cancel_holds = holds unused unused a_reference a_premise a_retailer

abbrev pub reply_holds : Record → Bool
reply_holds = holds a_reply unused a_reference a_premise unused

abbrev pub day_mark_holds : Record → Bool
day_mark_holds = holds unused is_day unused unused unused

abbrev pub date_change_holds : Record → Bool
date_change_holds = holds unused is_day a_reference a_premise a_counter

abbrev pub agreement_holds : Record → Bool
agreement_holds = holds an_agreement unused unused a_premise a_retailer

-- the kinds from 0, which is none, to 12
abbrev pub holds_by_kind : Record → List Bool
holds_by_kind r =
    false
    ∷ create_holds r
    ∷ retire_holds r
    ∷ new_order_holds r
    ∷ dated_holds r
    ∷ undated_holds r
    ∷ undated_holds r
    ∷ dated_holds r
    ∷ cancel_holds r
    ∷ reply_holds r
    ∷ day_mark_holds r
    ∷ date_change_holds r
    ∷ agreement_holds r
    ∷ []
