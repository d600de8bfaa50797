-- Document 01, "Evaluation": four passes, oldest first. Each sees what the one before it left. The passes take what is in window as a test
-- on scheduled days, `near`: at the end `evaluated` hands in document 01's.
use Rattle.std.specs.Prelude.{ℕ, List, [], ◌∷◌, Bool, cond, not, ◌&&◌, ◌||◌, eqb, leb, ltb}
use Rattle.lists.specs.Search.{any_of, place_of, is_at, or_else}
use Rattle.std.specs.Prelude.{Option}
use Rattle.days.specs.Window.{in_window}
use Rattle.records.specs.Notices.{tdsp}
use Rattle.records.specs.Records.{move_in, move_out, mass_transition_drop}
use Rattle.premise.specs.declared.Order.{Order}
use Rattle.premise.specs.declared.File.{File}
use Rattle.premise.specs.Orders.{permit_pending, scheduled, cancel_pending, has_status, has_kind, is_switch, no_retailer, as_cancelled}
use Rattle.premise.specs.Orders.{with_told, held, kept_width}
use Rattle.premise.specs.Passes.{Change, Outcome, Effect, same, cancelling, notice, pass, and_then, on_file, code_losing, code_cancel}
use Rattle.premise.specs.Passes.{code_agreement_move_in}

-- Pass 1. Status 3 or 4.
abbrev pub is_scheduled_or_cancel_pending : Order → Bool
is_scheduled_or_cancel_pending o = has_status scheduled o || has_status cancel_pending o

-- Switches (K 3, 4) in window, status 3 or 4 ..
unfoldable pub contends : (ℕ → Bool) → Order → Bool
contends near o = is_switch o && is_scheduled_or_cancel_pending o && near o.scheduled

-- .. with equal SD: those of one day.
abbrev pub contends_for : (ℕ → Bool) → ℕ → Order → Bool
contends_for near day o = contends near o && eqb o.scheduled day

-- The oldest Scheduled one is kept, or the oldest if none is Scheduled.
unfoldable pub switch_of_day : (ℕ → Bool) → List Order → ℕ → Option ℕ
switch_of_day near os day =
    or_else (place_of (λ (o : Order). contends_for near day o && has_status scheduled o) os) (place_of (contends_for near day) os)

-- Each other gives way: ..
unfoldable pub gives_way : (ℕ → Bool) → List Order → ℕ → Order → Bool
gives_way near os i o = contends near o && not (is_at (switch_of_day near os o.scheduled) i)

-- .. Cancelled, W 0, notice 5 to the TDSP, then to Q.
unfoldable pub same_day_switch : (ℕ → Bool) → ℕ → List Order → ℕ → Order → Change
same_day_switch near premise os i o = cond (gives_way near os i o) (cancelling premise o.submitter o) (same o)

abbrev pub same_day_switches : (ℕ → Bool) → ℕ → List Order → Outcome
same_day_switches near premise os = pass (same_day_switch near premise os) os

-- Pass 2. A Scheduled switch, by its SD.
abbrev pub switch_on : ℕ → Order → Bool
switch_on day o = is_switch o && has_status scheduled o && eqb o.scheduled day

-- A Scheduled drop in window with the SD of a Scheduled switch: ..
unfoldable pub is_displaced : (ℕ → Bool) → List Order → Order → Bool
is_displaced near os o = has_kind mass_transition_drop o && has_status scheduled o && near o.scheduled && any_of (switch_on o.scheduled) os

-- .. Cancelled, notice 5 to the TDSP, then to R if not 0.
unfoldable pub drop_on_switch_day : (ℕ → Bool) → ℕ → ℕ → List Order → Order → Change
drop_on_switch_day near premise retailer os o =
    cond (is_displaced near os o)
    (record {
      order = as_cancelled o;
      notices =
          notice code_cancel premise tdsp (as_cancelled o)
          ∷ cond (eqb retailer no_retailer) [] (notice code_cancel premise retailer (as_cancelled o) ∷ []);
    })
    (same o)

abbrev pub drops_on_switch_days : (ℕ → Bool) → File → List Order → Outcome
drops_on_switch_days near f os = pass (λ (i : ℕ). drop_on_switch_day near f.premise f.retailer os) os

-- Pass 3. A Scheduled move in with SD not after T, and an RD after a given one.
abbrev pub overtakes : ℕ → ℕ → Order → Bool
overtakes today requested o = has_kind move_in o && has_status scheduled o && leb o.scheduled today && ltb requested o.requested

-- A Permit Pending move in whose RD is before the RD of a Scheduled move in with SD not after T: ..
unfoldable pub is_overtaken : ℕ → List Order → Order → Bool
is_overtaken today os o = has_kind move_in o && has_status permit_pending o && any_of (overtakes today o.requested) os

-- .. Cancelled, notice 5 to the TDSP, then to Q.
unfoldable pub permit_overtaken : ℕ → ℕ → List Order → Order → Change
permit_overtaken today premise os o = cond (is_overtaken today os o) (cancelling premise o.submitter o) (same o)

abbrev pub permits_overtaken : ℕ → ℕ → List Order → Outcome
permits_overtaken today premise os = pass (λ (i : ℕ). permit_overtaken today premise os) os

-- Pass 4. Scheduled, not a move out, in window, told 0: .. Document 02, change 3: "In the fourth pass a move out that is Scheduled, in
-- window and not told gets told 1 and notice 12 (814_22) to C, both only if C is not 0."
unfoldable pub is_due : (ℕ → Bool) → ℕ → Order → Bool
is_due near agreement o =
    has_status scheduled o && (not (has_kind move_out o) || not (eqb agreement no_retailer)) && eqb o.told 0 && near o.scheduled

-- .. told 1; notice 4 to R unless R is 0 or Q. A move out's goes to C.
unfoldable pub loss_notice : (ℕ → Bool) → ℕ → ℕ → ℕ → Order → Change
loss_notice near premise retailer agreement o =
    cond (is_due near agreement o)
    (record {
      order = with_told 1 o;
      notices =
          cond (has_kind move_out o) (notice code_agreement_move_in premise agreement (with_told 1 o) ∷ [])
          (cond (eqb retailer no_retailer || eqb retailer o.submitter) [] (notice code_losing premise retailer (with_told 1 o) ∷ []));
    })
    (same o)

abbrev pub loss_notices : (ℕ → Bool) → File → List Order → Outcome
loss_notices near f os = pass (λ (i : ℕ). loss_notice near f.premise f.retailer f.agreement) os

-- the four passes on some orders of a file
unfoldable pub evaluation : (ℕ → Bool) → ℕ → File → List Order → Outcome
evaluation near today f os =
    and_then (and_then (and_then (same_day_switches near f.premise os) (drops_on_switch_days near f)) (permits_overtaken today f.premise))
    (loss_notices near f)

-- the same on the file
abbrev pub evaluated_by : (ℕ → Bool) → ℕ → File → Effect
evaluated_by near today f = on_file f (evaluation near today f (held f))

-- The evaluation of a file. In window: SD is a day, and at most two business days d have T ≤ d < SD. Document 02, change 2: "Evaluation and
-- date change follow that width."
abbrev pub evaluated_with : (File → ℕ) → List ℕ → ℕ → File → Effect
evaluated_with width calendar today f = evaluated_by (in_window calendar (width f) today) today f

abbrev pub evaluated : List ℕ → ℕ → File → Effect
evaluated = evaluated_with kept_width
