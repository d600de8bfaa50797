-- Document 01, "Records", and the record kinds of document 02: what the bytes of a record say, and row 3, which they decide alone.
use Rattle.std.specs.Prelude.{ℕ, List, Bool, cond, not, ◌&&◌, ◌||◌, eqb, leb, length}
use Rattle.days.specs.Days.{is_day}
use Rattle.days.specs.Window.{most_width}
use Rattle.records.specs.declared.Record.{Record}
use Rattle.std.specs.Prelude.{Option, Some, None}
use Rattle.records.specs.Layout.{Layout, wide, record_length, kind_field, detail_field, day_field, reference_field, premise_field, field_of}

-- The record kinds, 1 to 10, and of document 02 11 (change 1) and 12 (change 3).
abbrev pub kind_create : ℕ
kind_create = 1

abbrev pub kind_retire : ℕ
kind_retire = 2

abbrev pub kind_new_order : ℕ
kind_new_order = 3

abbrev pub kind_scheduled : ℕ
kind_scheduled = 4

abbrev pub kind_permit : ℕ
kind_permit = 5

abbrev pub kind_unexecutable : ℕ
kind_unexecutable = 6

abbrev pub kind_read : ℕ
kind_read = 7

abbrev pub kind_cancel : ℕ
kind_cancel = 8

abbrev pub kind_reply : ℕ
kind_reply = 9

abbrev pub kind_day_mark : ℕ
kind_day_mark = 10

abbrev pub kind_date_change : ℕ
kind_date_change = 11

abbrev pub kind_agreement : ℕ
kind_agreement = 12

-- The order kinds K: 1 move in, 2 move out, 3 standard switch, 4 self-selected switch, 5 mass transition drop.
abbrev pub move_in : ℕ
move_in = 1

abbrev pub move_out : ℕ
move_out = 2

abbrev pub standard_switch : ℕ
standard_switch = 3

abbrev pub self_selected_switch : ℕ
self_selected_switch = 4

abbrev pub mass_transition_drop : ℕ
mass_transition_drop = 5

-- A cancel reply's detail: 1 accept, 2 reject.
abbrev pub reply_accept : ℕ
reply_accept = 1

abbrev pub reply_reject : ℕ
reply_reject = 2

-- Document 02, change 3. An agreement's detail: "1 to establish and 2 to delete".
abbrev pub establish : ℕ
establish = 1

abbrev pub delete : ℕ
delete = 2

-- Retailers are 1 to the layout's last: 9,999,999,999,999 in the one in force.
abbrev pub last_retailer : ℕ
last_retailer = wide.last_retailer

-- A counter has 32 bits.
abbrev pub last_counter : ℕ
last_counter = 4294967295

-- What a field may hold: nothing, where the record's kind does not use it; else a value in range.
abbrev pub unused : ℕ → Bool
unused n = eqb n 0

abbrev pub a_reference : ℕ → Bool
a_reference n = not (eqb n 0)

abbrev pub a_premise : ℕ → Bool
a_premise n = not (eqb n 0)

abbrev pub a_retailer_by : Layout → ℕ → Bool
a_retailer_by layout n = leb 1 n && leb n layout.last_retailer

abbrev pub a_retailer_or_none_by : Layout → ℕ → Bool
a_retailer_or_none_by layout n = leb n layout.last_retailer

abbrev pub a_retailer : ℕ → Bool
a_retailer = a_retailer_by wide

abbrev pub a_retailer_or_none : ℕ → Bool
a_retailer_or_none = a_retailer_or_none_by wide

-- Document 02, change 1: "in bytes 16 to 19, an iteration counter (32 bits, not 0)". It is no retailer, and stands where other kinds have
-- theirs. Change 7: "Date changes keep their counter in 16 to 19 with 20 to 23 zero": what the wide field then holds is at most
-- 4,294,967,295.
abbrev pub a_counter : ℕ → Bool
a_counter n = leb 1 n && leb n last_counter

abbrev pub counter_of : Record → ℕ
counter_of r = r.retailer

abbrev pub an_order_kind : ℕ → Bool
an_order_kind n = leb move_in n && leb n mass_transition_drop

abbrev pub a_reply : ℕ → Bool
a_reply n = leb reply_accept n && leb n reply_reject

-- Document 02, change 2: "A create's detail byte gives the window, 1 to 5 business days, and 0 means 2; above 5 gets 3."
abbrev pub a_window : ℕ → Bool
a_window n = leb n most_width

abbrev pub an_agreement : ℕ → Bool
an_agreement n = leb establish n && leb n delete

-- a record of a kind, with what its detail, day, reference, premise and retailer may hold
abbrev pub fits : ℕ → (ℕ → Bool) → (ℕ → Bool) → (ℕ → Bool) → (ℕ → Bool) → (ℕ → Bool) → Record → Bool
fits kind detail day reference premise retailer r =
    eqb r.kind kind && detail r.detail && day r.day && reference r.reference && premise r.premise && retailer r.retailer

-- For K 3 the day must be 0; otherwise it is a day.
abbrev pub order_day : ℕ → ℕ → Bool
order_day kind = cond (eqb kind standard_switch) unused is_day

-- Kind, detail and fields in range, unused fields zero: the ten kinds with the fields that document 01 gives each in brackets. Document 02,
-- change 1: "Record kind 11 carries day, F, P and, in bytes 16 to 19, an iteration counter"; change 3: "Record kind 12 carries P, retailer
-- and detail", "a retailer of 0 gets 3"; change 7: a retailer is in range by the layout's limit.
unfoldable pub well_formed_by : Layout → Record → Bool
well_formed_by layout r =
    fits kind_create a_window is_day unused a_premise (a_retailer_or_none_by layout) r
    || fits kind_retire unused unused unused a_premise unused r
    || fits kind_new_order an_order_kind (order_day r.detail) a_reference a_premise (a_retailer_by layout) r
    || fits kind_scheduled unused is_day a_reference a_premise unused r
    || fits kind_permit unused unused a_reference a_premise unused r
    || fits kind_unexecutable unused unused a_reference a_premise unused r
    || fits kind_read unused is_day a_reference a_premise unused r
    || fits kind_cancel unused unused a_reference a_premise (a_retailer_by layout) r
    || fits kind_reply a_reply unused a_reference a_premise unused r
    || fits kind_day_mark unused is_day unused unused unused r
    || fits kind_date_change unused is_day a_reference a_premise a_counter r
    || fits kind_agreement an_agreement unused unused a_premise (a_retailer_by layout) r

abbrev pub well_formed : Record → Bool
well_formed = well_formed_by wide

-- the fields of some bytes
abbrev pub fields_by : Layout → List ℕ → Record
fields_by layout bytes =
    record {
      kind = field_of kind_field bytes;
      detail = field_of detail_field bytes;
      day = field_of day_field bytes;
      reference = field_of reference_field bytes;
      premise = field_of premise_field bytes;
      retailer = field_of layout.retailer bytes;
    }

abbrev pub fields_of : List ℕ → Record
fields_of = fields_by wide

-- Row 3, decided by a record's bytes alone: length not 24, kind, detail or field out of range, unused field not zero. What a layout leaves
-- behind the retailer is unused in every record.
unfoldable pub reading_by : Layout → List ℕ → Option Record
reading_by layout bytes =
    cond (eqb (length bytes) record_length && eqb (field_of layout.rest bytes) 0 && well_formed_by layout (fields_by layout bytes))
    (Some (fields_by layout bytes)) None

abbrev pub reading : List ℕ → Option Record
reading = reading_by wide
