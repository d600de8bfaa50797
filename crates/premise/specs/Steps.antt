-- Document 01, "Records": the steps of each record kind on a file, before the evaluation that ends kinds 3 to 9, and 11 of document 02;
-- and kind 12 of document 02, which runs none.
use Rattle.std.specs.Prelude.{ℕ, List, [], ◌∷◌, ◌++◌, Bool, cond, not, ◌&&◌, ◌||◌, eqb, leb, length, set, get_or, replicate}
use Rattle.lists.specs.Search.{place_of, without_first}
use Rattle.std.specs.Prelude.{Option, Some, None}
use Rattle.days.specs.Days.{no_day, is_day, is_business_day, switch_date}
use Rattle.days.specs.Window.{window_width}
use Rattle.records.specs.declared.Record.{Record}
use Rattle.records.specs.Notices.{tdsp}
use Rattle.records.specs.Records.{kind_scheduled, kind_permit, kind_unexecutable, kind_read, kind_cancel, kind_reply, move_in, move_out}
use Rattle.records.specs.Records.{kind_date_change, standard_switch, reply_accept, delete, counter_of}
use Rattle.premise.specs.declared.Order.{Order}
use Rattle.premise.specs.declared.File.{File}
use Rattle.premise.specs.Orders.{most_orders, in_review, permit_pending, scheduled, cancel_pending, complete, cancelled, unexecutable}
use Rattle.premise.specs.Orders.{has_status, has_kind, is_open, is_closed, no_retailer, business_days, calendar_days, with_status}
use Rattle.premise.specs.Orders.{with_scheduled, with_waited, with_pending, blank, held, with_orders, with_supply, with_agreement}
use Rattle.premise.specs.Passes.{Change, Effect, notice, code_order, code_move_out, code_scheduled, code_cancel, code_permit}
use Rattle.premise.specs.Passes.{code_unexecutable, code_reject, code_date_change, code_agreement_request, code_agreement_response}
use Rattle.premise.specs.Passes.{notice_of_no_order}

-- whether a record is of a kind
abbrev pub is : ℕ → Record → Bool
is kind r = eqb r.kind kind

-- Document 02, change 2: a create's detail is the window, "and 0 means 2".
abbrev pub width_for : ℕ → ℕ
width_for detail = cond (eqb detail 0) window_width detail

-- 1 create: new file; S is the day.
abbrev pub new_file : Record → File
new_file r =
    record {
      premise = r.premise;
      retailer = r.retailer;
      since = r.day;
      window = width_for r.detail;
      agreement = 0;
      entered = 0;
      count = 0;
      orders = replicate most_orders blank;
    }

-- 3 new order: for K 3 RD becomes the switch date; otherwise RD is the day.
unfoldable pub requested_day : List ℕ → ℕ → Record → ℕ
requested_day calendar today r = cond (eqb r.detail standard_switch) (switch_date calendar today) r.day

-- N 1 if T is a business day, else 0.
abbrev pub wait_begun : List ℕ → ℕ → ℕ
wait_begun calendar today = cond (is_business_day calendar today) 1 0

-- It starts In Review, SD none, W and told 0. Document 02, change 1: "The order keeps the last counter, 0 at first."
abbrev pub new_order : List ℕ → ℕ → Record → Order
new_order calendar today r =
    record {
      reference = r.reference;
      kind = r.detail;
      submitter = r.retailer;
      requested = requested_day calendar today r;
      scheduled = no_day;
      status = in_review;
      waited = business_days (wait_begun calendar today);
      pending = calendar_days 0;
      told = 0;
      counter = 0;
    }

-- If 8 orders are held, the oldest closed one is dropped.
unfoldable pub make_room : List Order → List Order
make_room os = cond (eqb (length os) most_orders) (without_first is_closed os) os

-- Notice 1, or 2 for a move out, both to the TDSP.
unfoldable pub ordered : List ℕ → ℕ → File → Record → Effect
ordered calendar today f r =
    record {
      file = with_orders f (make_room (held f) ++ (new_order calendar today r ∷ []));
      notices = notice (cond (eqb r.detail move_out) code_move_out code_order) f.premise tdsp (new_order calendar today r) ∷ [];
    }

-- Kinds 4 to 9 and 11 name an order by its reference: its place among a file's orders.
abbrev pub named : Record → List Order → Option ℕ
named r os = place_of (λ (o : Order). eqb o.reference r.reference) os

-- the order found, or a blank one
abbrev pub order_at : List Order → Option ℕ → Order
order_at os (Some i) = get_or os i blank
order_at os None = blank

-- From which statuses, and for which K, each of these kinds is taken. Document 02, change 1, of kind 11: "It is for move in and move out in
-- status 1 or 3".
unfoldable pub taken : Record → Order → Bool
taken r o =
    is kind_scheduled r && (has_status in_review o || has_status permit_pending o || has_status cancel_pending o)
    || is kind_permit r && has_kind move_in o && has_status in_review o
    || is kind_unexecutable r && is_open o
    || is kind_read r && (has_status scheduled o || has_status permit_pending o)
    || is kind_cancel r && (has_status in_review o || has_status permit_pending o || has_status scheduled o)
    || is kind_reply r && has_status cancel_pending o
    || is kind_date_change r && (has_kind move_in o || has_kind move_out o) && (has_status in_review o || has_status scheduled o)

-- 4 scheduled: Scheduled, SD the day, W 0. Notice 3 to Q.
unfoldable pub on_scheduled : File → Record → Order → Change
on_scheduled f r o =
    record {
      order = with_pending 0 (with_scheduled r.day (with_status scheduled o));
      notices = notice code_scheduled f.premise o.submitter (with_pending 0 (with_scheduled r.day (with_status scheduled o))) ∷ [];
    }

-- 5 permit required: Permit Pending, N 0. Notice 6 to Q.
unfoldable pub on_permit : File → Record → Order → Change
on_permit f r o =
    record {
      order = with_waited 0 (with_status permit_pending o);
      notices = notice code_permit f.premise o.submitter (with_waited 0 (with_status permit_pending o)) ∷ [];
    }

-- Whom a told order tells: R. Document 02, change 3: "When a told move out is unexecutable, the second notice 7 goes to C, whatever R is;
-- if C is 0, there is none."
abbrev pub told_retailer : File → Order → ℕ
told_retailer f o = cond (has_kind move_out o) f.agreement f.retailer

-- 6 unexecutable: Unexecutable, W 0. Notice 7 to Q; if told and R is not 0, then also to R.
unfoldable pub on_unexecutable : File → Record → Order → Change
on_unexecutable f r o =
    record {
      order = with_pending 0 (with_status unexecutable o);
      notices =
          notice code_unexecutable f.premise o.submitter (with_pending 0 (with_status unexecutable o))
          ∷ cond (eqb o.told 1 && not (eqb (told_retailer f o) no_retailer))
          (notice code_unexecutable f.premise (told_retailer f o) (with_pending 0 (with_status unexecutable o)) ∷ [])
          [];
    }

-- 7 meter read. From 3: Complete, SD the day. From 2: In Review. No notice.
unfoldable pub on_read : File → Record → Order → Change
on_read f r o =
    record {
      order = cond (has_status scheduled o) (with_scheduled r.day (with_status complete o)) (with_status in_review o);
      notices = [];
    }

-- Document 02, change 4: "on a day equal to S, a move out leaves R as it is if R was set by a move in read on that day" .. "The move out
-- that is held off becomes Complete; R, S and the mark remain."
abbrev pub is_held_off : File → Record → Order → Bool
is_held_off f r o = has_kind move_out o && eqb r.day f.since && eqb f.entered 1

-- 7, from 3: if the day is at least S, then S is the day and R becomes Q (0 for a move out). Document 02, change 3: "A move out's read on a
-- day not before S now sets R to C, where it set 0." Change 4: "The mark is set by every read from Scheduled of a move in on a day not
-- before S, even when R was already its retailer; a read from Permit Pending leaves it. Any other read that sets R clears it".
unfoldable pub supplied : File → Record → Order → File
supplied f r o =
    cond (is kind_read r && has_status scheduled o && leb f.since r.day && not (is_held_off f r o))
    (with_supply f (cond (has_kind move_out o) f.agreement o.submitter) r.day (cond (has_kind move_in o) 1 0))
    f

-- 8 cancel: Cancel Pending, W 0. Notice 5 to the TDSP.
unfoldable pub on_cancel : File → Record → Order → Change
on_cancel f r o =
    record {
      order = with_pending 0 (with_status cancel_pending o);
      notices = notice code_cancel f.premise tdsp (with_pending 0 (with_status cancel_pending o)) ∷ [];
    }

-- 9 cancel reply, W 0. Accept: Cancelled, notice 5 to Q. Reject: Scheduled if SD is a day, else In Review; notice 8 to Q.
unfoldable pub on_reply : File → Record → Order → Change
on_reply f r o =
    cond (eqb r.detail reply_accept)
    (record {
      order = with_pending 0 (with_status cancelled o);
      notices = notice code_cancel f.premise o.submitter (with_pending 0 (with_status cancelled o)) ∷ [];
    })
    (record {
      order = with_pending 0 (with_status (cond (is_day o.scheduled) scheduled in_review) o);
      notices = notice code_reject f.premise o.submitter
          (with_pending 0 (with_status (cond (is_day o.scheduled) scheduled in_review) o)) ∷ [];
    })

-- kinds 4 to 9 on the order that they name
unfoldable pub on_order : File → Record → Order → Change
on_order f r o =
    cond (is kind_scheduled r) (on_scheduled f r o)
    (cond (is kind_permit r) (on_permit f r o)
    (cond (is kind_unexecutable r) (on_unexecutable f r o)
    (cond (is kind_read r) (on_read f r o)
    (cond (is kind_cancel r) (on_cancel f r o)
    (on_reply f r o)))))

-- Document 02, change 1. 11 date change: "When taken, RD is the new day, SD is none, status is In Review, and N restarts as for a new
-- order. .. Told becomes 0 in every case." The counter is kept; F, K, Q and W stay.
abbrev pub redated : List ℕ → ℕ → Record → Order → Order
redated calendar today r o =
    record {
      reference = o.reference;
      kind = o.kind;
      submitter = o.submitter;
      requested = r.day;
      scheduled = no_day;
      status = in_review;
      waited = business_days (wait_begun calendar today);
      pending = o.pending;
      told = 0;
      counter = counter_of r;
    }

-- "Notice 9 goes to the TDSP, and then to R if the order is a move in, told is 1 and R is not 0": as they were before the record.
unfoldable pub on_date_change : List ℕ → ℕ → File → Record → Order → Change
on_date_change calendar today f r o =
    record {
      order = redated calendar today r o;
      notices =
          notice code_date_change f.premise tdsp (redated calendar today r o)
          ∷ cond (has_kind move_in o && eqb o.told 1 && not (eqb f.retailer no_retailer))
          (notice code_date_change f.premise f.retailer (redated calendar today r o) ∷ [])
          [];
    }

-- Document 02, change 3. 12 agreement: "Establishing replaces C; a different earlier holder gets notice 10 (814_18), the new one notice 11
-- (814_19), in that order. Deleting sets C to 0 with notice 11 to the retailer named."
abbrev pub has_other_holder : File → Record → Bool
has_other_holder f r = not (eqb f.agreement no_retailer) && not (eqb f.agreement r.retailer)

unfoldable pub agreed : File → Record → Effect
agreed f r =
    cond (eqb r.detail delete)
    (record {
      file = with_agreement f no_retailer;
      notices = notice_of_no_order code_agreement_response f.premise r.retailer ∷ [];
    })
    (record {
      file = with_agreement f r.retailer;
      notices =
          cond (has_other_holder f r) (notice_of_no_order code_agreement_request f.premise f.agreement ∷ []) []
          ++ (notice_of_no_order code_agreement_response f.premise r.retailer ∷ []);
    })

-- the kinds that name an order, on that order
unfoldable pub on_named : List ℕ → ℕ → File → Record → Order → Change
on_named calendar today f r o = cond (is kind_date_change r) (on_date_change calendar today f r o) (on_order f r o)

-- the same on the file: the order changed in its place
unfoldable pub changed : List ℕ → ℕ → File → Record → ℕ → Order → Effect
changed calendar today f r i o =
    record {
      file = with_orders (supplied f r o) (set (held f) i (on_named calendar today f r o).order);
      notices = (on_named calendar today f r o).notices;
    }
