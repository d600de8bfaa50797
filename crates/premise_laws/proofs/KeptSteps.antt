-- Every step leaves a well_kept file of the same premise, or none, and within a retailer's share where the file was. A refusal leaves what
-- there was; a create makes a file from a record in range; a retire leaves none; the other kinds and a day mark leave a well_kept file as
-- proved for each. Assumes nothing.
use Prim.Native.Nat.{ℕ}
use mathlib.Core.Path.{◌≡◌, refl, sym, ap, ap₂, ◌∙◌}
use mathlib.Core.List.{List, []}
use Rattle.std.specs.Prelude.{Option, Some, None}
use mathlib.Core.Bool.{Bool, true, false, not, ◌&&◌, ◌||◌, and-true, or-true}
use native.Mathlib.Omega.{arith}
use lib.Dec.{eqb, leb}
use borrow.Author.Tests.{eqb-true, eqb-false, le-leb, not-false}
use Rattle.lists.proofs.TestLaws.{by_test, and_right, and_other}
use Rattle.records.specs.declared.Record.{Record}
use Rattle.records.specs.Records.{kind_create, kind_retire, kind_new_order, kind_scheduled, kind_reply, kind_day_mark, kind_date_change}
use Rattle.records.specs.Records.{kind_agreement, delete, a_retailer_or_none, well_formed}
use Rattle.records.proofs.Formed.{formed}
use Rattle.premise.specs.declared.File.{File}
use Rattle.premise.specs.Orders.{no_retailer, held, places}
use Rattle.premise.specs.Passes.{Effect}
use Rattle.premise.specs.Evaluation.{evaluated}
use Rattle.premise.specs.Steps.{is, new_file, ordered, named, order_at, taken, agreed}
use Rattle.premise.specs.WellKept.{FileKept}
use Rattle.premise.specs.Refusals.{number, rows, first_row, names_order}
use Rattle.premise.specs.OnePremise.{Given, at_place, stepped, effect_on, given_on, step_with, stepped_with}
use Rattle.premise_laws.specs.Laws.{Held, KeptFor, StepKeeps, WithinShare, StepKeepsShares}
use Rattle.premise_laws.proofs.KeptPasses.{kept_with, kept_agreement, evaluated_leaves, mark_leaves}
use Rattle.premise_laws.proofs.KeptRecords.{width_kept, create_fits, agreement_fits, NoRow, no_row}
use Rattle.premise_laws.proofs.KeptNew.{ordered_keeps, ordered_share}
use Rattle.premise_laws.proofs.KeptNamed.{named_leaves}

-- a file that is left: well kept, and within a retailer's share if what was known of the file before says so
record Left (premise retailer : ℕ) (before : Type 0) (f : File) : Type 0 where
  kept : KeptFor premise f
  share : before → WithinShare retailer f

abbrev LeftBy : ℕ → ℕ → Type 0 → Given → Type 0
LeftBy premise retailer before given = Held (Left premise retailer before) given.state.file

-- a record that is neither create nor retire, new order, day mark nor agreement names an order
names_order_lem : (r : Record) → well_formed r ≡ true → is kind_create r ≡ false → is kind_retire r ≡ false → is kind_new_order r ≡ false
    → is kind_day_mark r ≡ false → is kind_agreement r ≡ false → names_order r ≡ true
names_order_lem r w c t n d a = go (is kind_date_change r) refl
  where
    go : (change : Bool) → is kind_date_change r ≡ change → names_order r ≡ true
    go true e = ap (λ (x : Bool). leb kind_scheduled r.kind && leb r.kind kind_reply || x) e ∙ or-true
        (leb kind_scheduled r.kind && leb r.kind kind_reply)
    go false e =
        let k = (formed r w).kind in
        ap₂ (λ (x y : Bool). x && y || is kind_date_change r)
        (le-leb kind_scheduled r.kind
        (omega (
          arith,
          k.given,
          eqb-false r.kind kind_create c,
          eqb-false r.kind kind_retire t,
          eqb-false r.kind kind_new_order n,
        )))
        (le-leb r.kind kind_reply
        (omega (
          arith,
          k.within,
          eqb-false r.kind kind_day_mark d,
          eqb-false r.kind kind_date_change e,
          eqb-false r.kind kind_agreement a,
        )))

module _ (calendar : List ℕ) (today : ℕ) (r : Record) (premise retailer : ℕ) (w : well_formed r ≡ true) where
  -- kind 1
  new_file_left : (before : Type 0) → is kind_create r ≡ true → r.premise ≡ premise → Left premise retailer before (new_file r)
  unfolding places
  new_file_left before e p =
      let fits = create_fits r w e in
      record {
        kept = kept_with premise (new_file r) []
            (record {
              number = p;
              known = fits.premise;
              retailer = fits.retailer;
              since = fits.day;
              window = width_kept r.detail fits.detail;
              agreement = refl;
              entered = refl;
            }) (omega arith) tt refl;
        share = λ h. omega arith;
      }

  -- kinds 3 to 9 and 11
  module _ (f : File) (n : NoRow calendar today (Some f) r) (k : KeptFor premise f) where
    -- the order that is named is taken, by row 14
    pub named_taken : is kind_retire r ≡ false → is kind_day_mark r ≡ false → is kind_agreement r ≡ false → is kind_new_order r ≡ false
        → taken r (order_at (held f) (named r (held f))) ≡ true
    named_taken t d a e =
        let o = order_at (held f) (named r (held f)) in
        let c = sym (and-true (is kind_create r)) ∙ n.premise_held in
        not-false (taken r o) (and_other (names_order r) (not (taken r o)) n.status_not_taken (names_order_lem r w c t e d a))

    stepped_left : is kind_retire r ≡ false → is kind_day_mark r ≡ false → is kind_agreement r ≡ false
        → Left premise retailer (WithinShare retailer f) (stepped calendar today f r).file
    unfolding stepped_with
    stepped_left t d agreement = ending
        (by_test (λ (e : Effect). Left premise retailer (WithinShare retailer f) e.file) (is kind_new_order r) (ordered calendar today f r)
        (at_place calendar today f r (named r (held f)))
        (λ e. record {
          kept = ordered_keeps calendar today f r w n e premise k;
          share = ordered_share calendar today f r w n e retailer;
        })
        (λ e. let a = named_leaves calendar today f r w (named_taken t d agreement e) premise k in
        record { kept = a.kept; share = λ h. omega (arith, h, a.open_of_lem retailer) }))
      where
        -- .. and then the evaluation
        ending : {g : File} → Left premise retailer (WithinShare retailer f) g
            → Left premise retailer (WithinShare retailer f) (evaluated calendar today g).file
        ending {g} a =
            let b = evaluated_leaves calendar today g premise a.kept in
            record { kept = b.kept; share = λ h. omega (arith, a.share h, b.open_of_lem retailer) }

    -- kind 12 leaves the orders, and C is in range
    agreed_left : is kind_agreement r ≡ true → Left premise retailer (WithinShare retailer f) (agreed f r).file
    unfolding agreed
    agreed_left e = by_test (λ (a : Effect). Left premise retailer (WithinShare retailer f) a.file) (eqb r.detail delete) _ _
        (λ d. record { kept = kept_agreement premise f no_retailer refl k; share = λ h. h })
        (λ d. record {
          kept = kept_agreement premise f r.retailer
              (and_right (leb 1 r.retailer) (a_retailer_or_none r.retailer) (agreement_fits r w e).retailer) k;
          share = λ h. h;
        })

  -- where there is no file, a create is of the premise
  abbrev Own : Option File → Type 0
  Own None = is kind_create r ≡ true → r.premise ≡ premise
  Own (Some f) = Unit {0}

  effect_left : (file : Option File) → Own file → NoRow calendar today file r → Held (KeptFor premise) file
      → LeftBy premise retailer (Held (WithinShare retailer) file) (effect_on calendar today file r)
  effect_left None own n k =
      by_test (LeftBy premise retailer (Unit {0})) (is kind_create r) _ _ (λ e. new_file_left (Unit {0}) e (own e)) (λ e. tt)
  effect_left (Some f) own n k =
      by_test (LeftBy premise retailer (WithinShare retailer f)) (is kind_retire r) _ _ (λ t. tt)
      (λ t. by_test (LeftBy premise retailer (WithinShare retailer f)) (is kind_day_mark r) _ _
      (λ d. let a = mark_leaves calendar r.day f premise k in
      record { kept = a.kept; share = λ h. omega (arith, h, a.open_of_lem retailer) })
      (λ d. by_test (λ (a : Effect). Left premise retailer (WithinShare retailer f) a.file) (is kind_agreement r) _ _ (agreed_left f n k)
      (stepped_left f n k t d)))

  -- a refusal leaves what there was
  as_before : (file : Option File) → Held (KeptFor premise) file → Held (Left premise retailer (Held (WithinShare retailer) file)) file
  as_before None k = tt
  as_before (Some f) k = record { kept = k; share = λ h. h }

  step_left : (file : Option File) → Own file → Held (KeptFor premise) file
      → LeftBy premise retailer (Held (WithinShare retailer) file) (given_on calendar today file r)
  unfolding step_with
  step_left file own k =
      by_test (LeftBy premise retailer (Held (WithinShare retailer) file)) (eqb (number (first_row (rows calendar today file r))) 0) _ _
      (λ e. effect_left file own (no_row calendar today file r e) k)
      (λ e. as_before file k)

-- ---- the two laws
pub step_keeps : StepKeeps
step_keeps calendar s r premise w p k = go (given_on calendar s.today s.file r).state.file
    (step_left calendar s.today r premise 0 w s.file (own s.file) k)
  where
    -- a create is no day mark
    own : (file : Option File) → Own calendar s.today r premise 0 w file
    own None = λ e. p (ap (λ (kind : ℕ). eqb kind kind_day_mark) (eqb-true r.kind kind_create e))
    own (Some f) = tt

    go : (file : Option File) → Held (Left premise 0 (Held (WithinShare 0) s.file)) file → Held (KeptFor premise) file
    go None a = tt
    go (Some f) a = a.kept

pub step_keeps_shares : StepKeepsShares
step_keeps_shares calendar s r retailer w k h = go s.file k h
  where
    share : (premise : ℕ) (before : Type 0) (file : Option File) → before → Held (Left premise retailer before) file
        → Held (WithinShare retailer) file
    share premise before None h a = tt
    share premise before (Some f) h a = a.share h

    go : (file : Option File) → Held FileKept file → Held (WithinShare retailer) file
        → Held (WithinShare retailer) (given_on calendar s.today file r).state.file
    go None k h = share r.premise (Unit {0}) (given_on calendar s.today None r).state.file h
        (step_left calendar s.today r r.premise retailer w None (λ e. refl) tt)
    go (Some f) k h = share f.premise (WithinShare retailer f) (given_on calendar s.today (Some f) r).state.file h
        (step_left calendar s.today r f.premise retailer w (Some f) tt (record { number = refl; kept = k }))
