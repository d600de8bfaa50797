-- What a look-up finds: every record of a sound directory by its digits, and nothing but the only record that has them. Assumes nothing.
use Prim.Native.Nat.{ℕ}
use mathlib.Core.Path.{◌≡◌, refl, sym, ap, ap₂, ◌∙◌}
use mathlib.Core.List.{List, [], ◌∷◌}
use mathlib.Core.Bool.{Bool, true, false, not, ◌||◌}
use native.Mathlib.Omega.{arith}
use borrow.Author.Tests.{not-true}
use Rattle.lists.specs.Search.{any_of, all_of, Each}
use Rattle.lists.proofs.TestLaws.{and_left, and_right, or_left, or_right}
use Rattle.lists.proofs.SearchLaws.{each_of_all}
use Rattle.std.specs.Prelude.{Ok, Err}
use Rattle.esi_rules.specs.declared.Refusal.{Refusal}
use Rattle.esi_rules.specs.Distinct.{distinct}
use Rattle.esi_rules.specs.Directory.{records, premise_of, used_halves, is_count, record_kept, same_digits, same_id, same_premise, sound}
use Rattle.esi_rules.specs.LookUp.{is_id_text, digits_of, text_of, has_digits, premise_where, look_up}
use Rattle.esi_rules.specs.Theorems.{EachIsFound, OnlyOne, FoundIsOnlyOne}
use Rattle.esi_rules.proofs.Rows.{Long, long, each_both}
use Rattle.esi_rules.proofs.KeyLaws.{rules_of, used_length, digits_of_all, same_refl, same_true, same_swap}
use Rattle.esi_rules.proofs.TextLaws.{digits_back, text_of_id}
use Rattle.esi_rules.proofs.Answers.{sound_of, given, premise_some, look_unsound, look_malformed, look_none, look_found}

-- the first of distinct records has another ESI ID than each later one
none_later : (x : List ℕ) (xs : List (List ℕ)) → distinct same_id (x ∷ xs) ≡ true → any_of (same_id x) xs ≡ false
none_later x xs h = not-true (any_of (same_id x) xs) (and_left (not (any_of (same_id x) xs)) (distinct same_id xs) h)

-- ---- every record is found
-- P is the first P of the records that have a record's own digits
abbrev Leads : List (List ℕ) → List ℕ → Type 0
Leads rs row = premise_where (has_digits (used_halves row)) rs ≡ premise_of row

leads_later : (x : List ℕ) (xs ys : List (List ℕ)) → any_of (same_id x) ys ≡ false → Each (Leads xs) ys → Each (Leads (x ∷ xs)) ys
leads_later x xs [] q h = tt
leads_later x xs (y ∷ ys) q h =
    (rw (or_left (same_id x y) (any_of (same_id x) ys) q) h.0, leads_later x xs ys (or_right (same_id x y) (any_of (same_id x) ys) q) h.1)

each_leads : (rs : List (List ℕ)) → distinct same_id rs ≡ true → Each (Leads rs) rs
each_leads [] h = tt
each_leads (x ∷ xs) h = (
  rw (same_refl (used_halves x)),
  leads_later x xs xs (none_later x xs h)
      (each_leads xs (and_right (not (any_of (same_id x) xs)) (distinct same_id xs) h)),
)

-- a record that breaks no rule, with its length
record Entered (row : List ℕ) : Type 0 where
  pub long : Long row
  pub rules : record_kept row ≡ true

found_by : (directory : List ℕ) → sound directory ≡ true → (row : List ℕ) → Entered row → Leads (records directory) row
    → look_up directory (text_of (used_halves row)) ≡ Ok (premise_of row)
found_by directory s row k leads =
    let r = rules_of row k.rules in
    let digits = used_halves row in
    let text = text_of_id digits (digits_of_all digits r.used) (ap is_count (used_length row k.long k.rules) ∙ r.count) in
    let some = premise_some (has_digits digits) (records directory) (λ e. given row k.rules (sym leads ∙ e)) in
    let back = digits_back digits in
    look_found directory (text_of digits) s text (ap (λ (ds : List ℕ). any_of (has_digits ds) (records directory)) back ∙ some)
    ∙ ap Ok (ap (λ (ds : List ℕ). premise_where (has_digits ds) (records directory)) back ∙ leads)

pub each_is_found : EachIsFound
each_is_found directory s =
    let rs = records directory in
    let k = sound_of directory s in
    let entered =
    each_both Long (λ (row : List ℕ). record_kept row ≡ true) Entered (λ row l e. record { long = l; rules = e }) rs (long directory)
    (each_of_all record_kept rs k.kept) in
    each_both Entered (Leads rs) (λ (row : List ℕ). look_up directory (text_of (used_halves row)) ≡ Ok (premise_of row))
    (found_by directory s) rs entered
    (each_leads rs (and_left (distinct same_id rs) (distinct same_premise rs) k.none))

-- ---- what is found is the only one
-- the others have none of the digits that the first has
none_other : (digits x : List ℕ) (xs : List (List ℕ)) → used_halves x ≡ digits → any_of (same_id x) xs ≡ false
    → any_of (has_digits digits) xs ≡ false
none_other digits x xs e h =
    all_agree xs ∙ h
  where
    one : (y : List ℕ) → has_digits digits y ≡ same_id x y
    one y = same_swap (used_halves y) digits ∙ ap (λ (ds : List ℕ). same_digits ds (used_halves y)) (sym e)

    all_agree : (ys : List (List ℕ)) → any_of (has_digits digits) ys ≡ any_of (same_id x) ys
    all_agree [] = refl
    all_agree (y ∷ ys) = ap₂ (λ (a b : Bool). a || b) (one y) (all_agree ys)

only_one : (digits : List ℕ) (rs : List (List ℕ)) → all_of record_kept rs ≡ true → distinct same_id rs ≡ true
    → any_of (has_digits digits) rs ≡ true
    → OnlyOne rs digits (premise_where (has_digits digits) rs)
only_one digits [] k h a = absurd (let z : ◌≡◌ {A = ℕ} 0 1 = cc in omega arith)
only_one digits (x ∷ xs) k h a =
    go (has_digits digits x) refl (only_one digits xs (and_right (record_kept x) (all_of record_kept xs) k)
    (and_right (not (any_of (same_id x) xs)) (distinct same_id xs) h))
  where
    go : (b : Bool) → has_digits digits x ≡ b → (any_of (has_digits digits) xs ≡ true → OnlyOne xs digits (premise_where (has_digits digits) xs))
        → OnlyOne (x ∷ xs) digits (premise_where (has_digits digits) (x ∷ xs))
    go true q ih =
        let has = same_true (used_halves x) digits q in
        let not0 = given x (and_left (record_kept x) (all_of record_kept xs) k) in
        rw q record {
          before = [];
          row = x;
          behind = xs;
          parts = refl;
          has = has;
          none_before = refl;
          none_behind = none_other digits x xs has (none_later x xs h);
          gives = refl;
          given = omega (arith, not0);
        }
    go false q ih =
        let later = ih (rw q at a) in
        rw q record {
          before = x ∷ later.before;
          row = later.row;
          behind = later.behind;
          parts = ap (λ (l : List (List ℕ)). x ∷ l) later.parts;
          has = later.has;
          none_before = rw q later.none_before;
          none_behind = later.none_behind;
          gives = later.gives;
          given = later.given;
        }

-- a refusal is no P found
refused : {refusal : Refusal} {premise : ℕ} → Err refusal ≡ Ok premise → ⊥
refused e = let z : ◌≡◌ {A = ℕ} 0 1 = cc in omega arith

pub found_is_only_one : FoundIsOnlyOne
found_is_only_one directory text premise e =
    go (sound directory) refl (is_id_text text) refl (any_of (has_digits (digits_of text)) (records directory)) refl
  where
    go : (s : Bool) → sound directory ≡ s → (t : Bool) → is_id_text text ≡ t → (a : Bool)
        → any_of (has_digits (digits_of text)) (records directory) ≡ a
        → OnlyOne (records directory) (digits_of text) premise
    go false s t u a v = absurd (refused (sym (look_unsound directory text s) ∙ e))
    go true s false t a v = absurd (refused (sym (look_malformed directory text s t) ∙ e))
    go true s true t false v = absurd (refused (sym (look_none directory text s t v) ∙ e))
    go true s true t true v =
        let k = sound_of directory s in
        let rs = records directory in
        let same : premise_where (has_digits (digits_of text)) rs ≡ premise = cc (sym (look_found directory text s t v) ∙ e) in
        rw (sym same) (only_one (digits_of text) rs k.kept (and_left (distinct same_id rs) (distinct same_premise rs) k.none) v)
