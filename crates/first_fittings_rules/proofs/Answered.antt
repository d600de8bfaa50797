-- What a call promises, by the row that it meets, either way. Assumes nothing.
use Prim.Native.Nat.{ℕ, ◌/◌, ◌%◌, ◌≤◌, ◌<◌}
use mathlib.Core.Path.{◌≡◌, refl, sym, ap, ◌∙◌}
use mathlib.Core.List.{List, [], ◌∷◌, ◌++◌}
use mathlib.Core.Bool.{Bool, true, false, not, cond}
use native.Mathlib.Nat.{mul_comm, div-lt_iff_lt-mul, le-div_iff_mul-le}
use native.Mathlib.Omega.{arith}
use lib.Dec.{eqb, ltb}
use lib.ListN.{length, drop, length-append}
use borrow.Author.Tests.{eq-eqb, ne_eqb, lt-ltb, le-ltb}
use Rattle.lists.specs.Search.{any_of}
use Rattle.std.specs.Prelude.{Ok, Err}
use Rattle.first_fittings_rules.specs.declared.Refusal.{Refusal}
use Rattle.first_fittings_rules.specs.declared.Refusal.TheVariants.{NotWhole, ShortBuffer, LastBytesUsed}
use Rattle.first_fittings_rules.specs.Layout.{records_of}
use Rattle.first_fittings_rules.specs.Answers.{Answer, number, written, row, first_row}
use Rattle.first_fittings_rules.specs.Conversions.{Way, to24, converted, rows, answer, given, Promised}
use Rattle.first_fittings_rules.proofs.Ways.{Into, converted-length}

-- the three tests
abbrev pub is_part : Way → List ℕ → Bool
is_part way tape = not (eqb (length tape % way.size) 0)

abbrev pub is_short : Way → List ℕ → List ℕ → Bool
is_short way tape lent = ltb (length lent) (length (converted way tape))

abbrev pub is_used : Way → List ℕ → Bool
is_used way tape = any_of way.barred (records_of way.size tape)

-- and the answer by them, in their order
abbrev pub by_tests : Bool → Bool → Bool → ℕ → Answer
by_tests part short used = first_row (row NotWhole part ∷ row ShortBuffer short ∷ row LastBytesUsed used ∷ [])

-- no refusal has the number of a conversion
refusal_numbered : (refusal : Refusal) → eqb (number (Err refusal)) 0 ≡ false
unfolding number
refusal_numbered NotWhole = refl
refusal_numbered ShortBuffer = refl
refusal_numbered LastBytesUsed = refl

module _ (way : Way) (tape before : List ℕ) where
  pub answer_by_lem : {part short used : Bool} → is_part way tape ≡ part → is_short way tape before ≡ short → is_used way tape ≡ used
      → answer way tape before ≡ by_tests part short used (length (converted way tape))
  unfolding answer rows
  answer_by_lem {part} {short} {used} e f g =
      λ i. by_tests (e i) (f i) (g i) (length (converted way tape))

  pub given_by : {a : Answer} → answer way tape before ≡ a → given way tape before ≡ cond (eqb (number a) 0) (converted way tape) []
  unfolding given
  given_by f = ap (λ (a : Answer). cond (eqb (number a) 0) (converted way tape) []) f

  -- a call keeps its promise by what it is to write
  promised : (r : Answer) {made : List ℕ} (after : List ℕ) → answer way tape before ≡ r → given way tape before ≡ made
      → written r ≡ length made → after ≡ made ++ drop (length made) before → Promised way tape before r after
  promised r after f g k e =
      record {
        answered = sym f;
        count = k ∙ sym (ap length g);
        bytes = e ∙ sym (ap (λ (l : List ℕ). l ++ drop (length l) before) g);
      }

  -- a refusal writes nothing
  pub refused : (refusal : Refusal) → answer way tape before ≡ Err refusal → Promised way tape before (Err refusal) before
  refused refusal f =
      promised (Err refusal) before f
      (given_by f ∙ ap (λ (b : Bool). cond b (converted way tape) []) (refusal_numbered refusal))
      refl refl

  -- a converted tape is written whole
  pub accepted : (count : ℕ) (after : List ℕ) → answer way tape before ≡ Ok (length (converted way tape)) → count ≡ length (converted way tape)
      → after ≡ converted way tape ++ drop count before → Promised way tape before (Ok count) after
  unfolding number
  accepted count after f k e =
      promised (Ok count) after (f ∙ ap Ok (sym k)) (given_by f) k
      (e ∙ ap (λ (n : ℕ). converted way tape ++ drop n before) k)

-- the rows by the tests that the code makes, one after another
module _ (way : Way) (into : ℕ) (some : 0 < into) (long : Into way into) (tape before : List ℕ) where
  pub not_whole : (length tape % way.size ≡ 0 → ⊥) → answer way tape before ≡ Err NotWhole
  not_whole h = answer_by_lem way tape before (ap not (ne_eqb (length tape % way.size) 0 h)) refl refl

  module _ (whole : length tape % way.size ≡ 0) where
    no_part : is_part way tape ≡ false
    no_part = ap not (eq-eqb (length tape % way.size) 0 whole)

    pub too_short_lem : length before / into < length tape / way.size → answer way tape before ≡ Err ShortBuffer
    too_short_lem h =
        let less : length before < length (converted way tape) =
        omega (
          arith,
          (div-lt_iff_lt-mul {k = into} {x = length before} {y = length tape / way.size} some).0 h,
          mul_comm (length tape / way.size) into,
          converted-length way into long tape,
        ) in
        answer_by_lem way tape before no_part (lt-ltb (length before) (length (converted way tape)) less) refl

    module _ (h : length tape / way.size ≤ length before / into) where
      room : is_short way tape before ≡ false
      room =
          let fits : length (converted way tape) ≤ length before =
          omega (
            arith,
            (le-div_iff_mul-le {k = into} {x = length tape / way.size} {y = length before} some).0 h,
            mul_comm (length tape / way.size) into,
            converted-length way into long tape,
          ) in
          le-ltb (length before) (length (converted way tape)) fits

      pub last_bytes : is_used way tape ≡ true → answer way tape before ≡ Err LastBytesUsed
      last_bytes e = answer_by_lem way tape before no_part room e

      pub converts : is_used way tape ≡ false → answer way tape before ≡ Ok (length (converted way tape))
      converts e = answer_by_lem way tape before no_part room e

-- to 24 no record is bad
pub none_barred : (rs : List (List ℕ)) → any_of to24.barred rs ≡ false
none_barred [] = refl
none_barred (r ∷ rs) = none_barred rs

-- what was written stands within the buffer
pub written_within : {way : Way} {tape before after : List ℕ} {r : Answer}
    → Promised way tape before r after → written r ≤ length after
written_within {way} {tape} {before} p =
    let made = given way tape before in
    omega (arith, p.count, ap length p.bytes, length-append made (drop (length made) before))
