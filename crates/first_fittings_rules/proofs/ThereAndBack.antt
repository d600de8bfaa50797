-- Converting one way and back gives the tape: one law over any two ways that undo each other. Assumes nothing.
use Prim.Native.Nat.{ℕ, ◌*◌, ◌/◌, ◌%◌, ◌≤◌, ◌<◌}
use mathlib.Core.Path.{◌≡◌, refl, sym, ap, ap₂, ◌∙◌}
use mathlib.Core.List.{List, [], ◌∷◌, ◌++◌, map}
use mathlib.Core.Bool.{Bool, true, false, not, cond, ◌||◌}
use native.Mathlib.Nat.{div-add-mod, mul-div-le, mul-mod_right, mul-div_right}
use native.Mathlib.Omega.{arith}
use lib.Dec.{eqb, ltb}
use lib.ListN.{length, take, drop, length-append, length-map}
use lib.Seq.{take_at}
use borrow.Author.Tests.{eqb-true, not-false, eq-eqb, le-ltb}
use Rattle.lists.specs.Search.{any_of}
use Rattle.lists.proofs.TestLaws.{or_left, or_right}
use Rattle.first_fittings_rules.specs.Layout.{cut, records_of, joined}
use Rattle.first_fittings_rules.specs.Answers.{number, written}
use Rattle.first_fittings_rules.specs.Conversions.{Way, converted, rows, answer, given}
use Rattle.first_fittings_rules.specs.ThereAndBack.{Made, Call, Accepted, wrote, GivesBack, WantsRoomOnly, ThereAndBack, KeepsApart}
use Rattle.first_fittings_rules.proofs.Tapes.{Sized, cut_sized, cut-length, joined_cut, cut_joined}
use Rattle.first_fittings_rules.proofs.Ways.{Into, becomes_sized, converted-length}
use Rattle.first_fittings_rules.proofs.Answered.{is_part, is_short, is_used, by_tests, answer_by_lem, given_by}

-- ---- a call that was not refused
record NoRow (part short used : Bool) : Type 0 where
  is_whole : part ≡ false
  has_room : short ≡ false
  is_clean : used ≡ false

no_row : (part short used : Bool) (count : ℕ) → number (by_tests part short used count) ≡ 0 → NoRow part short used
unfolding number
no_row true short used count e = absurd (omega (arith, e))
no_row false true used count e = absurd (omega (arith, e))
no_row false false true count e = absurd (omega (arith, e))
no_row false false false count e = record { is_whole = refl; has_room = refl; is_clean = refl }

module _ (way : Way) (tape : List ℕ) (call : Made) (ok : Accepted way tape call) where
  met : NoRow (is_part way tape) (is_short way tape call.lent) (is_used way tape)
  met =
      no_row (is_part way tape) (is_short way tape call.lent) (is_used way tape) (length (converted way tape))
      (ap number (sym (answer_by_lem way tape call.lent refl refl refl) ∙ sym ok.promise.answered) ∙ ok.unrefused)

  -- its tape is made of whole records
  whole_tape : length tape ≡ way.size * (length tape / way.size)
  whole_tape =
      let none : length tape % way.size ≡ 0 =
      eqb-true (length tape % way.size) 0 (not-false (eqb (length tape % way.size) 0) met.is_whole) in
      omega (arith, div-add-mod (length tape) way.size, none)

  -- none of which is bad
  clean_tape : is_used way tape ≡ false
  clean_tape = met.is_clean

  -- and it wrote the converted tape
  wrote_converted : wrote call ≡ converted way tape
  unfolding number
  wrote_converted =
      let g : given way tape call.lent ≡ converted way tape =
      given_by way tape call.lent (answer_by_lem way tape call.lent met.is_whole met.has_room met.is_clean) in
      ap₂ (λ (n : ℕ) (l : List ℕ). take n l)
      (ok.promise.count ∙ ap length g)
      (ok.promise.bytes ∙ ap (λ (l : List ℕ). l ++ drop (length l) call.lent) g)
      ∙ take_at (converted way tape) (drop (length (converted way tape)) call.lent) (length (converted way tape)) refl

-- ---- two ways that undo each other
pub record Undoes (there back : Way) : Type 0 where
  pub some : 0 < back.size
  pub into : Into there back.size
  -- what a record becomes is not bad for the way back, and goes back to it
  pub fine : (bytes : List ℕ) → length bytes ≡ there.size → back.barred (there.becomes bytes) ≡ false
  pub undone : (bytes : List ℕ) → length bytes ≡ there.size → there.barred bytes ≡ false → back.becomes (there.becomes bytes) ≡ bytes

module _ (there back : Way) (u : Undoes there back) where
  -- record by record
  all_fine : (rs : List (List ℕ)) → Sized there.size rs → any_of back.barred (map there.becomes rs) ≡ false
  all_fine [] h = refl
  all_fine (r ∷ rs) h = ap₂ (λ (a b : Bool). a || b) (u.fine r h.0) (all_fine rs h.1)

  all_undone : (rs : List (List ℕ)) → Sized there.size rs → any_of there.barred rs ≡ false
      → map back.becomes (map there.becomes rs) ≡ rs
  all_undone [] h e = refl
  all_undone (r ∷ rs) h e =
      ap₂ (λ (a : List ℕ) (b : List (List ℕ)). a ∷ b)
      (u.undone r h.0 (or_left (there.barred r) (any_of there.barred rs) e))
      (all_undone rs h.1 (or_right (there.barred r) (any_of there.barred rs) e))

  module _ (tape : List ℕ) (first : Made) (ok : Accepted there tape first) where
    sized : Sized there.size (records_of there.size tape)
    sized = cut_sized there.size (length tape / there.size) tape (mul-div-le (length tape) there.size)

    new_length : length (converted there tape) ≡ back.size * (length tape / there.size)
    new_length = converted-length there back.size u.into tape

    -- the converted tape has the records that the tape's became
    new_records : records_of back.size (converted there tape) ≡ map there.becomes (records_of there.size tape)
    unfolding converted
    new_records =
        let rs = records_of there.size tape in
        let becoming = map there.becomes rs in
        let many : length (converted there tape) / back.size ≡ length becoming =
        ap (λ (n : ℕ). n / back.size) new_length
        ∙ mul-div_right (length tape / there.size) u.some
        ∙ sym (length-map rs there.becomes ∙ cut-length there.size (length tape / there.size) tape) in
        ap (λ (n : ℕ). cut back.size n (converted there tape)) many
        ∙ cut_joined back.size becoming (becomes_sized there back.size u.into rs sized)

    -- and goes back to the tape
    goes_back : converted back (converted there tape) ≡ tape
    unfolding converted
    goes_back =
        ap (λ (rs : List (List ℕ)). joined (map back.becomes rs)) new_records
        ∙ ap joined (all_undone (records_of there.size tape) sized (clean_tape there tape first ok))
        ∙ joined_cut there.size (length tape / there.size) tape (whole_tape there tape first ok)

    -- the way back has one row left that can hold
    by_room : (lent : List ℕ)
        → answer back (converted there tape) lent ≡ by_tests false (ltb (length lent) (length tape)) false (length (converted back (converted there tape)))
    by_room lent =
        let none : length (converted there tape) % back.size ≡ 0 =
        ap (λ (n : ℕ). n % back.size) new_length ∙ mul-mod_right back.size (length tape / there.size) in
        answer_by_lem back (converted there tape) lent
        (ap not (eq-eqb (length (converted there tape) % back.size) 0 none))
        (ap (λ (l : List ℕ). ltb (length lent) (length l)) goes_back)
        (ap (any_of back.barred) new_records ∙ all_fine (records_of there.size tape) sized)

  gives_back : GivesBack there back
  gives_back tape first second ok ok₂ =
      wrote_converted back (wrote first) second ok₂
      ∙ ap (converted back) (wrote_converted there tape first ok)
      ∙ goes_back tape first ok

  wants_room_only : WantsRoomOnly there back
  unfolding number
  wants_room_only tape first second ok kept =
      ap number
      (kept.answered
      ∙ ap (λ (l : List ℕ). answer back l second.lent) (wrote_converted there tape first ok)
      ∙ by_room tape first ok second.lent)
      ∙ numbered (ltb (length second.lent) (length tape)) (length (converted back (converted there tape)))
    where
      numbered : (short : Bool) (count : ℕ) → number (by_tests false short false count) ≡ cond short 24 0
      numbered true count = refl
      numbered false count = refl

  pub there_and_back : ThereAndBack there back
  there_and_back = record { tape = gives_back; room = wants_room_only }

-- ---- no two tapes are converted to the same bytes
-- the count of an answer is that of the bytes given
by_count : (part short used : Bool) (bytes : List ℕ)
    → written (by_tests part short used (length bytes)) ≡ length (cond (eqb (number (by_tests part short used (length bytes))) 0) bytes [])
unfolding number
by_count true short used bytes = refl
by_count false true used bytes = refl
by_count false false true bytes = refl
by_count false false false bytes = refl

counted : (way : Way) (tape lent : List ℕ) → written (answer way tape lent) ≡ length (given way tape lent)
unfolding answer rows given
counted way tape lent = by_count (is_part way tape) (is_short way tape lent) (is_used way tape) (converted way tape)

-- a call, as the definitions have it
outcome : Way → List ℕ → List ℕ → Made
outcome way tape lent =
    record {
      lent = lent;
      reply = answer way tape lent;
      after = given way tape lent ++ drop (length (given way tape lent)) lent;
    }

module _ (there back : Way) (t : ThereAndBack there back) where
  -- with a buffer as long as the tape or longer the way back gives it
  back_with_room : (tape : List ℕ) (first : Made) → Accepted there tape first
      → (lent : List ℕ) → length tape ≤ length lent → wrote (outcome back (wrote first) lent) ≡ tape
  unfolding outcome
  back_with_room tape first ok lent room =
      let call : Made = outcome back (wrote first) lent in
      let kept : Call back (wrote first) call = record { answered = refl; count = counted back (wrote first) lent; bytes = refl } in
      let enough : ltb (length lent) (length tape) ≡ false = le-ltb (length lent) (length tape) room in
      let zero : number call.reply ≡ 0 = t.room tape first call ok kept ∙ ap (λ (b : Bool). cond b 24 0) enough in
      t.tape tape first call ok (record { promise = kept; unrefused = zero })

  pub keeps_apart : KeepsApart there
  keeps_apart tape other first second ok ok₂ e =
      let lent = tape ++ other in
      sym (back_with_room tape first ok lent (omega (arith, length-append tape other)))
      ∙ ap (λ (bytes : List ℕ). wrote (outcome back bytes lent)) e
      ∙ back_with_room other second ok₂ lent (omega (arith, length-append tape other))
