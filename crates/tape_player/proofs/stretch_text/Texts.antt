-- The loop that puts the texts of records in a row: what is left of their answers, counts and notices has the texts that are left. Assumes
-- nothing.
use Prim.Native.Nat.{ℕ, ◌+◌, ◌*◌, ◌≤◌}
use mathlib.Core.Path.{◌≡◌, refl, sym, ap, ap₂, subst⁻¹, ◌∙◌}
use mathlib.Core.List.{List, [], ◌∷◌, ◌++◌}
use mathlib.Core.Logic.{◌⊎◌}
use native.Mathlib.Omega.{arith}
use lib.ListN.{length, take, drop, length-take, length-drop}
use Rattle.std.proofs.Common.{inl, inr}
use Rattle.records.specs.Layout.{record_length}
use Rattle.tape_text.specs.Numbers.{Puts}
use Rattle.tape_text.proofs.Putting.{Putting, putting_none, putting_length, putting_room, putting_more, putting_all}
use Rattle.tape_reader.specs.declared.Reader.{Reader}
use Rattle.tape_reader.specs.Counts.{most_records, counted, Sound, Within}
use Rattle.tape_reader.proofs.Counts.{counted_sound, counted_place}
use Rattle.tape_output.specs.Stretches.{counted_all}
use Rattle.tape_player.specs.Noted.{noted_text, noted_texts, sum, Printable}

none : (l : List ℕ) → length l ≡ 0 → l ≡ []
none [] h = refl
none (x ∷ l) h = absurd (omega (arith, h))

module _ (reader : Reader) (played : ℕ) (answers counts notices : List ℕ) (start : ℕ) (before : List ℕ) where
  abbrev whole : List ℕ
  whole = noted_texts reader.place (take played answers) (take played counts) notices

  pub record Texts (next : Reader) (as' ns rest : List ℕ) (at : ℕ) (after : List ℕ) : Type 0 where
    pub room : start + length whole ≤ length before
    pub sound : Sound next
    pub within : next.place + length as' ≤ most_records
    pub same : length ns ≡ length as'
    pub held : record_length * sum ns ≤ length rest
    pub counted : counted_all reader (take played answers) ≡ counted_all next as'
    pub put : Putting whole (noted_texts next.place as' ns rest) start before after at

  pub texts_none : Printable reader played answers counts notices (drop start before) → start ≤ length before
      → (as' ns : List ℕ) → as' ≡ take played answers → ns ≡ take played counts → Texts reader as' ns notices start before
  texts_none asked inside as' ns e f =
      let many : length as' ≡ played = omega (arith, ap length e, length-take played answers, asked.answers) in
      record {
        room = omega (arith, asked.text, length-drop start before, inside);
        sound = asked.sound;
        within = omega (arith, asked.within, many);
        same = omega (arith, many, ap length f, length-take played counts, asked.counts);
        held = omega (arith, ap sum f, asked.notices);
        counted = ap (counted_all reader) (sym e);
        put = rw (e, f) (putting_none whole start before);
      }

  module _ {next : Reader} {as' ns rest : List ℕ} {at : ℕ} {after : List ℕ} (t : Texts next as' ns rest at after) where
    pub texts_length : length after ≡ length before
    texts_length = putting_length t.put t.room

    over : (as' ≡ []) ⊎ (ns ≡ []) → as' ≡ []
    over (inl e) = e
    over (inr f) = none as' (omega (arith, t.same, ap length f))

    pub texts_all : (as' ≡ []) ⊎ (ns ≡ []) → (next ≡ counted_all reader (take played answers)) × Puts start before after at whole
    texts_all h = (
      sym (t.counted ∙ ap (counted_all next) (over h)),
      putting_all t.put t.room (ap (λ (l : List ℕ). noted_texts next.place l ns rest) (over h)),
    )

    -- ---- one record more
    module _ (answer n : ℕ) (later others : List ℕ) (e : as' ≡ answer ∷ later) (f : ns ≡ n ∷ others) where
      sum_next : sum ns ≡ n + sum others
      sum_next = ap sum f

      abbrev text : List ℕ
      text = noted_text (next.place + 1) answer n rest

      abbrev texts : List ℕ
      texts = noted_texts (counted next answer).place later others (drop (record_length * n) rest)

      texts_next : noted_texts next.place as' ns rest ≡ text ++ texts
      texts_next =
          ap₂ (λ (l m : List ℕ). noted_texts next.place l m rest) e f
          ∙ ap (λ (place : ℕ). text ++ noted_texts place later others (drop (record_length * n) rest)) (sym (counted_place next answer))

      pub texts_held : record_length * n ≤ length rest
      texts_held = omega (arith, t.held, sum_next)

      pub texts_asks : Within next × (record_length * n ≤ length rest) × (at + length text ≤ length after)
      texts_asks = (
        record { sound = t.sound; left = omega (arith, t.within, ap length e) },
        texts_held,
        putting_room t.put t.room text texts texts_next,
      )

      pub texts_more : {told : Reader} {behind : List ℕ} {to : ℕ} {last : List ℕ} → told ≡ counted next answer
          → behind ≡ drop (record_length * n) rest → Puts at after last to text → Texts told later others behind to last
      texts_more {told} {behind} {to} {last} on left put =
          subst⁻¹ (λ (r : Reader). Texts r later others behind to last) on (record {
            room = t.room;
            sound = counted_sound next answer t.sound;
            within = omega (arith, t.within, ap length e, counted_place next answer);
            same = omega (arith, t.same, ap length e, ap length f);
            held = omega (arith, t.held, sum_next, ap length left, length-drop (record_length * n) rest);
            counted = t.counted ∙ ap (counted_all next) e;
            put = rw left (putting_more t.put t.room text texts texts_next put);
          })
