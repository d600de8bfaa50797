-- What a look-up gives, row by row. Assumes nothing.
use Prim.Native.Nat.{ℕ, ◌%◌}
use mathlib.Core.Path.{◌≡◌, refl, sym, ap, ◌∙◌}
use mathlib.Core.List.{List, [], ◌∷◌}
use mathlib.Core.Bool.{Bool, true, false, not, cond, ◌&&◌, ◌||◌, false≢true}
use native.Mathlib.Omega.{arith}
use lib.Dec.{eqb}
use lib.ListN.{length}
use borrow.Author.Tests.{eq-eqb, not-true}
use Rattle.lists.specs.Search.{any_of, all_of, Each}
use Rattle.lists.proofs.TestLaws.{and_left, and_right}
use Rattle.records.specs.Layout.{Bytes, record_length}
use Rattle.std.specs.Prelude.{Ok, Err, Option, Some, None, option_map, ok_or}
use Rattle.std.specs.List.{find}
use Rattle.esi_rules.specs.declared.Refusal.TheVariants.{DirectoryUnsound, TextMalformed, NoRecord}
use Rattle.esi_rules.specs.declared.Key.{Key}
use Rattle.esi_rules.specs.Directory.{records, premise_of, record_kept, none_twice, sound}
use Rattle.esi_rules.specs.LookUp.{Answer, is_id_text, digits_of, has_digits, Row, row, first_row, premise_where, look_up}
use Rattle.esi_rules.specs.Keys.{key_of, key_bytes, has_key}
use Rattle.esi_rules.proofs.KeyLaws.{Kept, AnId, rules_of, has_key_lem, all_kept}
use Rattle.esi_rules.proofs.TextLaws.{text_id}

-- ---- what a sound directory is
pub record Sound (directory : List ℕ) : Type 0 where
  pub kept : all_of record_kept (records directory) ≡ true
  pub none : none_twice (records directory) ≡ true

pub sound_of : (directory : List ℕ) → sound directory ≡ true → Sound directory
unfolding sound
sound_of directory h =
    let rules =
    and_right (eqb (length directory % record_length) 0) (all_of record_kept (records directory) && none_twice (records directory)) h in
    record {
      kept = and_left (all_of record_kept (records directory)) (none_twice (records directory)) rules;
      none = and_right (all_of record_kept (records directory)) (none_twice (records directory)) rules;
    }

-- ---- the P of the first that passes
-- no P is 0, so 0 says that none passes
pub given : (row : List ℕ) → record_kept row ≡ true → premise_of row ≡ 0 → ⊥
given row h e = false≢true (sym (not-true (eqb (premise_of row) 0) (rules_of row h).premise) ∙ eq-eqb (premise_of row) 0 e)

module _ (p : List ℕ → Bool) where
  pub premise_none : (rs : List (List ℕ)) → all_of record_kept rs ≡ true → premise_where p rs ≡ 0 → any_of p rs ≡ false
  premise_none [] h e = refl
  premise_none (r ∷ rs) h e = go (p r) refl (premise_none rs (and_right (record_kept r) (all_of record_kept rs) h))
    where
      go : (b : Bool) → p r ≡ b → (premise_where p rs ≡ 0 → any_of p rs ≡ false) → (p r || any_of p rs) ≡ false
      go true q ih = absurd (given r (and_left (record_kept r) (all_of record_kept rs) h) (rw q at e))
      go false q ih = rw q (ih (rw q at e))

  pub premise_some : (rs : List (List ℕ)) → (premise_where p rs ≡ 0 → ⊥) → any_of p rs ≡ true
  premise_some [] h = absurd (h refl)
  premise_some (r ∷ rs) h = go (p r) refl (premise_some rs)
    where
      go : (b : Bool) → p r ≡ b → ((premise_where p rs ≡ 0 → ⊥) → any_of p rs ≡ true) → (p r || any_of p rs) ≡ true
      go true q ih = rw q
      go false q ih = rw q (ih (rw q at h))

-- ---- std's search for the first that passes
module _ (p : List ℕ → Bool) where
  pub find_none : (rs : List (List ℕ)) → option_map premise_of (find p rs) ≡ None → premise_where p rs ≡ 0
  find_none [] e = refl
  find_none (r ∷ rs) e = go (p r) refl (find_none rs)
    where
      go : (b : Bool) → p r ≡ b → (option_map premise_of (find p rs) ≡ None → premise_where p rs ≡ 0)
          → cond (p r) (premise_of r) (premise_where p rs) ≡ 0
      go true q ih = absurd (let f : Some (premise_of r) ≡ None = rw q at e in let z : ◌≡◌ {A = ℕ} 0 1 = cc in omega arith)
      go false q ih = rw q (ih (rw q at e))

  pub find_some : (rs : List (List ℕ)) → all_of record_kept rs ≡ true → (premise : ℕ) → option_map premise_of (find p rs) ≡ Some premise
      → (premise ≡ premise_where p rs) × (premise ≡ 0 → ⊥)
  find_some [] h premise e = absurd (let z : ◌≡◌ {A = ℕ} 0 1 = cc in omega arith)
  find_some (r ∷ rs) h premise e = go (p r) refl (find_some rs (and_right (record_kept r) (all_of record_kept rs) h) premise)
    where
      go : (b : Bool) → p r ≡ b
          → (option_map premise_of (find p rs) ≡ Some premise → (premise ≡ premise_where p rs) × (premise ≡ 0 → ⊥))
          → (premise ≡ cond (p r) (premise_of r) (premise_where p rs)) × (premise ≡ 0 → ⊥)
      go true q ih =
          let f : Some (premise_of r) ≡ Some premise = rw q at e in
          let same : premise_of r ≡ premise = cc in
          rw q (sym same, λ z. given r (and_left (record_kept r) (all_of record_kept rs) h) (same ∙ z))
      go false q ih = rw q (ih (rw q at e))

-- ---- by keys or by digits, the same P
pub premise_by_key : (digits : List ℕ) → AnId digits → (rs : List (List ℕ)) → Each Kept rs
    → premise_where (has_key (key_of (key_bytes digits))) rs ≡ premise_where (has_digits digits) rs
premise_by_key digits h [] k = refl
premise_by_key digits h (r ∷ rs) k =
    rw (has_key_lem digits h r k.0) (ap (λ (n : ℕ). cond (has_digits digits r) (premise_of r) n) (premise_by_key digits h rs k.1))

-- ---- the rows
-- what comes back, by whether the directory is sound, the text well formed, and some record has it
abbrev rows_by : Bool → Bool → Bool → List Row
rows_by s t a = row DirectoryUnsound (not s) ∷ row TextMalformed (not t) ∷ row NoRecord (not a) ∷ []

abbrev came : List ℕ → List ℕ → Bool → Bool → Bool → Answer
came directory text s t a = first_row (rows_by s t a) (premise_where (has_digits (digits_of text)) (records directory))

module _ (directory text : List ℕ) where
  abbrev some : Bool
  some = any_of (has_digits (digits_of text)) (records directory)

  pub look_unsound : sound directory ≡ false → look_up directory text ≡ Err DirectoryUnsound
  unfolding look_up
  look_unsound s = ap (λ (b : Bool). came directory text b (is_id_text text) some) s

  module _ (s : sound directory ≡ true) where
    pub look_malformed : is_id_text text ≡ false → look_up directory text ≡ Err TextMalformed
    unfolding look_up
    look_malformed t = λ i. came directory text (s i) (t i) some

    module _ (t : is_id_text text ≡ true) where
      pub look_none : any_of (has_digits (digits_of text)) (records directory) ≡ false → look_up directory text ≡ Err NoRecord
      unfolding look_up
      look_none a = λ i. came directory text (s i) (t i) (a i)

      pub look_found : any_of (has_digits (digits_of text)) (records directory) ≡ true
          → look_up directory text ≡ Ok (premise_where (has_digits (digits_of text)) (records directory))
      unfolding look_up
      look_found a = λ i. came directory text (s i) (t i) (a i)

-- ---- what was found by key
module _ (directory text : List ℕ) (b : Bytes directory) (s : sound directory ≡ true) (t : is_id_text text ≡ true)
    {key : Key} (k : key ≡ key_of (key_bytes (digits_of text)))
  where
    same_where : premise_where (has_key key) (records directory) ≡ premise_where (has_digits (digits_of text)) (records directory)
    same_where =
        ap (λ (k : Key). premise_where (has_key k) (records directory)) k
        ∙ premise_by_key (digits_of text) (text_id text t) (records directory) (all_kept directory b (sound_of directory s).kept)

    -- the premise number of the first record with the key, if there is one, or else 22
    pub by_key : (found : Option ℕ) → found ≡ option_map premise_of (find (has_key key) (records directory))
        → look_up directory text ≡ ok_or found NoRecord
    by_key None e =
        look_none directory text s t (premise_none (has_digits (digits_of text)) (records directory) (sound_of directory s).kept
        (sym same_where ∙ find_none (has_key key) (records directory) (sym e)))
    by_key (Some premise) e =
        let is = find_some (has_key key) (records directory) (sound_of directory s).kept premise (sym e) in
        look_found directory text s t
        (premise_some (has_digits (digits_of text)) (records directory) (λ z. is.1 (is.0 ∙ same_where ∙ z)))
        ∙ ap Ok (sym (is.0 ∙ same_where))
