-- Tapes as records: cut into records of a size and joined again. Assumes nothing.
use Prim.Native.Nat.{ℕ, zero, suc, ◌+◌, ◌*◌, ◌≤◌}
use mathlib.Core.Path.{◌≡◌, refl, sym, ap, ap₂, ◌∙◌}
use mathlib.Core.List.{List, [], ◌∷◌, ◌++◌, map, append-nil, append_assoc}
use native.Mathlib.Nat.{mul-zero, mul-suc}
use native.Mathlib.Numerals.{add-one}
use native.Mathlib.Omega.{arith}
use lib.ListN.{length, take, drop, length-append, length-drop, take-append-drop}
use lib.Seq.{length-take-le, drop-drop, take_at, drop_at}
use Rattle.std.specs.Simd.{first_chunks}
use Rattle.lists.specs.Search.{Each}
use Rattle.first_fittings_rules.specs.Layout.{cut, joined}

-- every record has a size
abbrev pub Sized : ℕ → List (List ℕ) → Type 0
Sized size records = Each (λ (r : List ℕ). length r ≡ size) records

pub joined-append : (rs ss : List (List ℕ)) → joined (rs ++ ss) ≡ joined rs ++ joined ss
joined-append [] ss = refl
joined-append (r ∷ rs) ss = ap (λ (l : List ℕ). r ++ l) (joined-append rs ss) ∙ sym (append_assoc r (joined rs) (joined ss))

pub map_more : (f : List ℕ → List ℕ) (rs : List (List ℕ)) (r : List ℕ) → joined (map f (rs ++ (r ∷ []))) ≡ joined (map f rs) ++ f r
map_more f [] r = append-nil (f r)
map_more f (s ∷ rs) r = ap (λ (l : List ℕ). f s ++ l) (map_more f rs r) ∙ sym (append_assoc (f s) (joined (map f rs)) (f r))

module _ (size : ℕ) where
  -- one record and the others
  next_place : (n : ℕ) (tape : List ℕ) → drop (size * n) (drop size tape) ≡ drop (size * suc n) tape
  next_place n tape =
      let e : size + size * n ≡ size * suc n = omega (arith, mul-suc size n) in
      drop-drop (size * n) size tape ∙ ap (λ (k : ℕ). drop k tape) e

  pub cut_more : (n : ℕ) (tape : List ℕ) → cut size (n + 1) tape ≡ cut size n tape ++ (take size (drop (size * n) tape) ∷ [])
  cut_more n tape = ap (λ (k : ℕ). cut size k tape) (add-one n) ∙ go n tape
    where
      go : (n : ℕ) (tape : List ℕ) → cut size (suc n) tape ≡ cut size n tape ++ (take size (drop (size * n) tape) ∷ [])
      go zero tape = ap (λ (k : ℕ). take size (drop k tape) ∷ []) (sym (mul-zero size))
      go (suc n) tape =
          ap (λ (rs : List (List ℕ)). take size tape ∷ rs)
          (go n (drop size tape) ∙ ap (λ (l : List ℕ). cut size n (drop size tape) ++ (take size l ∷ [])) (next_place n tape))

  pub cut_sized : (n : ℕ) (tape : List ℕ) → size * n ≤ length tape → Sized size (cut size n tape)
  cut_sized zero tape h = tt
  cut_sized (suc n) tape h = (
    length-take-le size tape (omega (arith, mul-suc size n)),
    cut_sized n (drop size tape) (omega (arith, mul-suc size n, length-drop size tape)),
  )

  pub cut-length : (n : ℕ) (tape : List ℕ) → length (cut size n tape) ≡ n
  cut-length zero tape = refl
  cut-length (suc n) tape = ap suc (cut-length n (drop size tape))

  -- a tape of whole records is its records, joined
  pub joined_cut : (n : ℕ) (tape : List ℕ) → length tape ≡ size * n → joined (cut size n tape) ≡ tape
  joined_cut zero [] e = refl
  joined_cut zero (byte ∷ tape) e = absurd (omega (arith, mul-zero size))
  joined_cut (suc n) tape e =
      ap (λ (l : List ℕ). take size tape ++ l) (joined_cut n (drop size tape) (length-drop size tape ∙ omega (arith, mul-suc size n, e)))
      ∙ take-append-drop size tape

  pub joined_length : (rs : List (List ℕ)) → Sized size rs → length (joined rs) ≡ size * length rs
  joined_length [] h = sym (mul-zero size)
  joined_length (r ∷ rs) h = length-append r (joined rs) ∙ omega (arith, h.0, joined_length rs h.1, mul-suc size (length rs))

  -- and joined records are cut where they were joined
  pub cut_joined : (rs : List (List ℕ)) → Sized size rs → cut size (length rs) (joined rs) ≡ rs
  cut_joined [] h = refl
  cut_joined (r ∷ rs) h =
      ap₂ (λ (a : List ℕ) (b : List (List ℕ)). a ∷ b)
      (take_at r (joined rs) size h.0)
      (ap (cut size (length rs)) (drop_at r (joined rs) size h.0) ∙ cut_joined rs h.1)

  -- std cuts a slice into the same records
  pub cut_chunks : (n : ℕ) (tape : List ℕ) → first_chunks size n tape ≡ cut size n tape
  cut_chunks zero tape = refl
  cut_chunks (suc n) tape = ap (λ (rs : List (List ℕ)). take size tape ∷ rs) (cut_chunks n (drop size tape))
