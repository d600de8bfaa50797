-- The loop that writes a number's digits from the last to the first: what it has left to write, and what it has put. Assumes nothing.
use Prim.Native.Nat.{ℕ, ◌+◌, ◌-◌, ◌/◌, ◌%◌, ◌≤◌, ◌<◌}
use mathlib.Core.Path.{◌≡◌, sym, ap, ◌∙◌}
use mathlib.Core.List.{List, [], ◌∷◌, ◌++◌, append_assoc, append-nil}
use native.Mathlib.Omega.{arith}
use lib.ListN.{length, set, length-append}
use Rattle.tape_text.specs.Numbers.{digit, decimal, Puts}
use Rattle.tape_text.proofs.Digits.{decimal_some, decimal_one, decimal_more, decimal_longer, decimal_short, decimal_long}
use Rattle.tape_text.proofs.Puts.{puts_none, puts_as, puts_length, puts_before}

-- The last digits are put from `at` on; those of `left` belong before them.
pub record Filled (n start stop : ℕ) (before after : List ℕ) (left at : ℕ) : Type 0 where
  pub last : List ℕ
  pub whole : decimal n ≡ decimal left ++ last
  pub most : left ≤ n
  pub place : at ≡ start + length (decimal left)
  pub put : Puts at before after stop last

pub filled_none : (n start stop : ℕ) (b : List ℕ) → stop ≡ start + length (decimal n) → Filled n start stop b b n stop
filled_none n start stop b e =
    record { last = []; whole = sym (append-nil (decimal n)); most = omega arith; place = e; put = puts_none stop b }

module _ {n start stop : ℕ} {b c : List ℕ} {left at : ℕ} (f : Filled n start stop b c left at)
    (room : start + length (decimal n) ≤ length b) where
  many : at + length f.last ≡ start + length (decimal n)
  many = omega (arith, f.place, ap length f.whole, length-append (decimal left) f.last)

  -- there is a place before those that are written
  pub filled_before : start < at
  filled_before = omega (arith, f.place, decimal_some left)

  pub filled_length : length c ≡ length b
  filled_length = puts_length f.put (omega (arith, many))

  pub filled_inside : at ≤ length c
  filled_inside = omega (arith, many, filled_length)

  -- where more than the first place is left, more than one digit is
  pub filled_long : start + 1 < at → 10 ≤ left
  filled_long h = decimal_long left (omega (arith, f.place, h))

  pub filled_short : n < 18446744073709551616 → at ≤ start + 1 → left < 10
  filled_short k h = decimal_short left (omega (arith, f.most, k)) (omega (arith, f.place, h))

  -- one digit more
  pub filled_more : 10 ≤ left → n < 18446744073709551616 → Filled n start stop b (set c (at - 1) (digit (left % 10))) (left / 10) (at - 1)
  filled_more h k =
      let e : at - 1 + 1 ≡ at = omega (arith, filled_before) in
      let next = digit (left % 10) in
      let wide : left < 18446744073709551616 = omega (arith, f.most) in
      let p : Puts (at - 1 + 1) b c stop f.last = rw e f.put in
      record {
        last = next ∷ f.last;
        whole = f.whole ∙ ap (λ (l : List ℕ). l ++ f.last) (decimal_more left h wide)
            ∙ append_assoc (decimal (left / 10)) (next ∷ []) f.last;
        most = omega (arith, f.most);
        place = omega (arith, f.place, decimal_longer left h wide);
        put = puts_before next p (omega (arith, e, many));
      }

  -- the first digit, and all are put
  pub filled_all : left < 10 → Puts start b (set c start (digit left)) stop (decimal n)
  filled_all h =
      let e = decimal_one left h in
      let place : at ≡ start + 1 = f.place ∙ ap (λ (l : List ℕ). start + length l) e in
      let p : Puts (start + 1) b c stop f.last = rw place at f.put in
      puts_as (sym (f.whole ∙ ap (λ (l : List ℕ). l ++ f.last) e)) (puts_before (digit left) p (omega (arith, place, many)))
