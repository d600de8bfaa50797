-- Bytes noted in a part of a buffer that is lent, behind those noted before. Assumes nothing.
use Prim.Native.Nat.{ℕ, ◌+◌, ◌≤◌}
use mathlib.Core.Path.{◌≡◌, sym, ap, ap₂, ◌∙◌}
use mathlib.Core.List.{List, ◌++◌, append_assoc}
use native.Mathlib.Omega.{arith}
use lib.ListN.{length, take, drop, length-append, length-take, length-drop, take-append-drop}
use lib.Seq.{drop-append-le, take_at, drop_at, drop-drop}
use Rattle.records.specs.declared.Notice.{Notice}
use Rattle.records.specs.Notices.{encode_all, Emits}
use Rattle.records.proofs.Notices.{length-encode_all}
use Rattle.book.specs.CallsInRow.{Noted}

pub noted_part : (done more before after part : List ℕ) (at n : ℕ) → length done ≡ at → at + n ≤ length before → length more ≤ n
    → Noted done before after → Noted more (take n (drop at after)) part
    → Noted (done ++ more) before (take at after ++ (part ++ drop n (drop at after)))
noted_part done more before after part at n long room fits first second =
    let k = length more in
    let rest = drop at before in
    let after_is : after ≡ done ++ rest = first ∙ ap (λ (i : ℕ). done ++ drop i before) long in
    let rest_is : drop at after ≡ rest = ap (drop at) after_is ∙ drop_at done rest at long in
    let some : k ≤ length (take n rest) = omega (arith, fits, room, length-take n rest, length-drop at before) in
    let all : at + k ≡ length (done ++ more) = omega (arith, long, length-append done more) in
    ap₂ (λ (l r : List ℕ). l ++ r) (ap (take at) after_is ∙ take_at done rest at long)
    (ap (λ (l : List ℕ). l ++ drop n (drop at after)) second
    ∙ ap (λ (r : List ℕ). (more ++ drop k (take n r)) ++ drop n r) rest_is
    ∙ append_assoc more (drop k (take n rest)) (drop n rest)
    ∙ ap (λ (l : List ℕ). more ++ l)
    (sym (drop-append-le k (take n rest) (drop n rest) some) ∙ ap (drop k) (take-append-drop n rest) ∙ drop-drop k at before))
    ∙ sym (append_assoc done more (drop (at + k) before))
    ∙ ap (λ (i : ℕ). (done ++ more) ++ drop i before) all

-- notices that are emitted are their bytes noted
module _ {before after : List ℕ} {n : ℕ} {xs : List Notice} where
  pub emits_noted : Emits before after n xs → Noted (encode_all xs) before after
  emits_noted e = e.bytes ∙ ap (λ (k : ℕ). encode_all xs ++ drop k before) (sym (length-encode_all xs))

  pub noted_emits : n ≡ length xs → Noted (encode_all xs) before after → Emits before after n xs
  noted_emits count e = record { count = count; bytes = e ∙ ap (λ (k : ℕ). encode_all xs ++ drop k before) (length-encode_all xs) }
