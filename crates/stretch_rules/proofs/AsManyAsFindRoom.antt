-- A stretch plays as many records as find room: no others of the same records are more.
use Prim.Native.Nat.{ℕ, ◌≤◌, ◌<◌}
use mathlib.Core.Path.{◌≡◌, refl, sym, ap, subst⁻¹, ◌∙◌}
use mathlib.Core.Logic.{◌⊎◌, inl, inr, ⊎_elim}
use mathlib.Core.List.{List, [], ◌∷◌}
use mathlib.Core.Bool.{Bool, true, false}
use native.Mathlib.Omega.{arith}
use lib.Dec.{ltb}
use lib.ListN.{length, take, length-map, length-take}
use borrow.Author.Tests.{ltb-true, ltb-false}
use Rattle.book.specs.declared.Book.{Book}
use Rattle.book.specs.Calls.{notice_bytes}
use Rattle.demands.specs.Demand3.{Made, Played}
use Rattle.demands.specs.Tapes.{tape_of}
use Rattle.stretch_rules.specs.Stretch.{whole_records}
use Rattle.stretch_rules.specs.SingleCalls.{behind_own, EachLentRest, still_free}
use Rattle.stretch_rules.specs.SingleCalls.{AsManyAsFindRoom}
use Rattle.stretch_rules.proofs.SingleCalls.{same_made, single_calls_can_be_made, stretch_is_single_calls}

-- Calls that end where all records are called or the bytes are few are no fewer than any others of the same records.
no_fewer : (calendar : List ℕ) (b : Book) (lent : List ℕ) (records : List (List ℕ)) (ms ns : List Made)
    → Played calendar b ms → EachLentRest lent ms → tape_of ms ≡ take (length ms) records
    → Played calendar b ns → EachLentRest lent ns → tape_of ns ≡ take (length ns) records
    → (length ms ≡ length records) ⊎ (length (still_free lent ms) < notice_bytes) → length ns ≤ length ms
no_fewer calendar b lent records ms [] p h e q k f ends = omega arith
no_fewer calendar b lent [] [] (n ∷ ns) p h e q k f ends = absurd (omega (arith, ap length f))
no_fewer calendar b lent (bytes ∷ records) [] (n ∷ ns) p h e q k f ends =
    ⊎_elim (λ all. absurd (omega (arith, all))) (λ few. absurd (omega (arith, few, k.1, ap length k.0))) ends
no_fewer calendar b lent [] (m ∷ ms) (n ∷ ns) p h e q k f ends = absurd (omega (arith, ap length e))
no_fewer calendar b lent (bytes ∷ records) (m ∷ ms) (n ∷ ns) p h e q k f ends =
    let both : m.bytes ∷ tape_of ms ≡ bytes ∷ take (length ms) records = e in
    let too : n.bytes ∷ tape_of ns ≡ bytes ∷ take (length ns) records = f in
    let first : m.bytes ≡ n.bytes = cc in
    let ours : tape_of ms ≡ take (length ms) records = cc in
    let theirs : tape_of ns ≡ take (length ns) records = cc in
    let one : m ≡ n = same_made calendar b m n p.0 q.0 first (h.0 ∙ sym k.0) in
    omega (
      arith,
      no_fewer calendar m.reply.book (behind_own m) records ms ns p.1 h.2 ours
          (subst⁻¹ (λ (x : Made). Played calendar x.reply.book ns) one q.1)
          (subst⁻¹ (λ (x : Made). EachLentRest (behind_own x) ns) one k.2)
          theirs
          (⊎_elim (λ all. inl (omega (arith, all))) (λ few. inr few) ends),
    )

pub as_many_as_find_room : AsManyAsFindRoom
as_many_as_find_room calendar b tape r answers₀ answers₁ notices₀ notices₁ ms p taken far =
    let records = whole_records tape in
    let can = single_calls_can_be_made calendar b tape r answers₀ answers₁ notices₀ notices₁ p in
    let ns = can.0 in
    let s = can.1 in
    let m = far.made in
    let n = s.made in
    let is = stretch_is_single_calls calendar b tape r answers₀ answers₁ notices₀ notices₁ ns p s in
    let fits : length ns ≤ length records = omega (arith, ap length n.fed, length-take (length ns) records, made_many ns) in
    let ends : (length ns ≡ length records) ⊎ (length (still_free notices₀ ns) < notice_bytes) =
    go (ltb (length ns) (length records)) refl fits (is.stops taken) in
    omega (
      arith,
      s.many,
      no_fewer calendar b notices₀ records ms ns m.calls m.lent m.fed n.calls n.lent n.fed far.ends,
      no_fewer calendar b notices₀ records ns ms n.calls n.lent n.fed m.calls m.lent m.fed ends,
    )
  where
    made_many : (ms : List Made) → length (tape_of ms) ≡ length ms
    made_many ms = length-map ms (λ (m : Made). m.bytes)

    go : {n many free : ℕ} (fewer : Bool) → ltb n many ≡ fewer → n ≤ many → (n < many → free < notice_bytes)
        → (n ≡ many) ⊎ (free < notice_bytes)
    go {n} {many} true t h stops = inr (stops (ltb-true n many t))
    go {n} {many} false t h stops = inl (omega (arith, h, ltb-false n many t))
