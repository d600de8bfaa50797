-- A list of calls from any book on the way: every premise has what the one-premise rules give from its own records and the day marks.
-- Assumes nothing.
use Prim.Native.Nat.{ℕ}
use mathlib.Core.Path.{◌≡◌, refl, ap, ap₂, sym, subst, ◌∙◌}
use mathlib.Core.List.{List, [], ◌∷◌, ◌++◌, map, map-append, append_assoc}
use mathlib.Core.Bool.{Bool, true, false, cond}
use Rattle.records.specs.declared.Record.{Record}
use Rattle.records.specs.Records.{reading}
use Rattle.records.specs.Notices.{encode, rows}
use Rattle.records.proofs.Emits.{emits_rows}
use Rattle.premise.specs.Refusals.{number}
use Rattle.premise.specs.OnePremise.{State, Given, step, runs, end_state}
use Rattle.book.specs.declared.Book.{Book}
use Rattle.book.specs.Calls.{premise_state, Result, call}
use Rattle.demands.specs.Demand3.{Made, Played, last_book, Allowed, AllAllowed, concerns, own_bytes, said, records, answers}
use Rattle.demands.specs.Demand3.{with_premise, notices_for, ruled_answers, ruled_notices}
use Rattle.book.specs.Promise.{Promised}
use Rattle.book.proofs.Kept.{book_kept_means}
use Rattle.book.proofs.Keeps.{call_keeps}
use Rattle.book.proofs.Acts.{acted, call_acts}
use Rattle.demands.proofs.OnWay.{OnWay, sound, ranged_acted}
use Rattle.demands.proofs.OneCall.{mine, Agrees, agrees}

-- ---- a list of calls is its first call and the rest
with_first : {X Y : Type 0} (of : List X → List Y) (x : X) (xs : List X) (ys : List Y) → of (x ∷ xs) ≡ ys ++ of xs → (c : Bool)
    → of (cond c (x ∷ xs) xs) ≡ cond c ys [] ++ of xs
with_first of x xs ys e true = e
with_first of x xs ys e false = refl

-- the one-premise rules on a list and then on another
end_append : (calendar : List ℕ) (s : State) (xs ys : List Record)
    → end_state calendar s (xs ++ ys) ≡ end_state calendar (end_state calendar s xs) ys
end_append calendar s [] ys = refl
end_append calendar s (x ∷ xs) ys = end_append calendar (step calendar s x).state xs ys

runs_append : (calendar : List ℕ) (s : State) (xs ys : List Record)
    → runs calendar s (xs ++ ys) ≡ runs calendar s xs ++ runs calendar (end_state calendar s xs) ys
runs_append calendar s [] ys = refl
runs_append calendar s (x ∷ xs) ys = ap (λ (l : List Given). step calendar s x ∷ l) (runs_append calendar (step calendar s x).state xs ys)

notices_append : (gs hs : List Given) → ruled_notices (gs ++ hs) ≡ ruled_notices gs ++ ruled_notices hs
notices_append [] hs = refl
notices_append (g ∷ gs) hs =
    ap (λ (l : List (List ℕ)). map encode g.notices ++ l) (notices_append gs hs)
    ∙ sym (append_assoc (map encode g.notices) (ruled_notices gs) (ruled_notices hs))

-- ---- from any book on the way
pub record Alone (calendar : List ℕ) (premise : ℕ) (b : Book) (s : State) (ms : List Made) : Type 0 where
  pub state : premise_state (last_book b ms) premise ≡ end_state calendar s (records (own_bytes premise ms))
  pub answered : answers premise ms ≡ ruled_answers (runs calendar s (records (own_bytes premise ms)))
  pub notices : notices_for premise ms ≡ ruled_notices (runs calendar s (records (own_bytes premise ms)))

module _ (calendar : List ℕ) where
  module _ (b : Book) (k : OnWay b) (m : Made) (p : Promised calendar b m.bytes m.lent m.reply m.after) (a : Allowed b m) where
    did : call calendar b m.bytes m.lent ≡ acted calendar b (reading m.bytes)
    did = call_acts calendar b m.bytes m.lent k.kept a.room a.places

    -- the book that the call returned is on the way too
    on_way : OnWay m.reply.book
    on_way =
        let e : m.reply.book ≡ (acted calendar b (reading m.bytes)).book = p.book ∙ ap (λ (x : Result). x.book) did in
        record {
          kept = (book_kept_means m.reply.book).0
              (rw p.book (call_keeps calendar b m.bytes m.lent ((book_kept_means b).1 k.kept)));
          ranged = rw e (ranged_acted calendar b k (reading m.bytes) (sound m.bytes a.real));
        }

    -- what it returned: the notices as its promise has them
    abbrev returned : Result
    returned = record { answer = m.reply.answer; notices = (call calendar b m.bytes m.lent).notices; book = m.reply.book }

    returned_is : returned ≡ acted calendar b (reading m.bytes)
    returned_is = (λ i. record { answer = p.answer i; notices = (call calendar b m.bytes m.lent).notices; book = p.book i }) ∙ did

    call_agrees : (premise : ℕ) → Agrees calendar premise b (reading m.bytes) returned
    call_agrees premise =
        subst (Agrees calendar premise b (reading m.bytes)) (sym returned_is)
        (agrees calendar b k premise (reading m.bytes) (sound m.bytes a.real))

    -- the notices of the premise that stand in the buffer on return
    call_notices : (premise : ℕ)
        → with_premise premise (rows m.reply.sent m.after)
        ≡ ruled_notices (runs calendar (premise_state b premise) (mine premise (reading m.bytes)))
    call_notices premise =
        ap (with_premise premise) (emits_rows p.notices) ∙ (call_agrees premise).notices

  pub alone : (premise : ℕ) (b : Book) (ms : List Made) → OnWay b → Played calendar b ms → AllAllowed b ms
      → Alone calendar premise b (premise_state b premise) ms
  alone premise b [] k p a = record { state = refl; answered = refl; notices = refl }
  alone premise b (m ∷ ms) k p a =
      let one = call_agrees b k m p.0 a.0 premise in
      let rest = alone premise m.reply.book ms (on_way b k m p.0 a.0) p.1 a.1 in
      let s : State = premise_state b premise in
      let next : State = premise_state m.reply.book premise in
      let now : List Record = mine premise (reading m.bytes) in
      let later : List Record = records (own_bytes premise ms) in
      let own : records (own_bytes premise (m ∷ ms)) ≡ now ++ later =
      with_first records m.bytes (own_bytes premise ms) (said (reading m.bytes)) refl (concerns premise (reading m.bytes)) in
      let split : runs calendar s (records (own_bytes premise (m ∷ ms))) ≡ runs calendar s now ++ runs calendar next later =
      ap (runs calendar s) own ∙ runs_append calendar s now later
      ∙ ap (λ x. runs calendar s now ++ runs calendar x later) (sym one.state) in
      record {
        state = rest.state ∙ ap (λ x. end_state calendar x later) one.state ∙ sym (end_append calendar s now later)
            ∙ ap (end_state calendar s) (sym own);
        answered =
            with_first (λ (l : List ℕ). l) (number m.reply.answer) (answers premise ms) (number m.reply.answer ∷ []) refl
            (concerns premise (reading m.bytes))
            ∙ ap₂ (λ (x y : List ℕ). x ++ y) one.answered rest.answered
            ∙ sym (map-append (λ (g : Given). number g.answer) (runs calendar s now) (runs calendar next later))
            ∙ ap ruled_answers (sym split);
        notices =
            ap₂ (λ (x y : List (List ℕ)). x ++ y) (call_notices b k m p.0 a.0 premise) rest.notices
            ∙ sym (notices_append (runs calendar s now) (runs calendar next later)) ∙ ap ruled_notices (sym split);
      }

  pub last_on_way : (b : Book) (ms : List Made) → OnWay b → Played calendar b ms → AllAllowed b ms → OnWay (last_book b ms)
  last_on_way b [] k p a = k
  last_on_way b (m ∷ ms) k p a = last_on_way m.reply.book ms (on_way b k m p.0 a.0) p.1 a.1
