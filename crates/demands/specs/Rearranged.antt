-- A tape put together in another way, from demands 1 and 3; proofs/Rearranged.antt proves it. Every line is written out here, so that none
-- of them gets weaker with the statements that it follows from.
use Rattle.std.specs.Prelude.{ℕ, ◌≡◌, List, [], ◌∷◌, ◌++◌, true}
use Rattle.std.specs.Prelude.{None}
use Rattle.records.specs.Records.{reading}
use Rattle.premise.specs.Refusals.{number}
use Rattle.book.specs.Book.{files_of, fresh_book, file_for}
use Rattle.demands.specs.Demand3.{Made, Played, last_book, AllAllowed, Premise, answers, notices_for}
use Rattle.demands.specs.Tapes.{tape_of, Plays, of_premise, without}

-- ---- two neighbours change places
-- The same for every premise, in its file, its answers and the bytes of its notices; and one book as the other.
pub record NobodySees (start : ℕ) (ms ns : List Made) : Type 0 where
  pub file : (premise : ℕ) → Premise premise
      → file_for premise (files_of (last_book (fresh_book start) ms)) ≡ file_for premise (files_of (last_book (fresh_book start) ns))
  pub answered : (premise : ℕ) → Premise premise → answers premise ms ≡ answers premise ns
  pub notices : (premise : ℕ) → Premise premise → notices_for premise ms ≡ notices_for premise ns
  pub book : last_book (fresh_book start) ms ≡ last_book (fresh_book start) ns

-- Two records that stand one behind the other on the tape and are of different premises may come the other way round.
abbrev pub NeighboursSwap : Type 0
NeighboursSwap =
    (calendar : List ℕ) (start here there : ℕ) (before : List (List ℕ)) (one two : List ℕ) (after : List (List ℕ)) (ms ns : List Made)
    → of_premise here (reading one) ≡ true → of_premise there (reading two) ≡ true → (here ≡ there → ⊥)
    → Plays calendar start (before ++ one ∷ two ∷ after) ms → Plays calendar start (before ++ two ∷ one ∷ after) ns
    → NobodySees start ms ns

-- ---- a premise is left out
-- Every other premise is as it was, and T too; of the one that was left out there is no file and no notice.
pub record AsIfAlone (start gone : ℕ) (ms ns : List Made) : Type 0 where
  pub file : (premise : ℕ) → Premise premise → (gone ≡ premise → ⊥)
      → file_for premise (files_of (last_book (fresh_book start) ms)) ≡ file_for premise (files_of (last_book (fresh_book start) ns))
  pub answered : (premise : ℕ) → Premise premise → (gone ≡ premise → ⊥) → answers premise ms ≡ answers premise ns
  pub notices : (premise : ℕ) → Premise premise → (gone ≡ premise → ⊥) → notices_for premise ms ≡ notices_for premise ns
  pub today : (last_book (fresh_book start) ms).today ≡ (last_book (fresh_book start) ns).today
  pub no_file : file_for gone (files_of (last_book (fresh_book start) ns)) ≡ None
  pub no_notice : notices_for gone ns ≡ []

-- The tape is played once whole, and once without any record of one premise.
abbrev pub PremiseLeftOut : Type 0
PremiseLeftOut =
    (calendar : List ℕ) (start gone : ℕ) (tape : List (List ℕ)) (ms ns : List Made) → Premise gone
    → Plays calendar start tape ms → Plays calendar start (without gone tape) ns
    → AsIfAlone start gone ms ns

-- ---- a refused call is left out
-- Its buffer is as it was lent, and apart from the answer that it got itself nobody has anything else.
pub record NothingMissed (start : ℕ) (first : List Made) (m : Made) (rest ns : List Made) : Type 0 where
  pub buffer : m.after ≡ m.lent
  pub file : (premise : ℕ) → Premise premise
      → file_for premise (files_of (last_book (fresh_book start) (first ++ m ∷ rest)))
      ≡ file_for premise (files_of (last_book (fresh_book start) ns))
  pub answered : (premise : ℕ) → Premise premise → answers premise (first ++ rest) ≡ answers premise ns
  pub notices : (premise : ℕ) → Premise premise → notices_for premise (first ++ m ∷ rest) ≡ notices_for premise ns
  pub book : last_book (fresh_book start) (first ++ m ∷ rest) ≡ last_book (fresh_book start) ns

-- Among some calls one was refused; other calls are made of the same tape without that record.
abbrev pub RefusedLeftOut : Type 0
RefusedLeftOut =
    (calendar : List ℕ) (start : ℕ) (first : List Made) (m : Made) (rest ns : List Made)
    → Played calendar (fresh_book start) (first ++ m ∷ rest) → AllAllowed (fresh_book start) (first ++ m ∷ rest)
    → (number m.reply.answer ≡ 0 → ⊥)
    → Plays calendar start (tape_of (first ++ rest)) ns
    → NothingMissed start first m rest ns
