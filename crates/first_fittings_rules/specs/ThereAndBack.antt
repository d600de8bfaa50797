-- Document 02, change 9: "Where neither step is refused, converting to 24 and back gives the old tape, and converting to 20 and back gives
-- ours." Statements about what calls returned, tied together by what the calls promise; proofs/ThereAndBack.antt proves them.
use Rattle.std.specs.Prelude.{ℕ, ◌≡◌, List, cond, ltb, length, take}
use Rattle.first_fittings_rules.specs.Layout.{total, turned, low_first, high_first, numbers}
use Rattle.first_fittings_rules.specs.Answers.{Answer, number, written}
use Rattle.first_fittings_rules.specs.Conversions.{Way, to24, to20, Promised}

-- The law below both ways, for any fields: bytes turned field by field and turned again are the bytes.
abbrev pub TurnedTwice : Type 0
TurnedTwice = (widths bytes : List ℕ) → length bytes ≡ total widths → turned widths (turned widths bytes) ≡ bytes

-- Turned bytes are the same numbers, high byte first.
abbrev pub SameNumbers : Type 0
SameNumbers =
    (widths bytes : List ℕ) → length bytes ≡ total widths
    → numbers high_first widths (turned widths bytes) ≡ numbers low_first widths bytes

-- a call that was made: the buffer that it was lent, what it returned, and the buffer on return
pub record Made : Type 0 where
  pub lent : List ℕ
  pub reply : Answer
  pub after : List ℕ

-- it kept its promise
abbrev pub Call : Way → List ℕ → Made → Type 0
Call way tape call = Promised way tape call.lent call.reply call.after

-- it kept its promise and was not refused
pub record Accepted (way : Way) (tape : List ℕ) (call : Made) : Type 0 where
  pub promise : Call way tape call
  pub unrefused : number call.reply ≡ 0

-- the bytes that it wrote
abbrev pub wrote : Made → List ℕ
wrote call = take (written call.reply) call.after

-- One way and back gives the tape: any tape, any two buffers, any two results that were promised.
abbrev pub GivesBack : Way → Way → Type 0
GivesBack there back =
    (tape : List ℕ) (first second : Made)
    → Accepted there tape first
    → Accepted back (wrote first) second
    → wrote second ≡ tape

-- The way back is refused for want of room only: with less room than the tape has bytes it gets 24, else 0.
abbrev pub WantsRoomOnly : Way → Way → Type 0
WantsRoomOnly there back =
    (tape : List ℕ) (first second : Made)
    → Accepted there tape first
    → Call back (wrote first) second
    → number second.reply ≡ cond (ltb (length second.lent) (length tape)) 24 0

pub record ThereAndBack (there back : Way) : Type 0 where
  pub tape : GivesBack there back
  pub room : WantsRoomOnly there back

-- It follows that no two tapes are converted to the same bytes.
abbrev pub KeepsApart : Way → Type 0
KeepsApart way =
    (tape other : List ℕ) (first second : Made)
    → Accepted way tape first
    → Accepted way other second
    → wrote first ≡ wrote second
    → tape ≡ other

-- Change 9's theorem, each way.
pub record LosesNothing : Type 0 where
  pub old : ThereAndBack to24 to20
  pub ours : ThereAndBack to20 to24
  pub old_apart : KeepsApart to24
  pub ours_apart : KeepsApart to20
