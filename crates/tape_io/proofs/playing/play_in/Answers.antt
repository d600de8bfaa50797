-- `play_in`: its buffers have the lengths that are asked, and what a stretch leaves can be played on in them.
use Prim.Native.Nat.{ℕ, ◌≤◌}
use mathlib.Core.Path.{◌≡◌}
use native.Mathlib.Omega.{arith}
use lib.ListN.{length, replicate, length-replicate}
use Rattle.tape_io.proofs.playing.Stretches.{Buffers, SameLengths, between_first, between_next, fewer_left}
use Rattle.tape_io.proofs.playing.play_in.Given.{Over}
use Rattle.tape_io.proofs.playing.play_in.Goals as goal
use Rattle.tape_io.proofs.playing.play_in.Goals.{After-play_on-stretch}

-- a buffer of so many zeros: its length is not counted out
many : (n : ℕ) → length {A = ℕ} (replicate n 0) ≡ n
many n = length-replicate {A = ℕ} n 0

long : (n : ℕ) {most : ℕ} → most ≤ n → most ≤ length {A = ℕ} (replicate n 0)
long n h = rw (many n) h

pub loop-p-init : goal.loop-p-init
loop-p-init g c =
    between_first _ _ _ c.start-p.ensures
    c.requires.tape_len_bound
    (record { answers = many _; counts = long 256 (omega arith); notices = many _; text = long 147456 (omega arith) })

abbrev buffers : (g : Over) → After-play_on-stretch g → Buffers
buffers g y = record { answers = y.loop-p.answers; counts = y.loop-p.counts; notices = y.loop-p.notices; out = y.loop-p.out }

abbrev left : (g : Over) → After-play_on-stretch g → Buffers
left g y =
    record {
      answers = y.play_on-stretch.new.answers;
      counts = y.play_on-stretch.new.counts;
      notices = y.play_on-stretch.new.notices;
      out = y.play_on-stretch.new.out;
    }

kept : (g : Over) (y : After-play_on-stretch g) → SameLengths (buffers g y) (left g y)
kept g y =
    record {
      answers = y.play_on-stretch.auto.answers;
      counts = y.play_on-stretch.auto.counts;
      notices = y.play_on-stretch.auto.notices;
      out = y.play_on-stretch.auto.out;
    }

pub loop-p-smaller : goal.loop-p-smaller
loop-p-smaller g c =
    let y = (goal.at.loop-p-smaller g c).After-play_on-stretch in
    fewer_left _ _ (buffers g y) _ c.loop-p.invariant (left g y) _ c.play_on-stretch.ensures (kept g y) c.if-stretch.false

pub loop-p-preserved : goal.loop-p-preserved
loop-p-preserved g c =
    let y = (goal.at.loop-p-preserved g c).After-play_on-stretch in
    between_next _ _ (buffers g y) _ c.loop-p.invariant (left g y) _ c.play_on-stretch.ensures (kept g y)
