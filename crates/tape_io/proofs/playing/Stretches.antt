-- From stretch to stretch: what is handed on can be played on, its text stands in the buffer, and the records come to an end. Assumes
-- nothing.
use Prim.Native.Nat.{ℕ, ◌-◌, ◌≤◌, ◌<◌}
use mathlib.Core.Path.{◌≡◌, sym, ap, subst, ◌∙◌}
use mathlib.Core.List.{List}
use mathlib.Core.Bool.{false}
use native.Mathlib.Omega.{arith}
use lib.ListN.{length}
use Rattle.tape_reader.specs.Counts.{most_records}
use Rattle.tape_output.specs.declared.Playing.{Playing}
use Rattle.tape_output.specs.declared.Stretch.{Stretch}
use Rattle.tape_output.specs.Output.{starting, tape_most}
use Rattle.tape_output.specs.Stretches.{stretch, left, Ready, Roomy, Plays}
use Rattle.tape_output.proofs.Ready.{start_ready}
use Rattle.tape_output.proofs.Stretches.{stretch_goes_on, stretch_moves}

-- the four buffers of a stretch
pub record Buffers : Type 0 where
  pub answers : List ℕ
  pub counts : List ℕ
  pub notices : List ℕ
  pub out : List ℕ

-- .. which keep their lengths
pub record SameLengths (b c : Buffers) : Type 0 where
  pub answers : length c.answers ≡ length b.answers
  pub counts : length c.counts ≡ length b.counts
  pub notices : length c.notices ≡ length b.notices
  pub out : length c.out ≡ length b.out

-- a tape between two stretches, with the buffers as they are
pub record Between (tape : List ℕ) (now : Buffers) (p : Playing) : Type 0 where
  pub ready : Ready p
  pub short : length tape ≤ tape_most
  pub room : Roomy now.answers now.counts now.notices now.out

-- before the first stretch
pub between_first : (tape : List ℕ) (b : Buffers) (p : Playing) → p ≡ starting → length tape ≤ tape_most
    → Roomy b.answers b.counts b.notices b.out → Between tape b p
between_first tape b p start short room =
    record { ready = subst Ready (sym start) start_ready; short = short; room = room }

module _ (calendar tape : List ℕ) (b : Buffers) (p : Playing) (at : Between tape b p) (c : Buffers) (r : Stretch)
    (plays : Plays 0 (stretch calendar (length b.out) p (left p tape)) r b.out c.out) (kept : SameLengths b c) where
  -- what it hands on can be played on
  pub between_next : Between tape c r.playing
  between_next =
      record {
        ready = subst Ready (sym plays.playing) (stretch_goes_on calendar tape (length b.out) p at.short at.ready).ready;
        short = at.short;
        room = record {
          answers = kept.answers ∙ at.room.answers;
          counts = omega (arith, kept.counts, at.room.counts);
          notices = kept.notices ∙ at.room.notices;
          text = omega (arith, kept.out, at.room.text);
        };
      }

  -- where it was not the last, fewer records are left
  pub fewer_left : r.done ≡ false → most_records - r.playing.reader.place < most_records - p.reader.place
  fewer_left more =
      omega (
        arith,
        ap (λ (q : Playing). q.reader.place) plays.playing,
        stretch_moves calendar tape (length b.out) p (omega (arith, at.room.text)) (sym plays.done ∙ more),
        (stretch_goes_on calendar tape (length b.out) p at.short at.ready).ready.within,
      )
