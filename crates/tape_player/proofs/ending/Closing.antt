-- How a stretch closes: a record is left, the end finds no room, or it is put. Assumes nothing.
use Prim.Native.Nat.{ℕ, ◌*◌, ◌-◌, ◌≤◌, ◌<◌}
use mathlib.Core.Path.{◌≡◌, refl, ap, subst⁻¹, ◌∙◌}
use mathlib.Core.List.{List, []}
use mathlib.Core.Bool.{Bool, true, false, cond}
use lib.Dec.{leb}
use lib.ListN.{length}
use borrow.Author.Tests.{le-leb, lt-leb}
use Rattle.records.specs.Layout.{record_length}
use Rattle.tape_text.specs.Numbers.{Puts}
use Rattle.tape_text.proofs.Puts.{puts_none}
use Rattle.tape_output.specs.declared.Playing.{Playing}
use Rattle.tape_output.specs.declared.Stretch.{Stretch}
use Rattle.tape_output.specs.Output.{tape_most, ending}
use Rattle.tape_output.specs.Stretches.{ending_most, Stretched, nothing_more, ended, closing, left, Plays}
use Rattle.tape_output.proofs.Left.{left_none, left_some}

module _ (p : Playing) (tape : List ℕ) (stop : ℕ) (b : List ℕ) where
  abbrev close : Stretched
  close = closing (length b - stop) p (left p tape)

  abbrev nothing : Stretch
  nothing = record { playing = p; stop = stop; done = false }

  -- nothing is put
  still : (records : List (List ℕ)) → close ≡ nothing_more p records → Plays stop close nothing b b
  still records e =
      subst⁻¹ (λ (s : Stretched). Plays stop s nothing b b) e (record { playing = refl; text = puts_none stop b; done = refl })

  pub closes_before : length tape ≤ tape_most → record_length * p.reader.place < length tape → Plays stop close nothing b b
  closes_before short h = still _ (ap (closing (length b - stop) p) (left_some p tape short h))

  module _ (h : length tape ≤ record_length * p.reader.place) where
    -- the room decides
    by_room : (found : Bool) → leb ending_most (length b - stop) ≡ found → close ≡ cond found (ended p) (nothing_more p [])
    by_room found e =
        ap (closing (length b - stop) p) (left_none p tape h) ∙ ap (λ (t : Bool). cond t (ended p) (nothing_more p [])) e

    pub closes_short : length b - stop < ending_most → Plays stop close nothing b b
    closes_short short = still [] (by_room false (lt-leb ending_most (length b - stop) short))

    pub closes_all : ending_most ≤ length b - stop → {c : List ℕ} {end : ℕ} → Puts stop b c end (ending p)
        → Plays stop close (record { playing = p; stop = end; done = true }) b c
    closes_all space {c} {end} put =
        subst⁻¹ (λ (s : Stretched). Plays stop s (record { playing = p; stop = end; done = true }) b c)
        (by_room true (le-leb ending_most (length b - stop) space)) (record { playing = refl; text = put; done = refl })
