-- Laws of `well_formed`: the case of each kind. Assumes nothing.
use Prim.Native.Nat.{ℕ, ◌<◌, ◌≤◌}
use mathlib.Core.Path.{◌≡◌, refl, ap, ◌∙◌}
use mathlib.Core.Bool.{false, and_assoc, and-false, or_assoc, or-false}
use native.Mathlib.Omega.{arith}
use lib.ListN.{get_or, get_or-eq_default}
use Rattle.records.specs.declared.Record.{Record}
use Rattle.records.specs.Records.{kind_permit, kind_unexecutable, kind_agreement, well_formed_by, well_formed}
use Rattle.records.specs.Kinds.{undated_holds, holds_by_kind}
use Rattle.records.proofs.ByNumber.{any_at, any_at_lem, every_at}

-- `well_formed` is the table's entry at the record's kind.
pub formed_is : (r : Record) → well_formed r ≡ get_or (holds_by_kind r) r.kind false
unfolding well_formed_by
formed_is r =
    let e : well_formed r ≡ any_at r.kind 0 (holds_by_kind r) = simp (and_assoc, and-false, or_assoc, or-false) refl in
    e ∙ any_at_lem r.kind r.kind 0 (holds_by_kind r) (omega arith)

-- the same for a kind that is known, as an arm of a dispatch has it
pub formed_at : (kind : ℕ) (r : Record) → r.kind ≡ kind → well_formed r ≡ get_or (holds_by_kind r) kind false
formed_at kind r e = formed_is r ∙ ap (λ (k : ℕ). get_or (holds_by_kind r) k false) e

pub formed_undated : (r : Record) → kind_permit ≤ r.kind → r.kind ≤ kind_unexecutable → well_formed r ≡ undated_holds r
formed_undated r h l =
    every_at (λ (k : ℕ). r.kind ≡ k → well_formed r ≡ undated_holds r) kind_permit 2
    (formed_at kind_permit r, (formed_at kind_unexecutable r, tt)) r.kind h (omega arith) refl

-- there is no kind past the last
pub formed_past : (r : Record) → kind_agreement < r.kind → well_formed r ≡ false
formed_past r h = formed_is r ∙ get_or-eq_default (holds_by_kind r) false h
