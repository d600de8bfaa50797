use native.Mathlib.Omega.{arith}
use Rattle.std.proofs.Common.{◌∙◌, rules}
use Rattle.tape_book.proofs.Underway.{begun, played_on_lem, played_all}
use Rattle.tape_book.proofs.played.Goals as goal

pub loop-record-init : goal.loop-record-init
loop-record-init c = record {
  can = search rules;
  finite = tt;
  size = search rules;
  underway = begun _ _ _ _ _ c.fresh-b.ensures (search rules) c.requires;
}

pub loop-record-preserved : goal.loop-record-preserved
loop-record-preserved c =
    let v = c.loop-record.invariant in
    let s = rw c.in-Some.is at c.next.ensures.steps in record {
      can = search rules;
      finite = tt;
      size = s.0 ∙ v.size;
      underway = played_on_lem v.underway _ _ s.1.0 (omega (arith, s.1.1, v.size)) s.1.2 _ _ c.record_call.ensures
          c.record_call.auto.buffer;
    }

pub returns : goal.returns
returns c =
    let s = rw c.in-None.is at c.next.ensures.steps in
    played_all c.loop-record.invariant.underway s.1.0
