use native.Mathlib.Omega.{arith}
use Rattle.std.proofs.Common.{◌∙◌, rules}
use Rattle.tape_player.proofs.stretch_text.Listed.{listed_none, listed_room, listed_more}
use Rattle.tape_player.proofs.stretch_text.put_notices.Goals as goal

pub loop-notice-init : goal.loop-notice-init
loop-notice-init c = record {
  can = search rules;
  finite = tt;
  size = search rules;
  same_buffer = search rules;
  listed = listed_none _ _ _ _ _ c.requires.0 c.requires.1 (grind arith);
}

pub notice-requires-clause-bytes_in_bounds : goal.notice-requires-clause-bytes_in_bounds
notice-requires-clause-bytes_in_bounds c =
    let s = rw c.in-Some.is at c.next.ensures.steps in
    listed_room c.loop-notice.invariant.listed _ _ s.1.0 (s.1.1 ∙ c.loop-notice.invariant.size)

pub loop-notice-preserved : goal.loop-notice-preserved
loop-notice-preserved c =
    let s = rw c.in-Some.is at c.next.ensures.steps in
    let v = c.loop-notice.invariant in record {
      can = search rules;
      finite = tt;
      size = s.0 ∙ v.size;
      same_buffer = c.notice.ensures.same_buffer ∙ v.same_buffer;
      listed = listed_more v.listed _ _ s.1.0 (s.1.1 ∙ v.size) c.notice.ensures.puts;
    }
