use Rattle.std.proofs.Common.{◌∙◌}
use Rattle.std.proofs.lemmas.List.{take_rest}
use Rattle.std.proofs.lemmas.Slice.Zip.{Zip-more}
use Rattle.tape_player.proofs.stretch_text.Texts.{texts_more}
use Rattle.tape_player.proofs.stretch_text.put_stretch.Goals as goal

pub loop-answer-preserved : goal.loop-answer-preserved
loop-answer-preserved c =
    let v = c.loop-answer.invariant in
    let both = Zip-more c.loop-answer.answer-iterator c.next.new.self _ _ c.in-Some.is c.next.ensures.steps in record {
      can = (tt, tt);
      finite = tt;
      same_buffer = c.put_noted-next.ensures.same_buffer ∙ v.same_buffer;
      texts = texts_more _ _ _ _ _ _ _ v.texts _ _ _ _ both.0 both.1 c.put_noted-next.ensures.reader_value
          (take_rest c.loop-answer.left.now _) c.put_noted-next.ensures.puts;
    }
