-- The record call's promise leaves nothing free. Assumes nothing.
use mathlib.Core.Path.{sym, ◌∙◌}
use Rattle.book.specs.Promise.{NothingFree}

pub nothing_free : NothingFree
nothing_free calendar b bytes before r s after later p q =
    record {
      reply = λ i. record {
        answer = (p.answer ∙ sym q.answer) i;
        sent = (p.notices.count ∙ sym q.notices.count) i;
        book = (p.book ∙ sym q.book) i;
      };
      bytes = p.notices.bytes ∙ sym q.notices.bytes;
    }
