-- `machine::telling::trace` meets its contract: the words are read from the cells shown, and the writer is given fields in range.
-- Assumes nothing.
use mathlib.Core.Path.{refl}
use Rattle.machine.proofs.Traces.{trace_sent_lem}
use Rattle.machine.proofs.telling.trace.Goals as goal

pub returns : goal.returns
returns c = (
  c.number_next.ensures.0,
  refl,
  λ drum₀ out₀ m h.
      trace_sent_lem h c.requires.located.0 c.requires.located.1 c.requires.words_fit.0 c.requires.words_fit.1 c.requires.words_fit.2
      c.trace_words-words.ensures c.number_next.ensures.0 c.write_trace.ensures refl refl,
)
