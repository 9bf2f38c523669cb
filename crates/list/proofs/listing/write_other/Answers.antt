-- `list::listing::write_other` meets its contract: by the two tests. Assumes nothing.
use mathlib.Core.Path.{refl, sym, ◌∙◌}
use Rattle.list.proofs.Endings.{nothing}
use Rattle.list.proofs.Answers.{trace_long, stop_long, as_trace, as_stop, as_none}
use Rattle.list.proofs.listing.write_other.Goals as goal

pub write_trace-written-requires : goal.write_trace-written-requires
write_trace-written-requires c = trace_long _ (sym c.is_trace.ensures ∙ c.if-is_trace.true)

pub returns-then-is_trace : goal.returns-then-is_trace
returns-then-is_trace c = as_trace _ _ _ _ (sym c.is_trace.ensures ∙ c.if-is_trace.true) c.write_trace-written.ensures

pub write_stop-written-requires : goal.write_stop-written-requires
write_stop-written-requires c = stop_long _ (sym c.is_stop.ensures ∙ c.if-is_stop.true)

pub returns-then-is_stop : goal.returns-then-is_stop
returns-then-is_stop c =
    as_stop _ _ _ _ (sym c.is_trace.ensures ∙ c.if-is_trace.false) (sym c.is_stop.ensures ∙ c.if-is_stop.true) c.write_stop-written.ensures

pub returns : goal.returns
returns c =
    as_none _ _ (sym c.is_trace.ensures ∙ c.if-is_trace.false) (sym c.is_stop.ensures ∙ c.if-is_stop.false) (nothing _ _ refl)
