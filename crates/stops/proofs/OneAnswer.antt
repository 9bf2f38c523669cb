-- Each impl and each public function has one answer: two that its contract allows for the same argument are equal. `Post` is the
-- contract, as it stands there. Assumes nothing.
use mathlib.Core.Path.{sym, ◌∙◌}
use Rattle.rules.proofs.Agreed.{OneResult}
use Rattle.stops.proofs.ToldFromRefusal.from.Kinds as refusal-kinds
use Rattle.stops.proofs.ToldFromRefusal.from.Reads as refusal
use Rattle.stops.proofs.ToldFromReckoned.from.Kinds as reckoned-kinds
use Rattle.stops.proofs.ToldFromReckoned.from.Reads as reckoned
use Rattle.stops.proofs.ToldFromDeckFault.from.Kinds as fault-kinds
use Rattle.stops.proofs.ToldFromDeckFault.from.Reads as fault
use Rattle.stops.proofs.ToldFromDeck.from.Kinds as check-kinds
use Rattle.stops.proofs.ToldFromDeck.from.Reads as check
use Rattle.stops.proofs.ToldFromBar.from.Kinds as bar-kinds
use Rattle.stops.proofs.ToldFromBar.from.Reads as bar
use Rattle.stops.proofs.ToldFromDone.from.Kinds as done-kinds
use Rattle.stops.proofs.ToldFromDone.from.Reads as done
use Rattle.stops.proofs.ToldFromOutcome.from.Kinds as outcome-kinds
use Rattle.stops.proofs.ToldFromOutcome.from.Reads as outcome
use Rattle.stops.proofs.ToldFromEnding.from.Kinds as ending-kinds
use Rattle.stops.proofs.ToldFromEnding.from.Reads as ending
use Rattle.stops.proofs.ToldFromLoading.from.Kinds as loading-kinds
use Rattle.stops.proofs.ToldFromLoading.from.Reads as loading
use Rattle.stops.proofs.ToldFromMaking.from.Kinds as making-kinds
use Rattle.stops.proofs.ToldFromMaking.from.Reads as making
use Rattle.stops.proofs.making_written.Kinds as written-kinds
use Rattle.stops.proofs.making_written.Reads as written
use Rattle.stops.proofs.counts.may_go_on.Kinds as may_go_on-kinds
use Rattle.stops.proofs.counts.may_go_on.Reads as may_go_on
use Rattle.stops.proofs.counts.completed_by.Kinds as completed_by-kinds
use Rattle.stops.proofs.counts.completed_by.Reads as completed_by

pub one_refusal_told : OneResult 0 refusal-kinds.ps refusal-kinds.r refusal.Post
one_refusal_told κs a x y s t p q = p ∙ sym q

pub one_reckoned_told : OneResult 0 reckoned-kinds.ps reckoned-kinds.r reckoned.Post
one_reckoned_told κs a x y s t p q = p ∙ sym q

pub one_fault_told : OneResult 0 fault-kinds.ps fault-kinds.r fault.Post
one_fault_told κs a x y s t p q = p ∙ sym q

pub one_check_told : OneResult 0 check-kinds.ps check-kinds.r check.Post
one_check_told κs a x y s t p q = p ∙ sym q

pub one_bar_told : OneResult 0 bar-kinds.ps bar-kinds.r bar.Post
one_bar_told κs a x y s t p q = p ∙ sym q

pub one_done_told : OneResult 0 done-kinds.ps done-kinds.r done.Post
one_done_told κs a x y s t p q = p ∙ sym q

pub one_outcome_told : OneResult 0 outcome-kinds.ps outcome-kinds.r outcome.Post
one_outcome_told κs a x y s t p q = p ∙ sym q

pub one_ending_told : OneResult 0 ending-kinds.ps ending-kinds.r ending.Post
one_ending_told κs a x y s t p q = p ∙ sym q

pub one_loading_told : OneResult 0 loading-kinds.ps loading-kinds.r loading.Post
one_loading_told κs a x y s t p q = p ∙ sym q

pub one_making_told : OneResult 0 making-kinds.ps making-kinds.r making.Post
one_making_told κs a x y s t p q = p ∙ sym q

pub one_written : OneResult 0 written-kinds.ps written-kinds.r written.Post
one_written κs a x y s t p q = p ∙ sym q

pub one_may_go_on : OneResult 0 may_go_on-kinds.ps may_go_on-kinds.r may_go_on.Post
one_may_go_on κs a x y s t p q = p ∙ sym q

pub one_completed_by : OneResult 0 completed_by-kinds.ps completed_by-kinds.r completed_by.Post
one_completed_by κs a x y s t p q = p ∙ sym q
