-- Each public function has one answer: two that its contract allows for the same arguments are equal.
-- `Post` is the contract of a function, as it stands at the function. Assumes nothing.
use mathlib.Core.Path.{sym, ◌∙◌}
use Rattle.rules.proofs.Agreed.{OneResult}
use Rattle.calls.proofs.words.command_of.Kinds as command-of-kinds
use Rattle.calls.proofs.words.command_of.Reads as command-of
use Rattle.calls.proofs.words.asked_by.Kinds as asked-by-kinds
use Rattle.calls.proofs.words.asked_by.Reads as asked_by
use Rattle.calls.proofs.words.behind_names.Kinds as behind-names-kinds
use Rattle.calls.proofs.words.behind_names.Reads as behind-names
use Rattle.calls.proofs.options.start_of.Kinds as start-of-kinds
use Rattle.calls.proofs.options.start_of.Reads as start_of_lem
use Rattle.calls.proofs.options.with_next.Kinds as with-next-kinds
use Rattle.calls.proofs.options.with_next.Reads as with-next
use Rattle.calls.proofs.options.with_word.Kinds as with-word-kinds
use Rattle.calls.proofs.options.with_word.Reads as with-word
use Rattle.calls.proofs.options.lacks_first.Kinds as lacks-first-kinds
use Rattle.calls.proofs.options.lacks_first.Reads as lacks-first
use Rattle.calls.proofs.options.at_end.Kinds as at-end-kinds
use Rattle.calls.proofs.options.at_end.Reads as the_end
use Rattle.calls.proofs.options.is_traced.Kinds as is-traced-kinds
use Rattle.calls.proofs.options.is_traced.Reads as is-traced
use Rattle.calls.proofs.options.switches_of.Kinds as switches-of-kinds
use Rattle.calls.proofs.options.switches_of.Reads as switches-of
use Rattle.calls.proofs.options.budget_of.Kinds as budget-of-kinds
use Rattle.calls.proofs.options.budget_of.Reads as budget-of
use Rattle.calls.proofs.options.first_of.Kinds as first-of-kinds
use Rattle.calls.proofs.options.first_of.Reads as first-of
use Rattle.calls.proofs.options.problem_of.Kinds as problem-of-kinds
use Rattle.calls.proofs.options.problem_of.Reads as problem-of

pub one_command : OneResult 1 command-of-kinds.ps command-of-kinds.r command-of.Post
one_command κs a x y s t p q = p ∙ sym q

pub one_asked : OneResult 1 asked-by-kinds.ps asked-by-kinds.r asked_by.Post
one_asked κs a x y s t p q = p ∙ sym q

pub one_behind : OneResult 0 behind-names-kinds.ps behind-names-kinds.r behind-names.Post
one_behind κs a x y s t p q = p ∙ sym q

pub one_start : OneResult 0 start-of-kinds.ps start-of-kinds.r start_of_lem.Post
one_start κs a x y s t p q = p ∙ sym q

pub one_next : OneResult 0 with-next-kinds.ps with-next-kinds.r with-next.Post
one_next κs a x y s t p q = p ∙ sym q

pub one_word : OneResult 1 with-word-kinds.ps with-word-kinds.r with-word.Post
one_word κs a x y s t p q = p ∙ sym q

pub one_lack : OneResult 0 lacks-first-kinds.ps lacks-first-kinds.r lacks-first.Post
one_lack κs a x y s t p q = p ∙ sym q

pub one_end : OneResult 0 at-end-kinds.ps at-end-kinds.r the_end.Post
one_end κs a x y s t p q = p ∙ sym q

pub one_traced : OneResult 0 is-traced-kinds.ps is-traced-kinds.r is-traced.Post
one_traced κs a x y s t p q = p ∙ sym q

pub one_switches : OneResult 0 switches-of-kinds.ps switches-of-kinds.r switches-of.Post
one_switches κs a x y s t p q = p ∙ sym q

pub one_budget : OneResult 0 budget-of-kinds.ps budget-of-kinds.r budget-of.Post
one_budget κs a x y s t p q = p ∙ sym q

pub one_first : OneResult 0 first-of-kinds.ps first-of-kinds.r first-of.Post
one_first κs a x y s t p q = p ∙ sym q

pub one_problem : OneResult 0 problem-of-kinds.ps problem-of-kinds.r problem-of.Post
one_problem κs a x y s t p q = p ∙ sym q
