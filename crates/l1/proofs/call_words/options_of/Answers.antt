-- `l1::call_words::options_of` meets its contract: the words behind the names are taken, from what the command takes on, and at the end it is
-- seen whether all that is due has come. Assumes nothing.
use Prim.Native.Nat.{ℕ}
use mathlib.Core.Path.{◌≡◌, refl, sym, subst, ◌∙◌}
use native.Mathlib.Omega.{arith}
use Rattle.std.specs.Prelude.{Option, Some, None}
use Rattle.std.proofs.lemmas.Bool.{false≢true}
use Rattle.calls.specs.Words.{start_of, behind_names, at_end, Read, ReadToEnd}
use Rattle.calls.specs.declared.words.Command.{Command}
use Rattle.calls.specs.declared.options.Options.{Options}
use Rattle.calls.proofs.Taken.{take_none, read_as_taken}
use Rattle.l1.proofs.call_words.options_of.Goals as goal

-- s is what the call asks for before its words, a where they begin
to_end : {s f before r : Option Options} {a : ℕ} (c : Command) (n : ℕ) → s ≡ start_of (Some c) n → s ≡ f → a ≡ behind_names (Some c) n → Read f a n before
    → r ≡ at_end before → ReadToEnd c n r
to_end {s} {f} {before} {r} {a} c n p o q t e =
    record {
      before = before;
      read = subst (λ (x : ℕ). Read (start_of (Some c) n) x n before) q (subst (λ (x : Option Options). Read x a n before) (sym o ∙ p) t);
      ended = e;
    }

-- a name is missing: no word is read
missing : {s : Option Options} (c : Command) (n : ℕ) → s ≡ start_of (Some c) n → s ≡ None → ReadToEnd c n None
missing c n p o =
    to_end c n p o refl (read_as_taken n (take_none None (behind_names (Some c) n)) (omega arith) (λ e. absurd (false≢true e))) refl

pub returns-in_default : goal.returns-in_default
returns-in_default g c =
    let n = c.word_count-count.result in
    (n, missing c.args.command n c.start_of.ensures c.in_default.is)

pub returns-in_err-options : goal.returns-in_err-options
returns-in_err-options g c =
    let n = c.word_count-count.result in
    (n, to_end {before = None} c.args.command n c.start_of.ensures c.in-Some.is c.behind_names.ensures c.in_err-options.ensures c.from_residual.ensures)

pub returns : goal.returns
returns g c =
    let n = c.word_count-count.result in
    let o = c.in_ok-options.options in
    (n, to_end {before = Some o} c.args.command n c.start_of.ensures c.in-Some.is c.behind_names.ensures c.in_ok-options.ensures c.at_end.ensures)
