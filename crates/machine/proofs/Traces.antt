-- Trace cards, said of the machine that the lent runs show. Assumes nothing.
use Prim.Native.Nat.{ℕ, ◌+◌, ◌%◌, ◌≤◌}
use mathlib.Core.Path.{◌≡◌, ap, ◌∙◌}
use mathlib.Core.List.{List, []}
use mathlib.Core.Bool.{Bool, true, false}
use native.Mathlib.Omega.{arith}
use lib.Dec.{ltb}
use lib.ListN.{length}
use borrow.Author.Tests.{le-leb}
use Rattle.rules.specs.Words.{pick, both, a_in, b_in, first_digit}
use Rattle.rules.specs.Cards.{trace_card}
use Rattle.rules.specs.Drum.{word_at}
use Rattle.rules.specs.Machine.{Machine, count_a, count_b, count_c, numbered}
use Rattle.rules.specs.Running.{box_word, word_of_a, trace_words, trace_sent}
use Rattle.rules.specs.Answers.{Cell}
use Rattle.rules.proofs.Fields.{length_trace}
use Rattle.rules.proofs.Parts.{part_of, put_back}
use Rattle.card.specs.Written.{Wrote as WroteCard, all_words, trace_may}
use Rattle.drum.specs.Held.{Words}
use Rattle.drum.proofs.Cells.{seen}
use Rattle.machine.specs.Lent.{Shows}
use Rattle.machine.specs.Stated.{machine_of}
use Rattle.machine.proofs.Sent.{card_shown}
use Rattle.rules.specs.declared.State.{State}
use Rattle.machine.specs.declared.desk.Desk.{Desk}

-- what is shown of A is a word
of_a_fits : (v : List Cell) (x : ℕ) → Words v → word_of_a v x ≤ 19999999999
of_a_fits v x h = by_test (both (ltb 0 (first_digit x)) (ltb 0 (a_in x)))
  where
    by_test : (t : Bool) → pick t (word_at v (a_in x)) 0 ≤ 19999999999
    by_test true = h (a_in x)
    by_test false = omega arith

module _ {drum₀ out₀ drum marks out : List ℕ} {desk : Desk} {m : Machine} (h : Shows drum₀ out₀ drum marks out desk m)
    {w x : ℕ} {words : List ℕ} {s : State} (low : 1 ≤ desk.state.location) (top : desk.state.location ≤ 999)
    (stored-fits : w ≤ 19999999999) (done-fits : x ≤ 19999999999) (space : desk.written + 77 ≤ length out)
    (read : words ≡ trace_words (machine_of drum marks desk.state) w x) (up : s ≡ numbered desk.state) where
  state_up : s ≡ numbered m.state
  state_up = up ∙ ap numbered h.state_is

  words_are : words ≡ trace_words m w x
  words_are = read ∙ (λ i. trace_words (record { cells = seen h.memory i; sent = []; state = h.state_is i }) w x)

  may : trace_may s.counter s.location words s.problem ≡ true
  unfolding all_words
  may =
      let k : s.counter ≡ (m.state.counter + 1) % 10000 = ap (λ (z : State). z.counter) state_up in
      let l : s.location ≡ desk.state.location = ap (λ (z : State). z.location) up in
      let n : s.problem ≡ desk.state.problem = ap (λ (z : State). z.problem) up in
      let p : count_a desk.state ≡ count_a m.state = ap count_a h.state_is in
      let q : count_b desk.state ≡ count_b m.state = ap count_b h.state_is in
      let r : count_c desk.state ≡ count_c m.state = ap count_c h.state_is in
      simp (
        words_are,
        le-leb s.counter 9999 (omega arith),
        le-leb 1 s.location (omega arith),
        le-leb (s.location + 1) 1000 (omega arith),
        le-leb s.problem 999 (omega (arith, desk.problem_fits)),
        le-leb w 19999999999 stored-fits,
        le-leb x 19999999999 done-fits,
        le-leb (box_word m.state) 19999999999 (omega (arith, desk.a_fits, desk.b_fits, desk.c_fits)),
        le-leb (word_of_a m.cells x) 19999999999 (of_a_fits m.cells x h.memory.words),
        le-leb (word_at m.cells (b_in x)) 19999999999 (h.memory.words (b_in x)),
        le-leb (word_at m.cells 0) 19999999999 (h.memory.words 0),
      )

  pub trace_sent_lem : {said : Bool} {part : List ℕ} {desk' : Desk}
      → WroteCard (trace_may s.counter s.location words s.problem) (trace_card s.counter s.location words s.problem) (part_of desk.written out) said part
      → desk'.state ≡ s → desk'.written ≡ desk.written + 77 → Shows drum₀ out₀ drum marks (put_back desk.written out part) desk' (trace_sent m w x)
  trace_sent_lem wrote e f =
      card_shown h (trace_card ((m.state.counter + 1) % 10000) m.state.location (trace_words m w x) m.state.problem) 77 wrote may
      (λ i. trace_card (state_up i).counter (state_up i).location (words_are i) (state_up i).problem)
      (length_trace ((m.state.counter + 1) % 10000) m.state.location (trace_words m w x) m.state.problem) space (e ∙ up) f
