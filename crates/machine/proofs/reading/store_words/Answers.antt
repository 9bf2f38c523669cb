-- `machine::reading::store_words`: before each turn the first i words are stored. Assumes nothing.
use mathlib.Core.Path.{◌≡◌, subst}
use Prim.Native.Nat.{ℕ}
use native.Mathlib.Omega.{arith}
use Rattle.rules.specs.Decks.{words_stored}
use Rattle.drum.specs.Held.{Keeps}
use Rattle.machine.proofs.StoredCards.{no_words, one_word_more}
use Rattle.machine.proofs.reading.store_words.Goals as goal

pub loop-i-init : goal.loop-i-init
loop-i-init c = (omega arith, omega arith, omega arith, no_words)

pub loop-i-preserved : goal.loop-i-preserved
loop-i-preserved c =
    (omega arith, omega (arith, c.keep.auto.drum), omega (arith, c.keep.auto.marks), one_word_more c.loop-i.invariant.3 c.word_of-w.ensures (c.requires.words_fit c.loop-i.i (omega arith)) (omega arith) c.keep.ensures)

pub returns : goal.returns
returns c =
    let a = c.args in
    let l = c.loop-i in
    let e : l.i ≡ a.words = omega arith in
    subst (λ (k : ℕ). Keeps a.drum.now a.marks.now l.drum l.marks (words_stored a.d.now a.location k)) e l.invariant.3.keeps
