-- `card::put_words` meets its contract. The loop's invariant: the words passed stand in the output, and all else is as it was.
-- Assumes nothing.
use mathlib.Core.List.{List}
use mathlib.Core.Path.{◌≡◌, refl, sym, ap, subst, ◌∙◌}
use Prim.Native.Nat.{ℕ, ◌+◌, ◌*◌}
use native.Mathlib.Omega.{arith}
use lib.ListN.{length, get_or, take}
use lib.Seq.{take-length}
use Rattle.rules.specs.Cards.{word_bytes, words_bytes}
use Rattle.rules.proofs.Fields.{length_word, words_more}
use Rattle.octets.specs.Put.{splice}
use Rattle.octets.proofs.Joins.{Put, put_more, put_nothing}
use Rattle.card.proofs.parts.put_words.Goals as goal

pub loop-i-init : goal.loop-i-init
unfolding words_bytes
loop-i-init c = (refl, put_nothing c.args.out.now (omega arith) (omega (arith, c.requires)))

pub loop-i-preserved : goal.loop-i-preserved
loop-i-preserved c =
    let a = c.args in
    let l = c.loop-i in
    let ws = a.words.now in
    let w = get_or ws l.i 0 in
    let e = a.a + 11 * (l.i + 1) in (
      c.put_word.auto.out ∙ l.invariant.0,
      subst (λ (s : List ℕ). Put a.out.now a.a s e c.put_word.new.out) (sym (words_more ws l.i (omega arith)))
          (put_more (word_bytes w) 11 l.invariant.1 c.put_word.ensures (length_word w) (omega arith) (omega (arith, c.requires))),
    )

pub shape_of-out : goal.shape_of-out
shape_of-out c = c.loop-i.invariant.0

pub returns : goal.returns
returns c =
    let a = c.args in
    let e : c.loop-i.i ≡ length a.words.now = omega arith in
    c.loop-i.invariant.1.same
    ∙ ap (λ (k : ℕ). splice a.a (words_bytes (take k a.words.now)) a.out.now) e
    ∙ ap (λ (ws : List ℕ). splice a.a (words_bytes ws) a.out.now) (take-length a.words.now)
