-- Load by its outcomes: refused by check 10 or 11 with nothing changed, or done. Assumes nothing.
use Rattle.std.proofs.Common.{Err, Ok}
use mathlib.Core.Path.{◌≡◌, refl, ap, ◌∙◌}
use mathlib.Core.List.{List}
use mathlib.Core.Bool.{Bool, true, false}
use Prim.Native.Nat.{ℕ}
use native.Mathlib.Omega.{arith}
use lib.ListN.{length}
use Rattle.rules.specs.Words.{pick}
use Rattle.rules.specs.Decks.{data_from, cards_stored, deck_of}
use Rattle.rules.specs.Drum.{view, drum_fits}
use Rattle.rules.specs.Loads.{LoadCall, not_loaded, fresh, loaded_from, loaded}
use Rattle.rules.specs.Answers.{Deck, good}
use Rattle.rules.specs.declared.State.{State}
use Rattle.rules.specs.declared.DeckFault.{DeckFault}
use Rattle.rules.specs.declared.Bar.{Bar}
use Rattle.rules.specs.declared.Bar.TheVariants.{BadDrum, BadDeck}
use Rattle.drum.specs.Held.{Keeps, Stored}
use Rattle.drum.proofs.Cells.{kept}
use Rattle.drum.proofs.Begins.{begins}
use Rattle.machine.specs.Lent.{LoadRight}

module _ (c : LoadCall) where
  refused : (b : Bar) → LoadRight (not_loaded c b) c.drum c.marks (record { loading = Err b; state = c.state })
  refused b = record { loading_is = refl; state_is = refl; drum_is = refl; marks_are = refl }

  by_drum : (t : Bool) → drum_fits (length c.drum) c.marks (view c.drum c.marks) ≡ t
      → loaded c ≡ pick t (loaded_from c (deck_of c.deck)) (not_loaded c BadDrum)
  unfolding loaded
  by_drum t e = ap (λ (t : Bool). pick t (loaded_from c (deck_of c.deck)) (not_loaded c BadDrum)) e

  pub load_bad_drum : drum_fits (length c.drum) c.marks (view c.drum c.marks) ≡ false
      → LoadRight (loaded c) c.drum c.marks (record { loading = Err BadDrum; state = c.state })
  load_bad_drum e = rw (by_drum false e) (refused BadDrum)

  module _ (e : drum_fits (length c.drum) c.marks (view c.drum c.marks) ≡ true) where
    by_deck : {d : Deck} → deck_of c.deck ≡ d → loaded c ≡ loaded_from c d
    by_deck q = by_drum true e ∙ ap (loaded_from c) q

    pub load_bad_deck : (f : DeckFault) → deck_of c.deck ≡ Err f
        → LoadRight (loaded c) c.drum c.marks (record { loading = Err (BadDeck f); state = c.state })
    unfolding loaded_from
    load_bad_deck f q = rw (by_deck q) (refused (BadDeck f))

    pub load_done : {behind order problem : ℕ} {drum₁ marks₁ drum₂ marks₂ : List ℕ} {s : State} → deck_of c.deck ≡ good behind order problem
        → Keeps c.drum c.marks drum₁ marks₁ (cards_stored behind (data_from c.deck 0))
        → Stored drum₁ marks₁ 0 0 drum₂ marks₂ → s ≡ fresh behind order problem c.traced
        → LoadRight (loaded c) drum₂ marks₂ (record { loading = Ok tt; state = s })
    unfolding loaded_from
    load_done q k t r =
        let h = kept (k c.drum (view c.drum c.marks) (begins c.drum c.marks e)) 0 0 (omega arith) (omega arith) t in
        rw (by_deck q) (record { loading_is = refl; state_is = r; drum_is = h.drum_is; marks_are = h.marks_are })
