-- The data cards of a deck, as loops take them one by one: what is left has the answer of the whole. Assumes nothing.
use Rattle.std.proofs.Common.{Err, Ok}
use mathlib.Core.Path.{◌≡◌, sym, ap, ◌∙◌}
use mathlib.Core.List.{List, [], ◌∷◌}
use mathlib.Core.Bool.{true, false}
use Prim.Native.Nat.{ℕ, ◌+◌, ◌≤◌, ◌<◌}
use lib.ListN.{length, drop}
use borrow.Author.Tests.{eq-eqb, ne_eqb, lt-ltb, le-ltb, le-leb, lt-leb}
use Rattle.rules.specs.Decks.{card_at, DataCard, data_from, judged, judged_from, begins_at, may_stand}
use Rattle.rules.specs.Answers.{Judged}
use Rattle.rules.specs.declared.Card.{Card}
use Rattle.rules.specs.declared.Card.TheVariants.{Data}
use Rattle.rules.specs.declared.Refusal.TheVariants.{Unfit, NoCard}
use Rattle.rules.proofs.Decks.{Other, DataAt, data_at, data_next, data_none}

-- ---- judged

full : (ks : List DataCard) (at b c : ℕ) → c < b → Ok at ≡ judged ks at b c
unfolding judged
full [] at b c l = simp (lt-ltb c b l)
full (k ∷ ks) at b c l = simp (lt-ltb c b l, judged)

-- the cells from `next` on are still to be filled, by the cards from place `at` on
pub record Judging (deck : List ℕ) (from b c at next : ℕ) : Type 0 where
  pub same : judged (data_from deck at) at next c ≡ judged_from deck from b c

module _ {deck : List ℕ} {from b c at next : ℕ} (h : Judging deck from b c at next) where
  pub judging_full : c < next → Ok at ≡ judged_from deck from b c
  judging_full l = full (data_from deck at) at next c l ∙ h.same

  module _ (l : next ≤ c) where
    pub judging_none : (x : Card) → Other x → card_at deck at ≡ x → Err NoCard ≡ judged_from deck from b c
    unfolding judged
    judging_none x t q =
        sym (ap (λ (ks : List DataCard). judged ks at next c) (data_none deck at x t q) ∙ simp (le-ltb c next l)) ∙ h.same

    module _ {number location words problem size : ℕ} (q : card_at deck at ≡ Data number location words problem size) where
      first : (r : Judged)
          → let k : DataCard = record { place = at; location = location; words = words; size = size; rest = drop at deck } in
          judged (k ∷ data_from deck (at + size)) at next c ≡ r
          → r ≡ judged_from deck from b c
      first r e = sym (ap (λ (ks : List DataCard). judged ks at next c) (data_next deck at q) ∙ e) ∙ h.same

      pub judging_data : DataAt deck at location words size
      judging_data = data_at deck at q

      pub judging_elsewhere : (location ≡ next → ⊥) → Err Unfit ≡ judged_from deck from b c
      unfolding judged
      judging_elsewhere n = first (Err Unfit) (simp (le-ltb c next l, ne_eqb location next n, judged))

      pub judging_past : location ≡ next → c + 1 < next + words → Err Unfit ≡ judged_from deck from b c
      unfolding judged
      judging_past e g = first (Err Unfit) (simp (le-ltb c next l, eq-eqb location next e, lt-leb (next + words) (c + 1) g, judged))

      pub judging_more : location ≡ next → next + words ≤ c + 1 → Judging deck from b c (at + size) (next + words)
      unfolding judged
      judging_more e g = record {
        same =
            first (judged (data_from deck (at + size)) (at + size) (next + words) c)
            (simp (le-ltb c next l, eq-eqb location next e, le-leb (next + words) (c + 1) g, judged));
      }

-- ---- where a reader may stand

pub standing_end : (deck : List ℕ) (behind r : ℕ) → length deck ≡ r → true ≡ may_stand deck behind r
standing_end deck behind r e = simp (eq-eqb (length deck) r e)

-- no data card before place `at` begins at r, nor is r the deck's end
pub record Standing (deck : List ℕ) (behind r at : ℕ) : Type 0 where
  pub inside : length deck ≡ r → ⊥
  pub same : begins_at (data_from deck at) r ≡ begins_at (data_from deck behind) r

module _ {deck : List ℕ} {behind r at : ℕ} (h : Standing deck behind r at) where
  is_whole : begins_at (data_from deck at) r ≡ may_stand deck behind r
  is_whole = h.same ∙ simp (ne_eqb (length deck) r h.inside)

  pub standing_none : (x : Card) → Other x → card_at deck at ≡ x → false ≡ may_stand deck behind r
  unfolding begins_at
  standing_none x t q = sym (ap (λ (ks : List DataCard). begins_at ks r) (data_none deck at x t q)) ∙ is_whole

  module _ {number location words problem size : ℕ} (q : card_at deck at ≡ Data number location words problem size) where
    pub standing_data : DataAt deck at location words size
    standing_data = data_at deck at q

    pub standing_here : at ≡ r → true ≡ may_stand deck behind r
    unfolding begins_at
    standing_here e = sym (ap (λ (ks : List DataCard). begins_at ks r) (data_next deck at q) ∙ simp (eq-eqb at r e)) ∙ is_whole

    pub standing_more : (at ≡ r → ⊥) → Standing deck behind r (at + size)
    unfolding begins_at
    standing_more n = record {
      inside = h.inside;
      same = sym (ap (λ (ks : List DataCard). begins_at ks r) (data_next deck at q) ∙ simp (ne_eqb at r n)) ∙ h.same;
    }
