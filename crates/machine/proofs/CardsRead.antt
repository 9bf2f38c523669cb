-- READ, said of the machine that the lent runs show: by what the judging of its cards comes to. Assumes nothing.
use Rattle.std.proofs.Common.{Err, Ok}
use Prim.Native.Nat.{ℕ, ◌+◌}
use mathlib.Core.Path.{◌≡◌, refl, sym, ap, subst, ◌∙◌}
use mathlib.Core.List.{List}
use Rattle.rules.specs.Machine.{Machine, Inputs, went_to, read_to}
use Rattle.rules.specs.Decks.{data_from, cards_stored, judged_from}
use Rattle.rules.specs.Orders.{read}
use Rattle.rules.specs.Answers.{Judged}
use Rattle.rules.specs.declared.Refusal.{Refusal}
use Rattle.rules.specs.declared.Done.TheVariants.{GoesOn}
use Rattle.drum.specs.Held.{Holds, Keeps}
use Rattle.machine.specs.Lent.{Shows, Did}
use Rattle.machine.proofs.Shown.{stays}
use Rattle.rules.specs.declared.State.{State}
use Rattle.machine.specs.declared.desk.Desk.{Desk}

module _ {drum₀ out₀ drum marks out : List ℕ} {desk : Desk} {m : Machine} (h : Shows drum₀ out₀ drum marks out desk m) (i : Inputs) {deck : List ℕ}
    (d : i.deck ≡ deck) (b c : ℕ) {j : Judged} (q : j ≡ judged_from deck (desk.state.reader) b c) where
  judged_is : j ≡ judged_from i.deck m.state.reader b c
  judged_is = q ∙ (λ k. judged_from (sym d k) (h.state_is k).reader b c)

  pub read_fails : {why : Refusal} → j ≡ Err why
      → Did drum₀ out₀ drum marks out desk (Err why) (read i m (judged_from i.deck m.state.reader b c))
  read_fails {why} e =
      subst (λ (x : Judged). Did drum₀ out₀ drum marks out desk (Err why) (read i m x)) (sym e ∙ judged_is) (stays h (Err why))

  pub read_fits : {end : ℕ} {drum' marks' : List ℕ} {desk' : Desk} → j ≡ Ok end
      → Keeps drum marks drum' marks' (cards_stored end (data_from deck (desk.state.reader)))
      → desk'.state ≡ read_to (went_to desk.state (desk.state.location + 1)) end → desk'.written ≡ desk.written
      → Did drum₀ out₀ drum' marks' out desk' (Ok GoesOn) (read i m (judged_from i.deck m.state.reader b c))
  read_fits {end} {drum'} {marks'} {desk'} e k r t =
      subst (λ (x : Judged). Did drum₀ out₀ drum' marks' out desk' (Ok GoesOn) (read i m x)) (sym e ∙ judged_is)
      (record {
        outcome_is = refl;
        shows =
            record {
              memory =
                  subst (λ (x : List ℕ). Holds drum₀ drum' marks' (cards_stored end (data_from x m.state.reader) m.cells)) (sym d)
                  (subst (λ (x : State). Holds drum₀ drum' marks' (cards_stored end (data_from deck x.reader) m.cells)) h.state_is
                  (k drum₀ m.cells h.memory));
              output = h.output;
              state_is = r ∙ ap (λ (x : State). read_to (went_to x (x.location + 1)) end) h.state_is;
              written_is = t ∙ h.written_is;
            };
      })
