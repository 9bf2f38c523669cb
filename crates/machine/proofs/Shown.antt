-- What the lent runs show after an order, said of plain lists: a cell read, a word stored, another location. Assumes nothing.
use Rattle.std.proofs.Common.{Ok}
use Prim.Native.Nat.{ℕ, ◌+◌, ◌≤◌, ◌<◌}
use mathlib.Core.Path.{◌≡◌, refl, ap, ◌∙◌}
use mathlib.Core.List.{List}
use Rattle.rules.specs.Drum.{view, word_at}
use Rattle.rules.specs.Machine.{Machine, went_to, stored, going_to, onward, done, stops}
use Rattle.rules.specs.Answers.{Cell, Outcome}
use Rattle.rules.specs.declared.Done.TheVariants.{GoesOn}
use Rattle.drum.specs.Held.{Ready, Holds, Stored}
use Rattle.drum.proofs.Cells.{seen, kept}
use Rattle.machine.specs.Lent.{Went, Shows, Did}
use Rattle.rules.specs.declared.State.{State}
use Rattle.machine.specs.declared.desk.Desk.{Desk}

-- ---- cells

module _ {drum₀ drum marks : List ℕ} {v : List Cell} (h : Holds drum₀ drum marks v) where
  pub word_is : {w : ℕ} (a : ℕ) → w ≡ word_at (view drum marks) a → w ≡ word_at v a
  word_is a e = e ∙ ap (λ (u : List Cell). word_at u a) (seen h)

  pub ready : Ready drum marks
  ready = rw (seen h) h.words

-- ---- orders

module _ {drum₀ out₀ drum marks out : List ℕ} {desk : Desk} {m : Machine} (h : Shows drum₀ out₀ drum marks out desk m) where
  -- the machine is as it was, whatever is answered
  pub stays : (o : Outcome) → Did drum₀ out₀ drum marks out desk o (stops o m)
  stays o = record { outcome_is = refl; shows = h }

  pub location_is : desk.state.location ≡ m.state.location
  location_is = ap (λ (s : State). s.location) h.state_is

  -- the next order is at l
  pub went : (o : Outcome) (l : ℕ) {desk' : Desk} → Went desk l desk' → Did drum₀ out₀ drum marks out desk' o (stops o (going_to m l))
  went o l e =
      record {
        outcome_is = refl;
        shows =
            record {
              memory = h.memory;
              output = h.output;
              state_is = e.0 ∙ ap (λ (s : State). went_to s l) h.state_is;
              written_is = e.1 ∙ h.written_is;
            };
      }

  pub went_as : (o : Outcome) {l l' : ℕ} {desk' : Desk} → l ≡ l' → Went desk l desk'
      → Did drum₀ out₀ drum marks out desk' o (stops o (going_to m l'))
  went_as o {l' = l'} q e = went o l' (e.0 ∙ ap (went_to desk.state) q, e.1)

  -- one word is stored
  pub with_word_lem : {d k : List ℕ} (a w : ℕ) → a < 1000 → w ≤ 19999999999 → Stored drum marks a w d k
      → Shows drum₀ out₀ d k out desk (stored m a w)
  with_word_lem a w l g s = record { memory = kept h.memory a w l g s; output = h.output; state_is = h.state_is; written_is = h.written_is }

-- the next order is the one behind this
pub went_on : {drum₀ out₀ drum marks out : List ℕ} {desk : Desk} {m : Machine} (h : Shows drum₀ out₀ drum marks out desk m) {desk' : Desk}
    → Went desk (desk.state.location + 1) desk' → Did drum₀ out₀ drum marks out desk' (Ok GoesOn) (done (onward m))
went_on {desk = desk} {m = m} h e =
    went h (Ok GoesOn) (m.state.location + 1) (e.0 ∙ ap (λ (l : ℕ). went_to desk.state (l + 1)) (location_is h), e.1)
