-- A word stored, and a result at C and at 000, said of the machine that the lent runs show. Assumes nothing.
use Rattle.std.proofs.Common.{Ok}
use Prim.Native.Nat.{ℕ, ◌+◌, ◌≤◌, ◌<◌}
use mathlib.Core.Path.{◌≡◌, refl, subst}
use mathlib.Core.List.{List}
use native.Mathlib.Omega.{arith}
use Rattle.rules.specs.Machine.{Machine, stored, going_to, onward, done}
use Rattle.rules.specs.Orders.{result_at}
use Rattle.rules.specs.Answers.{Reckoned}
use Rattle.rules.specs.declared.Done.TheVariants.{GoesOn}
use Rattle.rules.proofs.Results.{Fits}
use Rattle.drum.specs.Held.{Stored}
use Rattle.machine.specs.Lent.{Went, Shows, Did}
use Rattle.machine.proofs.Shown.{with_word_lem, went, went_on}
use Rattle.machine.specs.declared.desk.Desk.{Desk}

-- what a result's bound says of the word in it
pub fits_word : (r : Reckoned) (w : ℕ) → r ≡ Ok w → Fits r → w ≤ 19999999999
fits_word r w e f = subst Fits e f

module _ {drum₀ out₀ drum marks out d k : List ℕ} {desk : Desk} {m : Machine} (h : Shows drum₀ out₀ drum marks out desk m) (a : ℕ) {w w' : ℕ} (l : a < 1000)
    (g : w ≤ 19999999999) (q : w ≡ w') (s : Stored drum marks a w d k) where
  held : Shows drum₀ out₀ d k out desk (stored m a w')
  held = subst (λ (x : ℕ). Shows drum₀ out₀ d k out desk (stored m a x)) q (with_word_lem h a w l g s)

  -- one word is stored, and the next order is at b, or the one behind this
  pub stored_went : (b : ℕ) {desk' : Desk} → Went desk b desk' → Did drum₀ out₀ d k out desk' (Ok GoesOn) (done (going_to (stored m a w') b))
  stored_went b e = went held (Ok GoesOn) b e

  pub stored_on : {desk' : Desk} → Went desk (desk.state.location + 1) desk' → Did drum₀ out₀ d k out desk' (Ok GoesOn) (done (onward (stored m a w')))
  stored_on e = went_on held e

pub result_on : {drum₀ out₀ drum marks out d k d' k' : List ℕ} {desk desk' : Desk} {m : Machine} (h : Shows drum₀ out₀ drum marks out desk m) (c w : ℕ) → c < 1000
    → w ≤ 19999999999 → Stored drum marks c w d k → Stored d k 0 w d' k' → Went desk (desk.state.location + 1) desk'
    → Did drum₀ out₀ d' k' out desk' (Ok GoesOn) (done (onward (result_at m c w)))
result_on h c w l g s t e = stored_on (with_word_lem h c w l g s) 0 (omega arith) g refl t e
