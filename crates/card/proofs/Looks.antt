-- The search for the first bad byte of a card, as a loop goes through its places: what is left to look at has the answer of the whole.
-- Assumes nothing.
use mathlib.Core.Path.{◌≡◌, refl, sym, ap, ◌∙◌}
use mathlib.Core.List.{List}
use mathlib.Core.Bool.{true, false}
use Prim.Native.Nat.{ℕ, zero, suc, max, ◌+◌, ◌-◌, ◌≤◌, ◌<◌}
use native.Mathlib.Numerals.{add-one}
use native.Mathlib.Omega.{arith}
use lib.ListN.{get_or}
use Rattle.rules.specs.Cards.{is_due, bad_from}
use Rattle.rules.proofs.Dues.{bad_more, bad_here}

-- the places of a card of n words up to o are as they should be
pub record Looked (n : ℕ) (d : List ℕ) (size o : ℕ) : Type 0 where
  pub from : 1 ≤ o
  pub same : bad_from n d o (size - o) ≡ bad_from n d 1 (size - 1)

pub look_begin : (n : ℕ) (d : List ℕ) (size : ℕ) → Looked n d size 1
look_begin n d size = record { from = omega arith; same = refl }

module _ (n : ℕ) (d : List ℕ) (size o : ℕ) (h : Looked n d size o) where
  one_less : o < size → size - o ≡ suc (size - (o + 1))
  one_less l = omega arith

  pub look_more : o < size → is_due n o (get_or d o 0) ≡ true → Looked n d size (o + 1)
  look_more l e = record {
    from = omega (arith, h.from);
    same =
        ap (λ (p : ℕ). bad_from n d p (size - (o + 1))) (add-one o)
        ∙ sym (bad_more n d o (size - (o + 1)) e)
        ∙ ap (bad_from n d o) (sym (one_less l))
        ∙ h.same;
  }

  pub look_bad : o < size → is_due n o (get_or d o 0) ≡ false → o ≡ bad_from n d 1 (size - 1)
  look_bad l e = sym (bad_here n d o (size - (o + 1)) e) ∙ ap (bad_from n d o) (sym (one_less l)) ∙ h.same

  pub look_end : size ≤ o → o ≡ bad_from n d 1 (size - 1)
  unfolding bad_from
  look_end l =
      let z : size - o ≡ 0 = omega arith in
      sym (ap (bad_from n d o) z) ∙ h.same

-- where no place is bad, the answer is the place behind the last
pub look_none : (n : ℕ) (d : List ℕ) (size o : ℕ) → Looked n d size o → size ≤ o → (1 ≤ size → o ≤ size) → max size 1 ≡ bad_from n d 1 (size - 1)
unfolding bad_from
look_none n d zero o h l k = refl
look_none n d (suc m) o h l k = let e = look_end n d (suc m) o h l in omega arith
