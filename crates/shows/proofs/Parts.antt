-- Laws of how far a part of a file is listed. Assumes nothing.
use Prim.Native.Nat.{ℕ, zero, suc, ◌+◌, ◌-◌, ◌≤◌, ◌<◌}
use mathlib.Core.Path.{◌≡◌, refl, sym, ap, ap₂, ◌∙◌}
use mathlib.Core.List.{List}
use mathlib.Core.Bool.{Bool, true, false}
use native.Mathlib.Omega.{arith}
use borrow.Author.Tests.{le-ltb, lt-ltb, le-leb, lt-leb}
use lib.Dec.{leb, ltb}
use lib.ListN.{length, get_or, drop}
use Rattle.rules.specs.Words.{pick, both}
use Rattle.list.specs.Listing.{with_kind, is_second, size_of, size_met}
use Rattle.list.specs.declared.ends.Seen.{Seen}
use Rattle.shows.specs.Parts.{may_be_cut, is_listed, listed_upto}
use Rattle.shows.specs.declared.cards.Passed.{Passed}

cut_false : (a c : Bool) → both a (pick true false c) ≡ false
cut_false true c = refl
cut_false false c = refl

none_false : (a b e : Bool) → both a (pick b false (both false e)) ≡ false
none_false true true e = refl
none_false true false e = refl
none_false false b e = refl

short_false : (a b c : Bool) → both a (pick b false (both c false)) ≡ false
short_false true true c = refl
short_false true false true = refl
short_false true false false = refl
short_false false b c = refl

-- a second first-order card takes no bytes, and any other card those that it has
pub second_size : (s : Seen) (d : List ℕ) → is_second s d ≡ true → size_met s d ≡ 0
second_size s d e = ap (λ (t : Bool). pick t 0 (size_of d)) e

pub other_size_lem : (s : Seen) (d : List ℕ) → is_second s d ≡ false → size_met s d ≡ size_of d
other_size_lem s d e = ap (λ (t : Bool). pick t 0 (size_of d)) e

module _ (d : List ℕ) (last : Bool) (s : Seen) (at : ℕ) where
  size : ℕ
  size = size_met s (drop at d)

  abbrev here : Passed
  here = record { taken = at; seen = s }

  stop_at : (k : ℕ) → is_listed d last s at ≡ false → listed_upto k d last s at ≡ here
  unfolding listed_upto
  stop_at zero e = refl
  stop_at (suc k) e = rw (e, listed_upto)

  more_at : (k : ℕ) → is_listed d last s at ≡ true
      → listed_upto (suc k) d last s at ≡ listed_upto k d last (with_kind s (get_or (drop at d) 0 0)) (at + size_met s (drop at d))
  unfolding listed_upto
  more_at k e = rw (e, listed_upto)

  -- the listing ends here, by each of the four tests, and where all pass it goes on behind the card
  module _ (f : ℕ) {whole : Passed} (g : listed_upto f d last s at ≡ whole) where
    ends : is_listed d last s at ≡ false → here ≡ whole
    ends e = sym (stop_at f e) ∙ g

    pub ends_behind : length d ≤ at → here ≡ whole
    unfolding is_listed
    ends_behind h = ends (simp (le-ltb at (length d) h))

    pub ends_cut : may_be_cut (length d - at) last ≡ true → here ≡ whole
    unfolding is_listed size
    ends_cut e =
        ends (ap (λ (t : Bool). both (ltb at (length d)) (pick t false (both (ltb 0 size) (leb size (length d - at))))) e ∙ cut_false (ltb at (length d)) (both (ltb 0 size) (leb size (length d - at))))

    pub ends_none : size_met s (drop at d) ≡ 0 → here ≡ whole
    unfolding is_listed
    ends_none e =
        ends (ap (λ (n : ℕ). both (ltb at (length d)) (pick (may_be_cut (length d - at) last) false (both (ltb 0 n) (leb n (length d - at))))) e ∙ none_false (ltb at (length d)) (may_be_cut (length d - at) last) (leb 0 (length d - at)))

    pub ends_short : length d - at < size_met s (drop at d) → here ≡ whole
    unfolding is_listed size
    ends_short h =
        ends (ap (λ (t : Bool). both (ltb at (length d)) (pick (may_be_cut (length d - at) last) false (both (ltb 0 size) t))) (lt-leb size (length d - at) h) ∙ short_false (ltb at (length d)) (may_be_cut (length d - at) last) (ltb 0 size))

    pub goes_on : (n : ℕ) (r : Seen) → n ≡ size_met s (drop at d) → r ≡ with_kind s (get_or (drop at d) 0 0) → 0 < f → at < length d
        → may_be_cut (length d - at) last ≡ false → 0 < n → n ≤ length d - at
        → listed_upto (f - 1) d last r (at + n) ≡ whole
    unfolding is_listed size
    goes_on n r q w p h e l k =
        let t : is_listed d last s at ≡ true = simp (lt-ltb at (length d) h, e, lt-ltb 0 size (omega (arith, q)), le-leb size (length d - at) (omega (arith, q))) in
        ap₂ (λ (x : Seen) (y : ℕ). listed_upto (f - 1) d last x (at + y)) w q
        ∙ sym (more_at (f - 1) t)
        ∙ ap (λ (x : ℕ). listed_upto x d last s at) (let z : suc (f - 1) ≡ f = omega arith in z)
        ∙ g
