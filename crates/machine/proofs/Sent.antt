-- A card written into what is left of the output is behind the cards that were sent before it. Assumes nothing.
use Prim.Native.Nat.{ℕ, ◌+◌, ◌-◌, ◌≤◌}
use mathlib.Core.Path.{◌≡◌, refl, sym, ap, subst, ◌∙◌}
use mathlib.Core.List.{List, [], ◌++◌, append_assoc, append-nil}
use mathlib.Core.Bool.{Bool, true}
use native.Mathlib.Omega.{arith}
use lib.ListN.{length, take, drop, length-append, length-drop}
use lib.Seq.{take_at, drop_at, drop-drop}
use borrow.Author.Tests.{le-leb}
use Rattle.rules.specs.Running.{over}
use Rattle.rules.specs.Machine.{Machine, numbered, with_state, sending}
use Rattle.rules.proofs.Parts.{part_of, put_back, part_is, nothing_behind}
use Rattle.card.specs.Written.{Wrote as WroteCard, written}
use Rattle.machine.specs.Lent.{Wrote, Shows}
use Rattle.machine.specs.declared.desk.Desk.{Desk}

module _ {out₀ out sent : List ℕ} (h : Wrote out₀ out sent) where
  pub out_long : length out ≡ length out₀
  unfolding over
  out_long =
      let f : length sent ≤ length out₀ = h.fits in
      ap length h.out_is ∙ simp (length-append, length-drop) (omega arith)

  front : take (length sent) out ≡ sent
  unfolding over
  front = ap (take (length sent)) h.out_is ∙ take_at sent (drop (length sent) out₀) (length sent) refl

  rest : (k : ℕ) → drop (length sent + k) out ≡ drop (length sent + k) out₀
  unfolding over
  rest k =
      ap (drop (length sent + k)) h.out_is ∙ sym (drop-drop k (length sent) (sent ++ drop (length sent) out₀))
      ∙ ap (drop k) (drop_at sent (drop (length sent) out₀) (length sent) refl) ∙ drop-drop k (length sent) out₀

  sent_card : (card p : List ℕ) → length sent + length card ≤ length out → p ≡ written true card (part_of (length sent) out)
      → Wrote out₀ (put_back (length sent) out p) (sent ++ card)
  unfolding over
  sent_card card p l w =
      let at : ℕ = length sent in
      let n : length (drop at out) ≡ length out - at = length-drop at out in
      let z : length out ≡ length out₀ = out_long in
      let y : length (sent ++ card) ≡ at + length card = length-append sent card in
      let q : p ≡ card ++ drop (length card) (drop at out) =
      w ∙ ap (λ (x : List ℕ). written true card x) (part_is at out) ∙ simp (le-leb (length card) (length (drop at out)) (omega arith)) in
      let t : put_back at out p ≡ sent ++ ((card ++ drop (length card) (drop at out)) ++ []) =
      (λ i. front i ++ (q i ++ nothing_behind at out i)) in
      let u : (card ++ drop (length card) (drop at out)) ++ [] ≡ card ++ drop (length (sent ++ card)) out₀ =
      append-nil (card ++ drop (length card) (drop at out))
      ∙ ap (λ (x : List ℕ). card ++ x) (drop-drop (length card) at out ∙ rest (length card) ∙ ap (λ (k : ℕ). drop k out₀) (sym y)) in
      record {
        out_is = t ∙ ap (λ (x : List ℕ). sent ++ x) u ∙ sym (append_assoc sent card (drop (length (sent ++ card)) out₀));
        fits = omega arith;
      }

-- a card of n bytes is sent, the counter having risen
pub card_shown : {drum₀ out₀ drum marks out : List ℕ} {desk : Desk} {m : Machine} (h : Shows drum₀ out₀ drum marks out desk m)
    {may said : Bool} {made p : List ℕ} {desk' : Desk} (card : List ℕ) (n : ℕ) → WroteCard may made (part_of desk.written out) said p
    → may ≡ true → made ≡ card → length card ≡ n → desk.written + n ≤ length out → desk'.state ≡ numbered desk.state → desk'.written ≡ desk.written + n
    → Shows drum₀ out₀ drum marks (put_back desk.written out p) desk' (sending (with_state m (numbered m.state)) card)
card_shown {out₀ = out₀} {out = out} {desk = desk} {m = m} h {p = p} card n w e f g l r q =
    let at : desk.written ≡ length m.sent = h.written_is in
    record {
      memory = h.memory;
      output = subst (λ (a : ℕ). Wrote out₀ (put_back a out p) (m.sent ++ card)) (sym at)
          (sent_card h.output card p (omega arith) (w.bytes ∙ (λ i. written (e i) (f i) (part_of (at i) out))));
      state_is = r ∙ ap numbered h.state_is;
      written_is = q ∙ (λ i. at i + sym g i) ∙ sym (length-append m.sent card);
    }
