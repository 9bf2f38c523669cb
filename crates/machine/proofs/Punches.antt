-- One card of a block punched, and the cards of a whole block, said of the machine that the lent runs show. Assumes nothing.
use Rattle.std.proofs.Common.{Err, Ok}
use Prim.Native.Nat.{ℕ, zero, suc, ◌+◌, ◌-◌, ◌*◌, ◌%◌, ◌≤◌, ◌<◌}
use mathlib.Core.Path.{◌≡◌, refl, sym, ap, subst, ◌∙◌}
use mathlib.Core.List.{List}
use mathlib.Core.Bool.{Bool, true}
use native.Mathlib.Omega.{arith}
use lib.ListN.{length, take}
use borrow.Author.Tests.{le-leb, lt-leb, ne_eqb, eq-eqb}
use Rattle.rules.specs.Cards.{data_card}
use Rattle.rules.specs.Drum.{view}
use Rattle.rules.specs.Machine.{Machine, Inputs, numbered, onward}
use Rattle.rules.specs.Orders.{words_from, five, card_punched, cards_punched, punch_size, punched}
use Rattle.rules.specs.Answers.{Cell}
use Rattle.rules.specs.declared.Refusal.TheVariants.{NoRoom}
use Rattle.rules.specs.declared.Done.TheVariants.{GoesOn}
use Rattle.rules.proofs.Parts.{part_of, put_back}
use Rattle.rules.proofs.Punching.{card_bytes}
use Rattle.card.specs.Written.{Wrote as WroteCard, data_may}
use Rattle.card.proofs.Writes.{all_words_lem}
use Rattle.drum.specs.Blocks.{first_words}
use Rattle.drum.proofs.Cells.{seen}
use Rattle.drum.proofs.Runs.{gathered}
use Rattle.machine.specs.Lent.{Went, Shows, Did, Sends}
use Rattle.machine.specs.Fives.{NextCard}
use Rattle.machine.proofs.Shown.{went_on, stays}
use Rattle.machine.proofs.Sent.{out_long, card_shown}
use Rattle.rules.specs.declared.State.{State}
use Rattle.machine.specs.declared.desk.Desk.{Desk}

-- ---- one card

module _ {drum₀ out₀ drum marks out : List ℕ} {desk : Desk} {m : Machine} (h : Shows drum₀ out₀ drum marks out desk m)
    {b n : ℕ} {words : List ℕ} {s : State} (low : 1 ≤ b) (top : b + n ≤ 1000) (some : 1 ≤ n) (few : n ≤ 5)
    (space : desk.written + (11 + 11 * n) ≤ length out) (first : words ≡ first_words (view drum marks) b n) (up : s ≡ numbered desk.state) where
  state_up : s ≡ numbered m.state
  state_up = up ∙ ap numbered h.state_is

  words_are : take n words ≡ words_from m.cells b n
  words_are = ap (take n) first ∙ gathered (view drum marks) b n few ∙ ap (λ (v : List Cell). words_from v b n) (seen h.memory)

  may : data_may s.counter b words n s.problem ≡ true
  may =
      let k : s.counter ≡ (m.state.counter + 1) % 10000 = ap (λ (z : State). z.counter) state_up in
      let p : s.problem ≡ desk.state.problem = ap (λ (z : State). z.problem) up in
      simp (
        words_are,
        le-leb s.counter 9999 (omega arith),
        le-leb 1 n some,
        le-leb n 5 few,
        le-leb 1 b low,
        le-leb (b + n) 1000 top,
        le-leb s.problem 999 (omega (arith, desk.problem_fits)),
        all_words_lem m.cells b n h.memory.words,
      )

  pub card_sent_lem : {said : Bool} {part : List ℕ} {desk' : Desk}
      → WroteCard (data_may s.counter b words n s.problem) (data_card s.counter b (take n words) s.problem)
      (part_of desk.written out) said part
      → desk'.state ≡ s → desk'.written ≡ desk.written + (11 + 11 * n) → Shows drum₀ out₀ drum marks (put_back desk.written out part) desk' (card_punched m b n)
  card_sent_lem wrote e f =
      card_shown h (data_card ((m.state.counter + 1) % 10000) b (words_from m.cells b n) m.state.problem) (11 + 11 * n) wrote may
      (λ i. data_card (state_up i).counter b (words_are i) (state_up i).problem)
      (card_bytes m.cells ((m.state.counter + 1) % 10000) b n m.state.problem) space (e ∙ up) f

-- ---- all cards of a block

-- how far the loop over the cards has come: what is left to punch, from the machine now shown, is the whole from the one at the start
pub record Punching (drum marks out₁ : List ℕ) (desk₁ : Desk) (b n : ℕ) (out : List ℕ) (desk : Desk) (next left : ℕ) : Type 0 where
  pub long : length out ≡ length out₁
  pub room : desk.written + punch_size left ≤ length out
  pub low : 1 ≤ next
  pub inside : next + left ≤ 1000
  pub located : desk.state.location ≤ 999
  pub cards : ℕ
  pub enough : left ≤ cards
  pub sends :
      (drum₀ out₀ : List ℕ) (m : Machine) → Shows drum₀ out₀ drum marks out₁ desk₁ m
      → (u : Machine) × Shows drum₀ out₀ drum marks out desk u × (cards_punched cards u next left ≡ cards_punched n m b n)

more : (j : ℕ) (m : Machine) (b n : ℕ) → (n ≡ 0 → ⊥) → cards_punched (suc j) m b n ≡ cards_punched j (card_punched m b (five n)) (b + five n) (n - five n)
unfolding cards_punched
more j m b n z = rw (ne_eqb n 0 z, cards_punched)

none_left : (j : ℕ) (m : Machine) (b n : ℕ) → n ≡ 0 → cards_punched j m b n ≡ m
unfolding cards_punched
none_left zero m b n z = refl
none_left (suc j) m b n z = rw (eq-eqb n 0 z, cards_punched)

module _ {drum marks out₁ : List ℕ} {desk₁ : Desk} {b n : ℕ} {out : List ℕ} {desk : Desk} {next left : ℕ}
    (i : Punching drum marks out₁ desk₁ b n out desk next left) where
  pub punching_more : {k : ℕ} {out' : List ℕ} {desk' : Desk} → NextCard left k → length out' ≡ length out → desk'.state ≡ numbered desk.state → desk'.written ≡ desk.written + (11 + 11 * k)
      → Sends drum marks out desk out' desk' (λ m. card_punched m next k)
      → Punching drum marks out₁ desk₁ b n out' desk' (next + k) (left - k)
  punching_more {k} {out'} {desk'} w g f t x = by_cards i.cards i.enough i.sends
    where
      by_cards : (j : ℕ) → left ≤ j
          → ((drum₀ out₀ : List ℕ) (m : Machine) → Shows drum₀ out₀ drum marks out₁ desk₁ m
          → (u : Machine) × Shows drum₀ out₀ drum marks out desk u × (cards_punched j u next left ≡ cards_punched n m b n))
          → Punching drum marks out₁ desk₁ b n out' desk' (next + k) (left - k)
      by_cards zero q y = let z : ⊥ = omega (arith, w.some, w.upto) in absurd z
      by_cards (suc j) q y =
          record {
            long = g ∙ i.long;
            room = omega (arith, i.room, w.size, g, t);
            low = omega (arith, i.low);
            inside = omega (arith, i.inside, w.upto);
            located = omega (arith, i.located, ap (λ (z : State). z.location) f);
            cards = j;
            enough = omega (arith, w.some);
            sends = λ drum₀ out₀ m h.
                let v = y drum₀ out₀ m h in
                let r : cards_punched j (card_punched v.0 next k) (next + k) (left - k) ≡ cards_punched (suc j) v.0 next left =
                ap (λ (a : ℕ). cards_punched j (card_punched v.0 next a) (next + a) (left - a)) w.is_five ∙ sym (more j v.0 next left (omega (arith, w.some, w.upto))) in
                (card_punched v.0 next k, x drum₀ out₀ v.0 v.1, r ∙ v.2);
          }

  pub punching_end : {desk' : Desk} → left ≤ 0 → Went desk (desk.state.location + 1) desk'
      → Sends drum marks out₁ desk₁ out desk' (λ m. onward (cards_punched n m b n))
  punching_end {desk'} l e drum₀ out₀ m h =
      let v = i.sends drum₀ out₀ m h in
      let z : left ≡ 0 = omega arith in
      subst (λ (a : Machine). Shows drum₀ out₀ drum marks out desk' (onward a)) (sym (none_left i.cards v.0 next left z) ∙ v.2)
      (went_on v.1 e).shows

-- ---- PCH

module _ {drum₀ out₀ drum marks out : List ℕ} {desk : Desk} {m : Machine} (h : Shows drum₀ out₀ drum marks out desk m) (i : Inputs) (b n : ℕ)
    (room : length out₀ ≡ i.room) where
  pub punch_full : length out - desk.written < punch_size n → desk.written ≤ length out → Did drum₀ out₀ drum marks out desk (Err NoRoom) (punched i m b n)
  unfolding punched
  punch_full l k =
      simp (lt-leb (length m.sent + punch_size n) i.room (omega (arith, out_long h.output, h.written_is))) (stays h (Err NoRoom))

  pub punch_done : {out' : List ℕ} {desk' : Desk} → desk.written + punch_size n ≤ length out → Shows drum₀ out₀ drum marks out' desk' (onward (cards_punched n m b n))
      → Did drum₀ out₀ drum marks out' desk' (Ok GoesOn) (punched i m b n)
  unfolding punched
  punch_done l x =
      simp (le-leb (length m.sent + punch_size n) i.room (omega (arith, out_long h.output, h.written_is))) (record { outcome_is = refl; shows = x })
