-- The round trips of the code, by the laws of cards. Assumes nothing.
use mathlib.Core.Path.{◌≡◌, sym, ap, subst, ◌∙◌}
use mathlib.Core.List.{List, ◌++◌}
use mathlib.Core.Bool.{Bool, true}
use Prim.Native.Nat.{ℕ, ◌+◌, ◌*◌, ◌≤◌, ◌<◌}
use native.Mathlib.Omega.{arith}
use lib.ListN.{length, get_or, take, drop}
use lib.Seq.{length-take-le, get_or-take}
use Rattle.rules.specs.Words.{pick}
use Rattle.rules.specs.Cards.{data_card, word_in, card_of}
use Rattle.rules.specs.Running.{over}
use Rattle.rules.specs.declared.Card.TheVariants.{Data}
use Rattle.rules.proofs.Tests.{both_first}
use Rattle.rules.proofs.Digits.{number_below}
use Rattle.rules.proofs.Fields.{word_below, length_data}
use Rattle.rules.proofs.CardTrips.{DataRead, data_is, data_read, data_written_read, data_written_words, data_read_written}
use Rattle.card.specs.Written.{data_may}
use Rattle.card.proofs.Writes.{May, may_is, is_may, was_whole}
use Rattle.card.specs.Trips.{WrittenIsRead, ReadIsWritten}

pub written_is_read : WrittenIsRead
unfolding over
written_is_read number location words n problem before after read l w e =
    let ws : List ℕ = take n words in
    let card : List ℕ = data_card number location ws problem in
    let rest : List ℕ = drop (length card) before in
    let m : May number location words n problem =
    may_is number location words n problem (both_first (data_may number location words n problem) _ (sym w.answer)) in
    let t : length ws ≡ n = length-take-le n words (omega (arith, m.few)) in
    let q : after ≡ card ++ rest = w.bytes ∙ ap (λ (s : Bool). pick s (card ++ rest) before) (sym w.answer) in
    let r : DataRead (card ++ rest) number location (length ws) problem (11 + 11 * length ws) =
    data_written_read number location ws problem rest (omega (arith, m.some)) (omega (arith, m.few)) (omega (arith, m.numbered))
    m.from (omega (arith, m.upto)) (omega (arith, m.posed)) in (
      e
          ∙ ap card_of q
          ∙ data_is (card ++ rest) number location (length ws) problem (11 + 11 * length ws) r
          ∙ ap (λ (k : ℕ). Data number location k problem (11 + 11 * k)) t,
      λ i h. ap (λ (d : List ℕ). word_in d (8 + 11 * i)) q
          ∙ data_written_words number location ws problem rest m.signed i (omega arith)
          ∙ get_or-take n words i 0 h,
    )

pub read_is_written : ReadIsWritten
read_is_written d number location n problem size words before after said l e s room w =
    let ws : List ℕ = take n words in
    let card : List ℕ = data_card number location ws problem in
    let r : DataRead d number location n problem size = data_read d number location n problem size (sym e) in
    let t : length ws ≡ n = length-take-le n words (omega (arith, r.few)) in
    let same : (i : ℕ) → i < n → word_in d (8 + 11 * i) ≡ get_or ws i 0 = λ i h. sym (s i h) ∙ sym (get_or-take n words i 0 h) in
    let m : May number location words n problem = record {
      numbered = omega (arith, r.numbered, number_below d 1 4 (λ o i k. r.fields.front o i (omega arith)));
      some = r.some;
      few = r.few;
      from = r.from;
      upto = r.upto;
      posed = omega (arith, r.posed, number_below d (8 + 11 * n) 3 (λ o i k. r.fields.back o i (omega arith)));
      signed = λ i h. subst (λ (x : ℕ). x ≤ 19999999999) (same i (omega arith)) (word_below d (8 + 11 * i) (r.fields.words i (omega arith)));
    } in
    let h : (said ≡ true) × (after ≡ over card before) =
    was_whole w (is_may number location words n problem m) (omega (arith, length_data number location ws problem, r.long)) in
    let q : card ≡ take size d =
    data_read_written d number location problem size ws
    (subst (λ (k : ℕ). DataRead d number location k problem size) (sym t) r) (λ i h. same i (omega arith)) in
    (h.0, h.1 ∙ ap (λ (c : List ℕ). over c before) q)
