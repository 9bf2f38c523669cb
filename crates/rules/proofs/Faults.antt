-- Small decks with one fault, or with several of which the first is told, computed on the definitions: the number and the place. A number or a
-- place that is defined otherwise, or judged in another order, breaks one of them. Assumes nothing.
use Prim.Native.Nat.{ℕ}
use Prim.Native.String.{String}
use mathlib.Core.Path.{◌≡◌, refl}
use Rattle.rules.specs.Bytes.{bytes}
use Rattle.rules.specs.Cards
use Rattle.rules.specs.Decks
use Rattle.rules.specs.Decks.{deck_of}
use Rattle.rules.specs.Numbers.{check_number, check_place}

abbrev pub Tells : String → ℕ → ℕ → Type 0
Tells deck number place = (check_number (deck_of (bytes deck)) ≡ number) × (check_place (deck_of (bytes deck)) ≡ place)

pub record FaultsTold : Type 0 where
  pub good : Tells "10001001+0000000000000T001000" 0 0
  pub unknown_kind : Tells "T00100061001001" 13 7
  pub trace_card_lem : Tells "X0001101+0000000000000" 13 0
  pub cut_short : Tells "T001000100" 14 7
  pub cut_short_with_a_bad_byte : Tells "T0A100" 14 0
  pub bad_digit : Tells "T00100020001001+00000O0000+0000000000000" 15 21
  pub bad_sign : Tells "T00100020001001+000000000000000000000000" 15 26
  pub first_of_two_bad_bytes : Tells "T1 10 0" 15 2
  pub bad_byte_of_a_location_out_of_range : Tells "T00000A" 15 6
  pub location_0 : Tells "T00100010001000+0000000000000" 16 12
  pub last_cell_past_999 : Tells "20001999+0000000000+0000000000000T001000" 16 5
  pub first_order_0 : Tells "10001001+0000000000000T000000" 16 23
  pub second_first : Tells "T001000T001000" 17 7
  pub second_first_cut_short : Tells "T00100010001001+0000000000000T" 17 29
  pub none : Tells "" 18 0
  pub no_first_order : Tells "10001001+0000000000000" 18 22
  pub first_bad_card_of_two : Tells "10001001+000000000000A6" 15 21

pub faults_told : FaultsTold
unfolding bytes Cards.number_in Cards.bad_from Cards.data_of Cards.first_of Cards.card_of Decks.cut_from Decks.checked_from Decks.deck_of
faults_told =
    record {
      good = (refl, refl);
      unknown_kind = (refl, refl);
      trace_card_lem = (refl, refl);
      cut_short = (refl, refl);
      cut_short_with_a_bad_byte = (refl, refl);
      bad_digit = (refl, refl);
      bad_sign = (refl, refl);
      first_of_two_bad_bytes = (refl, refl);
      bad_byte_of_a_location_out_of_range = (refl, refl);
      location_0 = (refl, refl);
      last_cell_past_999 = (refl, refl);
      first_order_0 = (refl, refl);
      second_first = (refl, refl);
      second_first_cut_short = (refl, refl);
      none = (refl, refl);
      no_first_order = (refl, refl);
      first_bad_card_of_two = (refl, refl);
    }
