-- How long each line is. Assumes nothing.
use mathlib.Core.Path.{◌≡◌, refl, ◌∙◌}
use mathlib.Core.Bool.{Bool, true, false}
use mathlib.Core.List.{List, ◌++◌}
use Prim.Native.Nat.{ℕ, zero, suc, ◌+◌, ◌*◌, ◌≤◌}
use native.Mathlib.Omega.{arith}
use lib.Dec.{eqb}
use lib.ListN.{length, take, drop, length-append}
use Rattle.rules.specs.Words.{pick, first_digit, a_in}
use Rattle.rules.specs.Bytes.{bytes}
use Rattle.rules.specs.Cards.{digits, word_in}
use Rattle.rules.specs.Codes.{code_in}
use Rattle.list.specs.Listing.{a_text, order_line, cell_line, head_line, cell_lines, data_lines, first_line, shown_lines, trace_lines, stop_line}
use Rattle.rules.proofs.Digits.{length_digits}
use Rattle.rules.proofs.Fields.{length_word}
use Rattle.octets.proofs.Joins.{length_field}
use Rattle.codes.proofs.Names.{name_ten}

pub length_a : (w : ℕ) → length (a_text w) ≡ 3
unfolding bytes
length_a w = by_test (eqb (first_digit w) 0)
  where
    by_test : (t : Bool) → length (pick t (bytes "   ") (digits 3 (a_in w))) ≡ 3
    by_test true = refl
    by_test false = length_digits 3 (a_in w)

pub length_order : (label : List ℕ) (w : ℕ) → length (order_line label w) ≡ length label + 37
unfolding order_line bytes
length_order label w =
    simp (length-append, length_word w, name_ten (code_in w), length_a w, length_digits) (omega arith)

pub length_cell : (address w : ℕ) → length (cell_line address w) ≡ 44
unfolding cell_line digits bytes
length_cell address w = length_order (bytes "  " ++ digits 3 address ++ bytes "  ") w

pub length_head : (title d : List ℕ) (back : ℕ) → length title ≡ 6 → 8 ≤ back → back + 3 ≤ length d → length (head_line title d back) ≡ 32
unfolding head_line bytes
length_head title d back t l h =
    let f₁ : length (take 4 (drop 1 d)) ≡ 4 = length_field d 1 4 (omega arith) in
    let f₂ : length (take 3 (drop 5 d)) ≡ 3 = length_field d 5 3 (omega arith) in
    let f₃ : length (take 3 (drop back d)) ≡ 3 = length_field d back 3 h in
    simp (length-append, t, f₁, f₂, f₃)

pub length_cells : (d : List ℕ) (location n : ℕ) → length (cell_lines d location n) ≡ 44 * n
unfolding cell_lines
length_cells d location zero = refl
length_cells d location (suc n) =
    length-append (cell_lines d location n) (cell_line (location + n) (word_in d (8 + 11 * n)))
    ∙ omega (arith, length_cells d location n, length_cell (location + n) (word_in d (8 + 11 * n)))

pub length_data : (d : List ℕ) (location n : ℕ) → 11 + 11 * n ≤ length d → length (data_lines d location n) ≡ 32 + 44 * n
unfolding data_lines bytes
length_data d location n h =
    length-append (head_line (bytes "card  ") d (8 + 11 * n)) (cell_lines d location n)
    ∙ omega (arith, length_head (bytes "card  ") d (8 + 11 * n) refl (omega arith) (omega arith), length_cells d location n)

pub length_first : (d : List ℕ) → 7 ≤ length d → length (first_line d) ≡ 32
unfolding first_line bytes
length_first d h =
    let f₁ : length (take 3 (drop 1 d)) ≡ 3 = length_field d 1 3 (omega arith) in
    let f₂ : length (take 3 (drop 4 d)) ≡ 3 = length_field d 4 3 (omega arith) in
    simp (length-append, f₁, f₂)

pub length-shown : (d : List ℕ) → 77 ≤ length d → length (shown_lines d) ≡ 100
unfolding shown_lines bytes
length-shown d h =
    let f₁ : length (take 3 (drop 32 d)) ≡ 3 = length_field d 32 3 (omega arith) in
    let f₂ : length (take 3 (drop 35 d)) ≡ 3 = length_field d 35 3 (omega arith) in
    let f₃ : length (take 3 (drop 38 d)) ≡ 3 = length_field d 38 3 (omega arith) in
    let f₄ : length (take 11 (drop 41 d)) ≡ 11 = length_field d 41 11 (omega arith) in
    let f₅ : length (take 11 (drop 52 d)) ≡ 11 = length_field d 52 11 (omega arith) in
    let f₆ : length (take 11 (drop 63 d)) ≡ 11 = length_field d 63 11 (omega arith) in
    simp (length-append, f₁, f₂, f₃, f₄, f₅, f₆)

pub length_trace : (d : List ℕ) → 77 ≤ length d → length (trace_lines d) ≡ 232
unfolding trace_lines bytes
length_trace d h =
    let l₁ = length_head (bytes "trace ") d 74 refl (omega arith) (omega arith) in
    let l₂ = length_order (bytes "  as stored  ") (word_in d 8) in
    let l₃ = length_order (bytes "  as done    ") (word_in d 19) in
    simp (length-append, l₁, l₂, l₃, length-shown d h)

pub length_stop : (d : List ℕ) → 24 ≤ length d → length (stop_line d) ≡ 54
unfolding stop_line bytes
length_stop d h =
    let f₁ : length (take 2 (drop 1 d)) ≡ 2 = length_field d 1 2 (omega arith) in
    let f₂ : length (take 4 (drop 3 d)) ≡ 4 = length_field d 3 4 (omega arith) in
    let f₃ : length (take 6 (drop 7 d)) ≡ 6 = length_field d 7 6 (omega arith) in
    let f₄ : length (take 11 (drop 13 d)) ≡ 11 = length_field d 13 11 (omega arith) in
    simp (length-append, f₁, f₂, f₃, f₄)
