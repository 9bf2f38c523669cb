-- The machine file: how long its parts are, its bytes and numbers one by one, and that what is written is read back and what is read is
-- written again. A number is stated over how many bytes it has, a row over how many numbers. Assumes nothing.
use Prim.Native.Nat.{ℕ, zero, suc, ◌+◌, ◌*◌, ◌/◌, ◌%◌, ◌^◌, ◌≤◌, ◌<◌}
use mathlib.Core.Path.{◌≡◌, refl, sym, ap, ap₂, ◌∙◌}
use mathlib.Core.List.{List, [], ◌∷◌, ◌++◌, append_assoc, append-nil}
use native.Mathlib.Nat.{pow-suc, le_of_suc-le-suc}
use native.Mathlib.Numerals.{add-one}
use native.Mathlib.Omega.{arith}
use lib.ListN.{length, get_or, take, drop, length-append, length-drop, take-append-drop}
use lib.Seq.{take-suc, drop-cons, take_at, drop_at, drop-drop, take-add, take_all, length-take-le, get_or-take, get_or-drop}
use Rattle.file.specs.Files.{low_bytes, row_bytes, file_of, number_of, row_in, drum_in, marks_in, state_of, AllBelow}
use Rattle.rules.specs.States.{state_in, numbers_of}
use Rattle.rules.specs.declared.State.{State}
use Rattle.rules.proofs.States.{kept, state_kept}

-- ---- lengths

pub length_low : (n x : ℕ) → length (low_bytes n x) ≡ n
unfolding low_bytes
length_low zero x = refl
length_low (suc n) x = ap suc (length_low n (x / 256))

pub length-row : (row : List ℕ) → length (row_bytes row) ≡ 8 * length row
unfolding row_bytes
length-row [] = refl
length-row (x ∷ row) = length-append (low_bytes 8 x) (row_bytes row) ∙ omega (arith, length_low 8 x, length-row row)

pub length_in : (n : ℕ) (bytes : List ℕ) → length (row_in n bytes) ≡ n
unfolding row_in
length_in zero bytes = refl
length_in (suc n) bytes = ap suc (length_in n (drop 8 bytes))

pub length_file : (drum marks : List ℕ) (s : State) → length (file_of drum marks s) ≡ 8 * length drum + length marks + 72
unfolding file_of
length_file drum marks s =
    length-append (row_bytes drum ++ marks) (row_bytes (numbers_of s))
    ∙ omega (arith, length-append (row_bytes drum) marks, length-row drum, length-row (numbers_of s))

-- ---- bytes and numbers one by one

-- what is left of x above its i lowest bytes
abbrev pub shifted : ℕ → ℕ → ℕ
shifted zero x = x
shifted (suc i) x = shifted i (x / 256)

pub shifted_next : (i x : ℕ) → shifted i x / 256 ≡ shifted (i + 1) x
shifted_next i x = next i x ∙ ap (λ (k : ℕ). shifted k x) (sym (add-one i))
  where
    next : (i x : ℕ) → shifted i x / 256 ≡ shifted (suc i) x
    next zero x = refl
    next (suc i) x = next i (x / 256)

pub low_at : (n x i : ℕ) → i < n → get_or (low_bytes n x) i 0 ≡ shifted i x % 256
unfolding low_bytes
low_at zero x i h = absurd (let z : ⊥ = omega arith in z)
low_at (suc n) x zero h = refl
low_at (suc n) x (suc i) h = low_at n (x / 256) i (le_of_suc-le-suc h)

row-append : (us vs : List ℕ) → row_bytes (us ++ vs) ≡ row_bytes us ++ row_bytes vs
unfolding row_bytes
row-append [] vs = refl
row-append (u ∷ us) vs =
    ap (λ (l : List ℕ). low_bytes 8 u ++ l) (row-append us vs) ∙ sym (append_assoc (low_bytes 8 u) (row_bytes us) (row_bytes vs))

pub row_more : (row : List ℕ) (i : ℕ) → i < length row → row_bytes (take (i + 1) row) ≡ row_bytes (take i row) ++ low_bytes 8 (get_or row i 0)
unfolding row_bytes
row_more row i h =
    ap row_bytes (ap (λ (k : ℕ). take k row) (add-one i) ∙ take-suc row i 0 h)
    ∙ row-append (take i row) (get_or row i 0 ∷ [])
    ∙ ap (λ (l : List ℕ). row_bytes (take i row) ++ l) (append-nil (low_bytes 8 (get_or row i 0)))

-- a number from its highest byte down
pub number_more : (bytes : List ℕ) (i : ℕ) → i < length bytes → number_of (drop i bytes) ≡ get_or bytes i 0 + 256 * number_of (drop (i + 1) bytes)
unfolding number_of
number_more bytes i h =
    ap number_of (drop-cons bytes i 0 h) ∙ ap (λ (k : ℕ). get_or bytes i 0 + 256 * number_of (drop k bytes)) (sym (add-one i))

pub in_at : (n : ℕ) (bytes : List ℕ) (i : ℕ) → i < n → get_or (row_in n bytes) i 0 ≡ number_of (take 8 (drop (8 * i) bytes))
unfolding row_in
in_at zero bytes i h = absurd (let z : ⊥ = omega arith in z)
in_at (suc n) bytes zero h = refl
in_at (suc n) bytes (suc i) h =
    in_at n (drop 8 bytes) i (le_of_suc-le-suc h)
    ∙ ap (λ (l : List ℕ). number_of (take 8 l)) (drop-drop (8 * i) 8 bytes ∙ ap (λ (k : ℕ). drop k bytes) (let e : 8 + 8 * i ≡ 8 * suc i = omega arith in e))

-- ---- a number written is read, and read is written

low_number : (n x : ℕ) → x < 256 ^ n → number_of (low_bytes n x) ≡ x
unfolding low_bytes number_of
low_number zero x h = omega arith
low_number (suc n) x h =
    let e : 256 ^ suc n ≡ 256 ^ n * 256 = pow-suc 256 n in
    ap (λ (k : ℕ). x % 256 + 256 * k) (low_number n (x / 256) (omega arith)) ∙ omega arith

number_low : (bytes : List ℕ) → AllBelow 256 bytes → low_bytes (length bytes) (number_of bytes) ≡ bytes
unfolding low_bytes number_of
number_low [] h = refl
number_low (b ∷ bytes) h =
    let k : b < 256 = h 0 (omega arith) in
    let m : ℕ = number_of bytes in
    let e : (b + 256 * m) % 256 ≡ b = omega arith in
    let f : (b + 256 * m) / 256 ≡ m = omega arith in
    ap₂ (λ (x : ℕ) (l : List ℕ). x ∷ l) e (ap (low_bytes (length bytes)) f ∙ number_low bytes (λ i l. h (suc i) (omega arith)))

-- ---- a row written is read, and read is written

row_read : (row rest : List ℕ) → AllBelow (2 ^ 64) row → row_in (length row) (row_bytes row ++ rest) ≡ row
unfolding row_bytes row_in
row_read [] rest h = refl
row_read (x ∷ row) rest h =
    let b : List ℕ = low_bytes 8 x in
    let e : (b ++ row_bytes row) ++ rest ≡ b ++ (row_bytes row ++ rest) = append_assoc b (row_bytes row) rest in
    ap₂ (λ (y : ℕ) (l : List ℕ). y ∷ l)
    (ap (λ (l : List ℕ). number_of (take 8 l)) e ∙ ap number_of (take_at b (row_bytes row ++ rest) 8 (length_low 8 x)) ∙ low_number 8 x (h 0 (omega arith)))
    (ap (λ (l : List ℕ). row_in (length row) (drop 8 l)) e
    ∙ ap (row_in (length row)) (drop_at b (row_bytes row ++ rest) 8 (length_low 8 x))
    ∙ row_read row rest (λ i l. h (suc i) (omega arith)))

row_written : (n : ℕ) (bytes : List ℕ) → AllBelow 256 bytes → 8 * n ≤ length bytes → row_bytes (row_in n bytes) ≡ take (8 * n) bytes
unfolding row_bytes row_in
row_written zero bytes h l = refl
row_written (suc n) bytes h l =
    let b : List ℕ = take 8 bytes in
    let k : length b ≡ 8 = length-take-le 8 bytes (omega arith) in
    let below : AllBelow 256 b = λ i m. rw (get_or-take 8 bytes i 0 (omega arith)) (h i (omega arith)) in
    let behind : AllBelow 256 (drop 8 bytes) = λ i m. rw (get_or-drop 8 bytes i 0) (h (8 + i) (omega (arith, length-drop 8 bytes))) in
    ap₂ (λ (s t : List ℕ). s ++ t)
    (ap (λ (j : ℕ). low_bytes j (number_of b)) (sym k) ∙ number_low b below)
    (row_written n (drop 8 bytes) behind (omega (arith, length-drop 8 bytes)))
    ∙ sym (take-add 8 (8 * n) bytes)
    ∙ ap (λ (j : ℕ). take j bytes) (let e : 8 + 8 * n ≡ 8 * suc n = omega arith in e)

-- ---- a file written is read, and read is written

module _ (drum marks : List ℕ) (s : State) (d : length drum ≡ 1000) (m : length marks ≡ 1000) where
  front : length (row_bytes drum) ≡ 8000
  front = length-row drum ∙ omega arith

  pub drum_read : AllBelow (2 ^ 64) drum → drum_in (file_of drum marks s) ≡ drum
  unfolding file_of drum_in
  drum_read h =
      ap (row_in 1000) (append_assoc (row_bytes drum) marks (row_bytes (numbers_of s)))
      ∙ ap (λ (n : ℕ). row_in n (row_bytes drum ++ (marks ++ row_bytes (numbers_of s)))) (sym d)
      ∙ row_read drum (marks ++ row_bytes (numbers_of s)) h

  pub marks_read : marks_in (file_of drum marks s) ≡ marks
  unfolding file_of marks_in
  marks_read =
      ap (λ (l : List ℕ). take 1000 (drop 8000 l)) (append_assoc (row_bytes drum) marks (row_bytes (numbers_of s)))
      ∙ ap (take 1000) (drop_at (row_bytes drum) (marks ++ row_bytes (numbers_of s)) 8000 front)
      ∙ take_at marks (row_bytes (numbers_of s)) 1000 m

  pub state_read : AllBelow (2 ^ 64) (numbers_of s) → length s.counts ≡ 3 → state_of (file_of drum marks s) ≡ s
  unfolding file_of state_of
  state_read h k =
      ap (λ (l : List ℕ). state_in (row_in 9 l))
      (drop_at (row_bytes drum ++ marks) (row_bytes (numbers_of s)) 9000 (length-append (row_bytes drum) marks ∙ omega (arith, front, m))
      ∙ sym (append-nil (row_bytes (numbers_of s))))
      ∙ ap state_in (row_read (numbers_of s) [] h)
      ∙ state_kept s k

below_behind : (n : ℕ) (bytes : List ℕ) → AllBelow 256 bytes → n ≤ length bytes → AllBelow 256 (drop n bytes)
below_behind n bytes h l i k = rw (get_or-drop n bytes i 0) (h (n + i) (omega (arith, length-drop n bytes)))

pub file_written : (bytes : List ℕ) → length bytes ≡ 9072 → AllBelow 256 bytes → file_of (drum_in bytes) (marks_in bytes) (state_of bytes) ≡ bytes
unfolding file_of drum_in marks_in state_of
file_written bytes l h =
    let state : List ℕ = row_in 9 (drop 9000 bytes) in
    let k : length (drop 9000 bytes) ≡ 72 = length-drop 9000 bytes ∙ omega arith in
    let a : row_bytes (row_in 1000 bytes) ≡ take 8000 bytes = row_written 1000 bytes h (omega arith) in
    let b : row_bytes (numbers_of (state_in state)) ≡ drop 9000 bytes =
    ap row_bytes (kept state (length_in 9 (drop 9000 bytes)))
    ∙ row_written 9 (drop 9000 bytes) (below_behind 9000 bytes h (omega arith)) (omega arith)
    ∙ take_all 72 (drop 9000 bytes) (omega arith) in
    ap₂ (λ (s t : List ℕ). s ++ take 1000 (drop 8000 bytes) ++ t) a b
    ∙ ap (λ (s : List ℕ). s ++ drop 9000 bytes) (sym (take-add 8000 1000 bytes))
    ∙ take-append-drop 9000 bytes

-- ---- examples

two_five_eight : low_bytes 8 258 ≡ 2 ∷ 1 ∷ 0 ∷ 0 ∷ 0 ∷ 0 ∷ 0 ∷ 0 ∷ []
unfolding low_bytes
two_five_eight = refl

eight_bytes : number_of (2 ∷ 1 ∷ 0 ∷ 0 ∷ 0 ∷ 0 ∷ 0 ∷ 128 ∷ []) ≡ 9223372036854776066
unfolding number_of
eight_bytes = refl
