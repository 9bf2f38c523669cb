-- How reading ends: a length is wrong and nothing is changed, or all is read. Assumes nothing.
use Rattle.std.proofs.Common.{Some, None}
use mathlib.Core.Path.{◌≡◌, refl, sym, ap, ap₂, ◌∙◌}
use mathlib.Core.List.{List}
use mathlib.Core.Bool.{Bool, true, false}
use Prim.Native.Nat.{ℕ}
use lib.Dec.{eqb}
use lib.ListN.{length}
use borrow.Author.Tests.{eq-eqb, ne_eqb}
use Rattle.rules.specs.Words.{pick, both}
use Rattle.file.specs.Files.{is_whole, drum_in, marks_in, state_of}
use Rattle.file.specs.Texts.{numbers_in, is_count, numbers_or, fills, drum_filled}
use Rattle.file.specs.Reads.{is_file, FileRead, CellsRead}
use Rattle.rules.specs.declared.State.{State}

-- ---- the lengths

neither : (a : Bool) → both a false ≡ false
neither true = refl
neither false = refl

pub whole_is : (drum marks : List ℕ) → length drum ≡ 1000 → length marks ≡ 1000 → is_whole drum marks ≡ true
whole_is drum marks d m = ap₂ both (eq-eqb (length drum) 1000 d) (eq-eqb (length marks) 1000 m)

pub no_drum : (drum marks : List ℕ) → (length drum ≡ 1000 → ⊥) → is_whole drum marks ≡ false
no_drum drum marks n = ap (λ (t : Bool). both t (eqb (length marks) 1000)) (ne_eqb (length drum) 1000 n)

pub no_marks_lem : (drum marks : List ℕ) → (length marks ≡ 1000 → ⊥) → is_whole drum marks ≡ false
no_marks_lem drum marks n =
    ap (λ (t : Bool). both (eqb (length drum) 1000) t) (ne_eqb (length marks) 1000 n) ∙ neither (eqb (length drum) 1000)

pub file_is : (drum marks bytes : List ℕ) → is_whole drum marks ≡ true → length bytes ≡ 9072 → is_file drum marks bytes ≡ true
file_is drum marks bytes w b = ap₂ both w (eq-eqb (length bytes) 9072 b)

pub not_whole : (drum marks bytes : List ℕ) → is_whole drum marks ≡ false → is_file drum marks bytes ≡ false
not_whole drum marks bytes w = ap (λ (t : Bool). both t (eqb (length bytes) 9072)) w

pub no_bytes : (drum marks bytes : List ℕ) → (length bytes ≡ 9072 → ⊥) → is_file drum marks bytes ≡ false
no_bytes drum marks bytes n =
    ap (λ (t : Bool). both (is_whole drum marks) t) (ne_eqb (length bytes) 9072 n) ∙ neither (is_whole drum marks)

-- ---- a file

module _ (drum marks bytes : List ℕ) where
  pub not_read : is_file drum marks bytes ≡ false → FileRead drum marks bytes None drum marks
  not_read e = record { found_is = rw e refl; drum_is = rw e refl; marks_are = rw e refl }

  pub was_read : {s : State} {cells after : List ℕ} → is_file drum marks bytes ≡ true
      → s ≡ state_of bytes
      → cells ≡ drum_in bytes
      → after ≡ marks_in bytes
      → FileRead drum marks bytes (Some s) cells after
  was_read e s d m = record { found_is = rw e (ap Some s); drum_is = rw e d; marks_are = rw e m }

-- ---- a text

module _ (drum text : List ℕ) where
  not_filled : fills drum text ≡ false → CellsRead drum text false drum
  unfolding drum_filled
  not_filled e = record { answer = sym e; drum_is = ap (λ (t : Bool). pick t (numbers_or drum (numbers_in text)) drum) (sym e) }

  pub bad_length : (length drum ≡ 1000 → ⊥) → CellsRead drum text false drum
  unfolding fills
  bad_length n = not_filled (ap (λ (t : Bool). both t (is_count 1000 (numbers_in text))) (ne_eqb (length drum) 1000 n))

  pub bad_text : is_count 1000 (numbers_in text) ≡ false → CellsRead drum text false drum
  unfolding fills
  bad_text e =
      not_filled (ap (λ (t : Bool). both (eqb (length drum) 1000) t) e ∙ neither (eqb (length drum) 1000))

  pub was_filled : {after : List ℕ} (cells : List ℕ) → length drum ≡ 1000 → is_count 1000 (numbers_in text) ≡ true
      → numbers_in text ≡ Some cells
      → after ≡ cells
      → CellsRead drum text true after
  unfolding fills drum_filled numbers_or
  was_filled cells d e n q =
      let f : fills drum text ≡ true = ap₂ both (eq-eqb (length drum) 1000 d) e in
      record {
        answer = sym f;
        drum_is = q ∙ ap (numbers_or drum) (sym n) ∙ ap (λ (t : Bool). pick t (numbers_or drum (numbers_in text)) drum) (sym f);
      }
