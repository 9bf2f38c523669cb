-- The round trips of the code, by the laws of the machine file. Assumes nothing.
use Rattle.std.proofs.Common.{Some, None}
use Rattle.std.proofs.lemmas.Option.{none-some, same_Some}
use Prim.Native.Nat.{ℕ}
use mathlib.Core.Path.{◌≡◌, refl, sym, ap, ap₂, ◌∙◌}
use mathlib.Core.List.{List, ◌++◌, append-nil}
use mathlib.Core.Bool.{Bool, true, false}
use native.Mathlib.Omega.{arith}
use lib.Dec.{eqb}
use lib.ListN.{length, drop, length-drop, drop_of_length-le}
use lib.Seq.{length-take-le}
use borrow.Author.Tests.{eqb-true}
use Rattle.rules.specs.Words.{pick}
use Rattle.file.specs.Files.{is_whole, file_of, drum_in, marks_in, state_of}
use Rattle.rules.specs.Running.{over}
use Rattle.rules.specs.declared.State.{State}
use Rattle.rules.proofs.Tests.{both_first, both_second}
use Rattle.file.proofs.Files.{length_in, length_file, drum_read, marks_read, state_read, file_written}
use Rattle.card.proofs.Writes.{was_whole}
use Rattle.file.specs.Reads.{is_file}
use Rattle.file.specs.Trips.{WrittenIsRead, ReadIsWritten}
use Rattle.file.proofs.Wholes.{whole_is, file_is}

drum_whole : (drum marks : List ℕ) → is_whole drum marks ≡ true → length drum ≡ 1000
drum_whole drum marks t = eqb-true (length drum) 1000 (both_first (eqb (length drum) 1000) _ t)

marks_whole : (drum marks : List ℕ) → is_whole drum marks ≡ true → length marks ≡ 1000
marks_whole drum marks t = eqb-true (length marks) 1000 (both_second (eqb (length drum) 1000) _ t)

-- a state is found in a file alone
was_file : (t : Bool) (x s : State) → Some s ≡ pick t (Some x) None → t ≡ true
was_file true x s e = refl
was_file false x s e = absurd (none-some s (sym e))

pub written_is_read : WrittenIsRead
unfolding over
written_is_read drum marks s before after drum₀ marks₀ drum₁ marks₁ found cells numbers box size w lent r =
    let file : List ℕ = file_of drum marks s in
    let whole : is_whole drum marks ≡ true = both_first (is_whole drum marks) _ (sym w.answer) in
    let d : length drum ≡ 1000 = drum_whole drum marks whole in
    let m : length marks ≡ 1000 = marks_whole drum marks whole in
    let n : length file ≡ 9072 = length_file drum marks s ∙ omega arith in
    let q : after ≡ file =
    w.bytes
    ∙ ap (λ (t : Bool). pick t (file ++ drop (length file) before) before) (sym w.answer)
    ∙ ap (λ (l : List ℕ). file ++ l) (drop_of_length-le before {i = length file} (omega arith))
    ∙ append-nil file in
    let t : is_file drum₀ marks₀ after ≡ true = file_is drum₀ marks₀ after lent (ap length q ∙ n) in (
      r.found_is
          ∙ ap₂ (λ (u : Bool) (l : List ℕ). pick u (Some (state_of l)) None) t q
          ∙ ap Some (state_read drum marks s d m numbers box),
      r.drum_is ∙ ap₂ (λ (u : Bool) (l : List ℕ). pick u (drum_in l) drum₀) t q ∙ drum_read drum marks s d m cells,
      r.marks_are ∙ ap₂ (λ (u : Bool) (l : List ℕ). pick u (marks_in l) marks₀) t q ∙ marks_read drum marks s d m,
    )

pub read_is_written : ReadIsWritten
unfolding drum_in marks_in
read_is_written bytes drum₀ marks₀ drum marks before after s said below r room w =
    let t : is_file drum₀ marks₀ bytes ≡ true = was_file (is_file drum₀ marks₀ bytes) (state_of bytes) s r.found_is in
    let n : length bytes ≡ 9072 = eqb-true (length bytes) 9072 (both_second (is_whole drum₀ marks₀) _ t) in
    let d : drum ≡ drum_in bytes = r.drum_is ∙ ap (λ (u : Bool). pick u (drum_in bytes) drum₀) t in
    let m : marks ≡ marks_in bytes = r.marks_are ∙ ap (λ (u : Bool). pick u (marks_in bytes) marks₀) t in
    let f : s ≡ state_of bytes =
    same_Some s (state_of bytes) (r.found_is ∙ ap (λ (u : Bool). pick u (Some (state_of bytes)) None) t) in
    let whole : is_whole drum marks ≡ true =
    whole_is drum marks (ap length d ∙ length_in 1000 bytes)
    (ap length m ∙ length-take-le 1000 (drop 8000 bytes) (omega (arith, length-drop 8000 bytes))) in
    let q : file_of drum marks s ≡ bytes =
    ap (λ (l : List ℕ). file_of l marks s) d
    ∙ ap₂ (λ (l : List ℕ) (x : State). file_of (drum_in bytes) l x) m f
    ∙ file_written bytes n below in
    let h = was_whole w whole (omega (arith, ap length q)) in
    (h.0, h.1 ∙ ap (λ (l : List ℕ). over l before) q)
