-- What is known of a card by its kind, and what is then answered. Assumes nothing.
use mathlib.Core.Path.{◌≡◌, refl, sym, subst}
use mathlib.Core.Bool.{Bool, true, false}
use mathlib.Core.List.{List, []}
use Prim.Native.Nat.{ℕ, ◌+◌, ◌*◌, ◌≤◌}
use native.Mathlib.Omega.{arith}
use borrow.Author.Tests.{leb-true}
use lib.Dec.{leb}
use lib.ListN.{length}
use Rattle.rules.specs.Words.{pick}
use Rattle.rules.specs.Cards.{card_of}
use Rattle.list.specs.Listing.{is_trace, trace_lines, is_stop, stop_line, lines_by, size_by, lines_of, size_of}
use Rattle.rules.specs.declared.Card.{Card}
use Rattle.rules.specs.declared.Card.TheVariants.{Data, First}
use Rattle.rules.proofs.Tests.{both_first}
use Rattle.rules.proofs.CardTrips.{DataRead, data_read, first_read}
use Rattle.card.specs.Written.{WroteLine}
use Rattle.list.specs.declared.listing.Lines.{Lines}
use Rattle.list.specs.Listed.{WroteLines, other_lines, other_size}

-- ---- trace and stop cards

pub trace_long : (d : List ℕ) → is_trace d ≡ true → 77 ≤ length d
unfolding is_trace
trace_long d e = leb-true 77 (length d) (both_first (leb 77 (length d)) _ e)

pub stop_long : (d : List ℕ) → is_stop d ≡ true → 24 ≤ length d
unfolding is_stop
stop_long d e = leb-true 24 (length d) (both_first (leb 24 (length d)) _ e)

-- by both tests, what is shown and taken
abbrev Other : List ℕ → Bool → Bool → List ℕ → Lines → List ℕ → Type 0
Other d t s before said after =
    WroteLines (pick t (trace_lines d) (pick s (stop_line d) [])) (pick t 77 (pick s 24 0)) before said after

pub as_trace : (d before after : List ℕ) (n : ℕ) → is_trace d ≡ true → WroteLine (trace_lines d) before n after
    → WroteLines (other_lines d) (other_size d) before (record { written = n; taken = 77 }) after
as_trace d before after n e w =
    subst (λ (t : Bool). Other d t (is_stop d) before (record { written = n; taken = 77 }) after) (sym e) (record { shown = w; taken = refl })

pub as_stop : (d before after : List ℕ) (n : ℕ) → is_trace d ≡ false → is_stop d ≡ true → WroteLine (stop_line d) before n after
    → WroteLines (other_lines d) (other_size d) before (record { written = n; taken = 24 }) after
as_stop d before after n e f w =
    subst (λ (t : Bool). Other d t (is_stop d) before (record { written = n; taken = 24 }) after) (sym e)
    (subst (λ (s : Bool). Other d false s before (record { written = n; taken = 24 }) after) (sym f) (record { shown = w; taken = refl }))

pub as_none : (d before : List ℕ) → is_trace d ≡ false → is_stop d ≡ false → WroteLine [] before 0 before
    → WroteLines (other_lines d) (other_size d) before (record { written = 0; taken = 0 }) before
as_none d before e f w =
    subst (λ (t : Bool). Other d t (is_stop d) before (record { written = 0; taken = 0 }) before) (sym e)
    (subst (λ (s : Bool). Other d false s before (record { written = 0; taken = 0 }) before) (sym f) (record { shown = w; taken = refl }))

-- ---- any card

pub as_card : (d before after : List ℕ) (said : Lines) (k : Card) → k ≡ card_of d → WroteLines (lines_by k d) (size_by k d) before said after
    → WroteLines (lines_of d) (size_of d) before said after
unfolding lines_of size_of
as_card d before after said k e w = subst (λ (x : Card). WroteLines (lines_by x d) (size_by x d) before said after) e w

pub data_fits : (d : List ℕ) {number location n problem size : ℕ} → card_of d ≡ Data number location n problem size
    → (11 + 11 * n ≤ length d) × (location + n ≤ 1000)
data_fits d {number} {location} {n} {problem} {size} e =
    let r : DataRead d number location n problem size = data_read d number location n problem size e in
    (omega (arith, r.long, r.whole), r.upto)

pub first_fits : (d : List ℕ) {order problem : ℕ} → card_of d ≡ First order problem → 7 ≤ length d
first_fits d {order} {problem} e = (first_read d order problem e).whole
