-- The table laid out by slots: at each the row of the code that the slot's code is done as. Assumes nothing.
use Rattle.std.specs.Prelude.{ℕ, zero, suc, ◌≡◌, Bool, List, [], ◌∷◌, eqb, ltb, get_or, None}
use Rattle.rules.specs.Words.{pick, both}
use Rattle.rules.specs.Codes.{codes, lookup, pch_code, noop_code}
use Rattle.rules.specs.Running.{code_done}
use Rattle.rules.specs.Answers.{Built}
use Rattle.codes.specs.Rows.{row_in, row_built}
use Rattle.codes.specs.Keys.{key_in, slot_of, code_of_slot}

-- in traced mode PCH is NOOP
abbrev pub done_as : Bool → ℕ → ℕ
done_as t k = pick (both t (eqb k pch_code)) noop_code k

abbrev pub entry_at : Bool → ℕ → ℕ
entry_at t j = row_in (done_as t (code_of_slot j)) codes

-- what a rule says of n places, the first of them i
unfoldable pub listed : (ℕ → ℕ) → ℕ → ℕ → List ℕ
listed rule i zero = []
listed rule i (suc n) = rule i ∷ listed rule (suc i) n

abbrev pub index_for : Bool → List ℕ
index_for t = listed (entry_at t) 0 1010

-- what an index has at a slot; nothing behind its last
abbrev pub built_in : List ℕ → ℕ → Built
built_in index slot = pick (ltb slot 1010) (row_built (get_or index slot 0) codes) None

-- an index for this mode, and what each order finds in it
pub record Indexed (t : Bool) (index : List ℕ) : Type 0 where
  pub whole : index ≡ index_for t
  pub finds : (w : ℕ) → built_in index (slot_of (key_in w)) ≡ lookup (code_done t w) codes
