-- How far a part of a file is listed: its whole cards from its start on. Where more of the file is to come, what may be a card cut short is
-- left. Assumes nothing.
use Rattle.std.specs.Prelude.{ℕ, zero, suc, ◌+◌, ◌-◌, List, Bool, true, false, leb, ltb, length, get_or, drop}
use Rattle.rules.specs.Words.{pick, both}
use Rattle.list.specs.Listing.{with_kind, size_met}
use Rattle.list.specs.declared.ends.Seen.{Seen}
use Rattle.shows.specs.declared.cards.Passed.{Passed}

-- whether so many bytes may be a card cut short: they are fewer than the longest card has, and not the last of the file
abbrev pub may_be_cut : ℕ → Bool → Bool
may_be_cut left true = false
may_be_cut left false = ltb left 77

-- whether a whole card begins at a place, and is to be listed behind those that were seen
unfoldable pub is_listed : List ℕ → Bool → Seen → ℕ → Bool
is_listed d last s at =
    both (ltb at (length d))
    (pick (may_be_cut (length d - at) last) false (both (ltb 0 (size_met s (drop at d))) (leb (size_met s (drop at d)) (length d - at))))

-- the place behind the cards from a place on, at most so many, and what was seen up to there
unfoldable pub listed_upto : ℕ → List ℕ → Bool → Seen → ℕ → Passed
listed_upto zero d last s at = record { taken = at; seen = s }
listed_upto (suc k) d last s at =
    elim (is_listed d last s at) [
      | true ↦ listed_upto k d last (with_kind s (get_or (drop at d) 0 0)) (at + size_met s (drop at d))
      | false ↦ record { taken = at; seen = s }
    ]
