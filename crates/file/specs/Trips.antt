-- The round trips of the code, said of what the contracts of `write_file` and `read_file` say. Assumes nothing.
use Rattle.std.specs.Prelude.{ℕ, ◌^◌, ◌≤◌, ◌≡◌, List, Bool, true, length, Option, Some}
use Rattle.file.specs.Files.{is_whole, file_size, file_of, AllBelow}
use Rattle.rules.specs.Running.{over}
use Rattle.rules.specs.States.{numbers_of}
use Rattle.rules.specs.declared.State.{State}
use Rattle.card.specs.Written.{Wrote}
use Rattle.file.specs.Reads.{FileRead}

-- what `write_file` ensures: drum, marks and state, the output at entry, the answer and the output at exit
abbrev pub FileWrote : List ℕ → List ℕ → State → List ℕ → Bool → List ℕ → Type 0
FileWrote drum marks s before said after = Wrote (is_whole drum marks) (file_of drum marks s) before said after

-- Where `write_file` answers yes over an output as long as a file, `read_file` then reads the same drum, marks and state there. The
-- numbers are of 64 bits, and a loop box has three counts.
abbrev pub WrittenIsRead : Type 0
WrittenIsRead = (drum marks : List ℕ) (s : State) (before after drum₀ marks₀ drum₁ marks₁ : List ℕ) (found : Option State)
    → AllBelow (2 ^ 64) drum
    → AllBelow (2 ^ 64) (numbers_of s)
    → length s.counts ≡ 3
    → length before ≡ file_size
    → FileWrote drum marks s before true after
    → is_whole drum₀ marks₀ ≡ true
    → FileRead drum₀ marks₀ after found drum₁ marks₁
    → (found ≡ Some s) × (drum₁ ≡ drum) × (marks₁ ≡ marks)

-- What `read_file` read is written by `write_file` byte for byte where there is room.
abbrev pub ReadIsWritten : Type 0
ReadIsWritten = (bytes drum₀ marks₀ drum marks before after : List ℕ) (s : State) (said : Bool)
    → AllBelow 256 bytes
    → FileRead drum₀ marks₀ bytes (Some s) drum marks
    → file_size ≤ length before
    → FileWrote drum marks s before said after
    → (said ≡ true) × (after ≡ over bytes before)
