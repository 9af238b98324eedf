-- Lines of standard input, and how far the answers to them are printed.
use Rattle.std.specs.Prelude.{◌≡◌, ℕ, List, [], ◌∷◌, ◌++◌, ◌==◌, if◌then◌else◌}
use Rattle.std.specs.Io.BufRead.{first_piece}
use Rattle.tool_printing.specs.Printing.{Halted, Printed, Printing, Shown, all_shown, nothing}

-- the lines of some bytes, each without its end: what stands behind the last end is a line too
abbrev pub first_longer : ℕ → List (List ℕ) → List (List ℕ)
first_longer b [] = (b ∷ []) ∷ []
first_longer b (line ∷ lines) = (b ∷ line) ∷ lines

abbrev pub lines_of : List ℕ → List (List ℕ)
lines_of [] = []
lines_of (b ∷ bs) = if b == 10 then [] ∷ lines_of bs else first_longer b (lines_of bs)

-- what is printed of the first of them; nothing where there is none
abbrev pub of_first_line : (List ℕ → Shown) → List ℕ → Shown
of_first_line answer [] = nothing
of_first_line answer (b ∷ bs) = answer (first_piece 10 (b ∷ bs))

-- of these bytes some first lines and one more were read, and the rest is left: the answers to the first ones were printed
-- whole, and a beginning of the last one's
abbrev pub AnsweredUpTo : (List ℕ → Shown) → List ℕ → List ℕ → Printing → Printing → Type 0
AnsweredUpTo answer xs rest before after =
    (first : List (List ℕ)) × (last : List ℕ) × (middle : Printing) × (lines_of xs ≡ first ++ last ∷ lines_of rest)
    × Printed (all_shown answer first) before middle × Halted (answer last) middle after
