-- What is kept of the lines of variables while they are put together: a text for each owner.
use Rattle.std.specs.Prelude.{◌≡◌, ℕ, zero, suc, List, [], ◌∷◌, ◌++◌, map, reverse, Option, Some, None}
use Rattle.std.specs.List.{range_with_len}
use Rattle.pdb_records.specs.declared.machine.Machine.{Machine}
use Rattle.pdb_variables.specs.Variables.{Variable}
use Rattle.tool_addresses.specs.VariableTexts.{lines_of}
use Rattle.tool_addresses.specs.declared.variable_texts.OwnedLines.{OwnedLines}

-- the text of each inlined call
abbrev pub call_texts : OwnedLines → List (List ℕ)
call_texts t = map (λ text. text.items) t.calls.items

-- a line behind the text of this number, where there is one
abbrev pub with_line : List ℕ → ℕ → List (List ℕ) → List (List ℕ)
with_line line i [] = []
with_line line zero (text ∷ texts) = (text ++ line) ∷ texts
with_line line (suc i) (text ∷ texts) = text ∷ with_line line i texts

-- a line of an owner behind the function's text, and behind those of calls
abbrev pub own_behind : List ℕ → Option ℕ → List ℕ → List ℕ
own_behind line None text = text ++ line
own_behind line (Some call) text = text

abbrev pub calls_behind : List ℕ → Option ℕ → List (List ℕ) → List (List ℕ)
calls_behind line None texts = texts
calls_behind line (Some call) texts = with_line line call texts

-- the first of some texts, or else the function's own; those behind it
abbrev pub first_text : List ℕ → List (List ℕ) → List ℕ
first_text own [] = own
first_text own (text ∷ texts) = text

abbrev pub further_texts : List (List ℕ) → List (List ℕ)
further_texts [] = []
further_texts (text ∷ texts) = texts

-- the texts of calls, the last one first
abbrev pub last_texts : OwnedLines → List (List ℕ)
last_texts t = reverse (call_texts t)

-- the lines of the first n calls, each for itself
abbrev pub lines_of_calls : Option Machine → List Variable → ℕ → List (List ℕ)
lines_of_calls machine vs n = map (λ k. lines_of machine (Some k) vs) (range_with_len 0 n)

-- the lines of these variables are kept, those of the function and of its first n calls
pub record Keeps (machine : Option Machine) (vs : List Variable) (n : ℕ) (t : OwnedLines) : Type 0 where
  pub own : t.own.items ≡ lines_of machine None vs
  pub calls : call_texts t ≡ lines_of_calls machine vs n
