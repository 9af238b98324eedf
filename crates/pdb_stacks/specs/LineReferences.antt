-- The references of a line to code.
use Rattle.std.specs.Prelude.{ℕ, ◌+◌, List, [], ◌∷◌, ◌++◌, codes, filter, nat_lt, slice_range, ◌==◌, ◌||◌, ◌&&◌, not, Bool, if◌then◌else◌, Option, Some, None, option_map, option_to_list}
use Rattle.std.specs.List.{list_any}
use Rattle.pdb_stacks.specs.LineBytes.{is_of, run_end}
use Rattle.pdb_stacks.specs.LineTexts.{stands}
use Rattle.pdb_stacks.specs.ModuleForms.{form_at}
use Rattle.pdb_stacks.specs.declared.bytes.Kind.TheVariants.{Module}
use Rattle.pdb_stacks.specs.declared.bytes.Span.{Span}
use Rattle.pdb_stacks.specs.declared.forms.Form.{Form}
use Rattle.pdb_stacks.specs.declared.references.Reference.{Reference}

-- the name of a module has a dot
abbrev pub has_dot : List ℕ → Bool
has_dot name = list_any (λ b. b == 46) name

abbrev pub bytes_of : List ℕ → Span → List ℕ
bytes_of line s = slice_range line s.start s.end

-- the reference that a form makes of the module before it
abbrev pub made : List ℕ → Span → Form → Reference
made line m f = record {
  text = record { start = m.start; end = f.hex.end };
  «module» = m;
  symbol = f.symbol;
  number = f.hex.number;
  is_bare = f.is_plain && not (has_dot (bytes_of line m));
  is_closed = stands line f.hex.end (codes ")");
}

unfoldable pub reference_of : List ℕ → Span → Option Reference
reference_of line m = option_map (made line m) (form_at line m.end (has_dot (bytes_of line m)))

-- the name of a module goes as far as its bytes
abbrev pub module_at : List ℕ → ℕ → Span
module_at line at = record { start = at; end = run_end Module line at }

-- where the search goes on: behind the reference, or behind the name
abbrev pub free_behind : Span → Option Reference → ℕ
free_behind m None = m.end
free_behind m (Some r) = r.text.end

-- the references from an offset on, from left to right; what stands before `free` was passed over
unfoldable pub candidates_from : List ℕ → ℕ → ℕ → List ℕ → List Reference
candidates_from line free at [] = []
candidates_from line free at (b ∷ rest) =
    if nat_lt at free || not (is_of Module b) then candidates_from line free (at + 1) rest
    else option_to_list (reference_of line (module_at line at)) ++ candidates_from line (free_behind (module_at line at) (reference_of line (module_at line at))) (at + 1) rest

unfoldable pub candidates : List ℕ → List Reference
candidates line = candidates_from line 0 0 line

abbrev pub is_named : Reference → Bool
is_named r = not r.is_bare

-- bare names count where all names are bare
abbrev pub counted : List Reference → List Reference
counted rs = if list_any is_named rs then filter is_named rs else rs

-- the references of a line
abbrev pub references : List ℕ → List Reference
references line = counted (candidates line)
