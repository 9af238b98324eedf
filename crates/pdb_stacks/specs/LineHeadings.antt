-- What a line is.
use Rattle.std.specs.Prelude.{ℕ, List, codes, is_some, if◌then◌else◌, Option, Some, None}
use Rattle.pdb_stacks.specs.LineTexts.{find_behind, stands}
use Rattle.pdb_stacks.specs.ModuleLists.{listed_module}
use Rattle.pdb_stacks.specs.declared.headings.Heading.{Heading}
use Rattle.pdb_stacks.specs.declared.headings.Heading.TheVariants.{Unloaded, Module, Inline, Other}
use Rattle.pdb_stacks.specs.declared.module_lists.ListedModule.{ListedModule}

-- a line that lists no module
abbrev pub without_module : List ℕ → Heading
without_module line = if is_some (find_behind line (codes "(Inline")) then Inline else Other

abbrev pub with_module : List ℕ → Option ListedModule → Heading
with_module line (Some m) = Module m
with_module line None = without_module line

-- the first that fits
unfoldable pub heading_of : List ℕ → Heading
heading_of line = if stands line 0 (codes "Unloaded modules:") then Unloaded else with_module line (listed_module line)
