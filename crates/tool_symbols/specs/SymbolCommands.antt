-- The texts of the commands over modules' symbols and lines.
use Rattle.std.specs.Prelude.{ℕ, List, [], ◌∷◌, None}
use Rattle.pdb.specs.ModuleStream.{ModuleBytes}
use Rattle.pdb.specs.Answers.{global_symbols_in, string_table_in}
use Rattle.pdb_places.specs.AsIfEmpty.{if_read}
use Rattle.pdb.specs.Container.{stream_of}
use Rattle.pdb_resolve.specs.AcrossModules.{global_id_in}
use Rattle.pdb_resolve.specs.ImportTables.{ImportTable, ids_by}
use Rattle.tool_output.specs.Absent.{if_there, there_in}
use Rattle.tool_types.specs.LineNames.{FileTables, Names, names_by_tables, tables_of}
use Rattle.tool_symbols.specs.LineTexts.{lines_text}
use Rattle.tool_symbols.specs.ScopeTexts.{scopes_text}
use Rattle.tool_symbols.specs.SymbolTexts.{global_symbols_text, symbols_text}
use Rattle.tool_fields.specs.ModuleMachines.{file_machine}
use Rattle.tool_arguments.specs.declared.options.OutputFormat.TheVariants.{Text}
use Rattle.tool_output.specs.ModuleTexts.{modules_text, all_text, indexed_text}

-- what is outside all modules imports nothing
abbrev pub no_imports : ImportTable
no_imports = record { imports = []; exports = [] }

-- `lines`: files have their names from the string table
abbrev pub lines_command : List ℕ → List ℕ → List ℕ
lines_command file ks = modules_text Text (λ k. lines_text (if_read (string_table_in file))) file ks

-- what names are found by in a file
abbrev pub file_tables : List ℕ → FileTables
file_tables file = tables_of (if_read (stream_of file 4 None)) (if_read (stream_of file 2 None)) (file_machine file)

-- the names in a module of a file
abbrev pub names_in : List ℕ → ModuleBytes → Names
names_in file m = names_by_tables (file_tables file) (global_id_in file m)

-- `scopes`: inlined functions and types have their names from ids and types
abbrev pub scopes_in : List ℕ → ℕ → ModuleBytes → List ℕ
scopes_in file k m = scopes_text (names_in file m) (file_machine file) m

abbrev pub scopes_command : List ℕ → List ℕ → List ℕ
scopes_command file ks = modules_text Text (scopes_in file) file ks

-- `symbols`: those of modules, the global ones where there is no number
abbrev pub symbols_in : List ℕ → ℕ → ModuleBytes → List ℕ
symbols_in file k m = symbols_text (names_in file m) (file_machine file) m

abbrev pub global_symbols_of : List ℕ → List ℕ → List ℕ
global_symbols_of file b = global_symbols_text (names_by_tables (file_tables file) (ids_by no_imports)) (file_machine file) b

-- a text of the global symbols of a file; nothing where it has none
abbrev pub globals_there : List ℕ → (List ℕ → List ℕ) → List ℕ
globals_there file text = there_in Text (global_symbols_in file) text

abbrev pub globals_told : List ℕ → (List ℕ → List ℕ) → List ℕ
globals_told file text = if_there file 3 (globals_there file text)

abbrev pub symbols_command : List ℕ → List ℕ → List ℕ
symbols_command file [] = globals_told file (global_symbols_of file)
symbols_command file (k ∷ ks) = indexed_text Text (symbols_in file) file (k ∷ ks)

-- `symbols --all`: those of all modules
abbrev pub all_symbols_command : List ℕ → List ℕ
all_symbols_command file = all_text Text (symbols_in file) file
