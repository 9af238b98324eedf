-- The stream of a module, and what each of its parts holds.
use Rattle.std.specs.Prelude.{ℕ, ◌==◌, nat_lt, if◌then◌else◌, List, [], length, drop, Option, Some, None, Result, Ok, Err}
use Rattle.pdb_base.specs.declared.error.Error.{Error}
use Rattle.pdb_base.specs.declared.error.Error.TheVariants.{UnimplementedFeature}
use Rattle.pdb_base.specs.declared.error.Feature.TheVariants.{SymbolDataFormat, C11LinePrograms}
use Rattle.pdb_base.specs.Refusal.{◌>>=◌}
use Rattle.pdb_base.specs.Fields.{number_at, bytes_at}
use Rattle.pdb_base.specs.Left.{Left, ended}
use Rattle.pdb_symbols.specs.SymbolList.{Entry, symbols_from}
use Rattle.pdb_modules.specs.Files.{FileOf, files_of}
use Rattle.pdb_modules.specs.LineProgram.{ProgramOf, program_of}
use Rattle.pdb_modules.specs.Lines.{Subsection}
use Rattle.pdb_modules.specs.ProgramParts.{lines_listed}
use Rattle.pdb_modules.specs.Subsections.{first_part}
use Rattle.pdb_modules.specs.Inlinees.{InlineeEntry, inlinees_in}
use Rattle.pdb_modules.specs.CrossModule.{ImportedModule, imports_in, exports_in}

-- a module's stream: its bytes, and the sizes of its parts
pub record ModuleBytes : Type 0 where
  pub bytes : List ℕ
  pub symbols_size : ℕ
  pub lines_size : ℕ
  pub c13_lines_size : ℕ

-- ---- symbols

-- the symbols part, which begins with the number 4 where it isn't empty
abbrev pub of_format : List ℕ → ℕ → Result (List ℕ) Error
of_format part format = if format == 4 then Ok part else Err (UnimplementedFeature SymbolDataFormat)

abbrev pub checked_part : List ℕ → Result (List ℕ) Error
checked_part part = if length part == 0 then Ok part else number_at part 0 4 >>= of_format part

unfoldable pub symbols_part_of : ModuleBytes → Result (List ℕ) Error
symbols_part_of m = bytes_at m.bytes 0 m.symbols_size >>= checked_part

-- the symbols from an index on, whatever stands there, and those behind that number
unfoldable pub symbols_at_of : ℕ → ModuleBytes → Result (Left Entry) Error
symbols_at_of index m = symbols_part_of m >>= λ part. Ok (symbols_from part index)

abbrev pub symbols_of : ModuleBytes → Result (Left Entry) Error
symbols_of m = symbols_at_of 4 m

-- ---- lines data

-- the lines data stands behind the symbols part
unfoldable pub lines_data_of : ModuleBytes → Result (List ℕ) Error
lines_data_of m = bytes_at m.bytes m.symbols_size m.c13_lines_size

unfoldable pub line_program_of : ModuleBytes → Result ProgramOf Error
line_program_of m = if nat_lt 0 m.lines_size then Err (UnimplementedFeature C11LinePrograms) else lines_data_of m >>= program_of

-- the bytes of its files' checksums, and its files
unfoldable pub checksums_of : ModuleBytes → Result (List ℕ) Error
checksums_of m = line_program_of m >>= λ p. Ok p.checksums

unfoldable pub module_files_of : ModuleBytes → Result (Left FileOf) Error
module_files_of m = line_program_of m >>= λ p. Ok (files_of p.checksums)

-- the subsections of lines before the end or the fault; none where the lines are of the older form, or aren't there
abbrev pub listed_in : Result (List ℕ) Error → List Subsection
listed_in (Ok b) = lines_listed b
listed_in (Err e) = []

unfoldable pub line_subsections_of : ModuleBytes → List Subsection
line_subsections_of m = if nat_lt 0 m.lines_size then [] else listed_in (lines_data_of m)

-- the first part of a kind, if there is one; none where the lines are of the older form
unfoldable pub part_of_kind : ℕ → ModuleBytes → Result (Option (List ℕ)) Error
part_of_kind kind m = if nat_lt 0 m.lines_size then Ok None else lines_data_of m >>= first_part kind

-- ---- what the first part of a kind holds; nothing where there is no such part

-- what is read of a part, or what there is where none is
abbrev pub in_part : {A : Type 0} → A → (List ℕ → Result A Error) → Option (List ℕ) → Result A Error
in_part nothing read None = Ok nothing
in_part nothing read (Some part) = read part

unfoldable pub inlinees_of : ModuleBytes → Result (Left InlineeEntry) Error
inlinees_of m = part_of_kind 0xf6 m >>= in_part ended inlinees_in

-- the bytes of the inlined functions, behind the signature
unfoldable pub inlinees_part_of : ModuleBytes → Result (List ℕ) Error
inlinees_part_of m = part_of_kind 0xf6 m >>= in_part [] (λ part. Ok (drop 4 part))

unfoldable pub imports_of : ModuleBytes → Result (List ImportedModule) Error
imports_of m = part_of_kind 0xf7 m >>= in_part [] imports_in

unfoldable pub exports_of : ModuleBytes → Result (List (ℕ × ℕ)) Error
exports_of m = part_of_kind 0xf8 m >>= in_part [] exports_in
