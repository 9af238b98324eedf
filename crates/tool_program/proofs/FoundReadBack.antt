-- The JSON values of what is found, of source files and of damage read back.
use Rattle.std.proofs.Common.{◌≡◌, ℕ, ◌<◌, ◌^◌, List, [], ◌∷◌, Option, Some, None, refl, arith}
use Rattle.std.specs.Option.{unwrap_or}
use Rattle.json.specs.Json.{document}
use Rattle.json.specs.Print.{print}
use Rattle.json.specs.Tree.{depth, HasNumbers, json_tokens}
use Rattle.json.proofs.Printed.Decimals.{IsNumber-decimal}
use Rattle.json.proofs.Printed.Trees.{document-print}
use Rattle.pdb.specs.Error.{Error}
use Rattle.pdb.specs.LineInfo.{LineInfo}
use Rattle.pdb.specs.PdbInternalSectionOffset.{PdbInternalSectionOffset}
use Rattle.pdb.specs.Qualified.{Qualified}
use Rattle.pdb.specs.Tables.{Addresses}
use Rattle.pdb_places.specs.PlaceAddresses.{address_for}
use Rattle.tool_check.specs.Findings.{finding_value, sound_value}
use Rattle.tool_search.specs.FoundObjects.{HasRecord, address_value, found_value, where_value}
use Rattle.tool_output.specs.Objects.{optional_value}
use Rattle.tool_search.specs.SourceTexts.{digest_value, source_value}
use Rattle.tool_program.proofs.ReadBack.{file_depth, file_numbers, name_depth, name_numbers, number_below}

-- ---- numbers

address_numbers : (a : Option ℕ) → HasNumbers (address_value a)
address_numbers None = tt
address_numbers (Some address) = tt

optional_numbers : (o : Option ℕ) → unwrap_or o 0 < 2 ^ 32 → HasNumbers (optional_value o)
optional_numbers None h = tt
optional_numbers (Some n) h = number_below n h

digest_numbers : (digest : List ℕ) → HasNumbers (digest_value digest)
digest_numbers [] = tt
digest_numbers (b ∷ bytes) = tt

-- ---- how deep they nest

address_depth : (a : Option ℕ) → depth (address_value a) ≡ 0
address_depth None = refl
address_depth (Some address) = refl

optional_depth : (o : Option ℕ) → depth (optional_value o) ≡ 0
optional_depth None = refl
optional_depth (Some n) = refl

digest_depth : (digest : List ℕ) → depth (digest_value digest) ≡ 0
digest_depth [] = refl
digest_depth (b ∷ bytes) = refl

found_depth : (kind : List ℕ) (addresses : Option Addresses) (q : PdbInternalSectionOffset) (length : Option ℕ) (name : List ℕ) → depth (found_value kind addresses q length name) ≡ 1
found_depth kind addresses q length name = rw (address_depth (address_for addresses q), optional_depth length) refl

where_depth : (kind : List ℕ) (addresses : Option Addresses) (r : LineInfo) (file : Option (List ℕ)) (name : Option Qualified) → depth (where_value kind addresses r file name) ≡ 1
where_depth kind addresses r file name = rw (address_depth (address_for addresses r.offset), optional_depth r.length, file_depth file, name_depth name) refl

source_depth : (k : ℕ) (kind digest : List ℕ) (name : Option (List ℕ)) → depth (source_value k kind digest name) ≡ 1
source_depth k kind digest name = rw (digest_depth digest, file_depth name) refl

-- ---- both

pub found_reads_back : (kind : List ℕ) (addresses : Option Addresses) (q : PdbInternalSectionOffset) (length : Option ℕ) (name : List ℕ) → unwrap_or length 0 < 2 ^ 32 → document (print (json_tokens (found_value kind addresses q length name))) ≡ Some (found_value kind addresses q length name)
found_reads_back kind addresses q length name h = document-print (found_value kind addresses q length name) (tt, (tt, (address_numbers (address_for addresses q), (optional_numbers length h, (tt, tt))))) (omega (arith, found_depth kind addresses q length name))

pub where_reads_back : (kind : List ℕ) (addresses : Option Addresses) (r : LineInfo) (file : Option (List ℕ)) (name : Option Qualified) → HasRecord r → document (print (json_tokens (where_value kind addresses r file name))) ≡ Some (where_value kind addresses r file name)
where_reads_back kind addresses r file name h = document-print (where_value kind addresses r file name) (tt, (tt, (address_numbers (address_for addresses r.offset), (optional_numbers r.length h.length, (file_numbers file, (number_below r.line_start h.line, (number_below (unwrap_or r.column_start 0) h.column, (name_numbers name, tt)))))))) (omega (arith, where_depth kind addresses r file name))

pub source_reads_back : (k : ℕ) (kind digest : List ℕ) (name : Option (List ℕ)) → k < 2 ^ 64 → document (print (json_tokens (source_value k kind digest name))) ≡ Some (source_value k kind digest name)
source_reads_back k kind digest name h = document-print (source_value k kind digest name) (IsNumber-decimal k h, (tt, (digest_numbers digest, (file_numbers name, tt)))) (omega (arith, source_depth k kind digest name))

pub finding_reads_back : (file place what : List ℕ) → document (print (json_tokens (finding_value file place what))) ≡ Some (finding_value file place what)
finding_reads_back file place what = document-print (finding_value file place what) (tt, (tt, (tt, tt))) (omega arith)

pub sound_reads_back : (file : List ℕ) → document (print (json_tokens (sound_value file))) ≡ Some (sound_value file)
sound_reads_back file = document-print (sound_value file) (tt, (tt, (tt, tt))) (omega arith)
