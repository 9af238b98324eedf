-- The line of a refusal, or of a list's fault.
use Rattle.std.specs.Prelude.{ℕ, List, [], ◌++◌, Option, Some, None, Result, Ok, Err, codes, false}
use Rattle.std.specs.Fmt.{decimal, digits}
use Rattle.pdb.specs.Error.{Error}
use Rattle.pdb.specs.Error.TheVariants.{UnexpectedEof, UnimplementedFeature, UnrecognizedFileFormat, InvalidPageSize, PageReferenceOutOfRange, StreamNotFound, StreamNameNotFound, GlobalSymbolsNotFound, AddressMapNotFound, InvalidStreamLength, SymbolTooShort, UnimplementedSymbolKind, UnimplementedDebugSubsection, UnimplementedFileChecksumKind, InvalidFileChecksumOffset, UnknownBinaryAnnotation, InvalidCompressedAnnotation, NotACrossModuleRef, CrossModuleRefNotFound, UnexpectedNumericPrefix, IoError, OutOfMemory}
use Rattle.pdb.specs.Refusal.{number_of, feature_text, part_text}
use Rattle.pdb_text.specs.Digits.{hex}
use Rattle.tool_printing.specs.Printing.{mark}

-- `0x` and so many hex digits as the number has
abbrev pub short_hex : ℕ → List ℕ
short_hex n = codes "0x" ++ digits 16 false n

-- `0x` and four hex digits
abbrev pub long_hex : ℕ → List ℕ
long_hex n = codes "0x" ++ hex 4 n

-- what the Display of a refusal writes that is for what stands in a symbol, in a part of a module, or for no file
abbrev pub later_message : Error → List ℕ
later_message (UnimplementedSymbolKind n) = codes "symbols of kind " ++ long_hex n ++ codes " are not supported"
later_message (UnimplementedDebugSubsection n) = codes "debug subsections of kind " ++ short_hex n ++ codes " are not supported"
later_message (UnimplementedFileChecksumKind n) = codes "file checksums of kind " ++ decimal n ++ codes " are not supported"
later_message (InvalidFileChecksumOffset n) = codes "there is no file checksum at " ++ short_hex n
later_message (UnknownBinaryAnnotation n) = codes "binary annotation " ++ decimal n ++ codes " is unknown"
later_message InvalidCompressedAnnotation = codes "a number in a binary annotation is not spelled as it must be"
later_message (NotACrossModuleRef n) = codes "index " ++ short_hex n ++ codes " refers to no other module"
later_message (CrossModuleRefNotFound n) = codes "index " ++ short_hex n ++ codes " is not among the imports of the module"
later_message (UnexpectedNumericPrefix n) = codes "the prefix " ++ long_hex n ++ codes " says no known kind of number"
later_message IoError = codes "the file could not be read"
later_message OutOfMemory = codes "out of memory"
later_message e = []

-- what a refusal's Display writes
abbrev pub message_of : Error → List ℕ
message_of UnexpectedEof = codes "the data ends before a record does"
message_of (UnimplementedFeature feature) = codes "not supported: " ++ feature_text feature
message_of UnrecognizedFileFormat = codes "this is no PDB file of the format MSF 7.00"
message_of (InvalidPageSize n) = codes "the container has an invalid page size: " ++ decimal n
message_of (PageReferenceOutOfRange n) = codes "page " ++ decimal n ++ codes " is not among the pages of the file"
message_of (StreamNotFound n) = codes "there is no stream " ++ decimal n
message_of StreamNameNotFound = codes "there is no stream of this name"
message_of GlobalSymbolsNotFound = codes "the file has no global symbols"
message_of AddressMapNotFound = codes "the file has no complete address map"
message_of (InvalidStreamLength part) = codes "invalid length: " ++ part_text part
message_of SymbolTooShort = codes "a symbol record is shorter than two bytes"
message_of e = later_message e

-- `error`, the refusal's number, and what its Display writes
abbrev pub error_text : Error → List ℕ
error_text e = codes "error " ++ decimal (number_of e) ++ codes " " ++ message_of e ++ codes "\n"

-- the same behind a mark: a text that has it was made of something with an error
abbrev pub error_line : Error → List ℕ
error_line e = mark ++ error_text e

-- the line of a fault, where there is one
abbrev pub fault_line : Option Error → List ℕ
fault_line None = []
fault_line (Some e) = error_line e

-- the text of what was had, or the line of its refusal
abbrev pub told : {A : Type 0} → Result A Error → (A → List ℕ) → List ℕ
told (Ok x) text = text x
told (Err e) text = error_line e
