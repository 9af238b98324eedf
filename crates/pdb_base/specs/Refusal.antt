-- Refusals: their numbers and names, and how a contract says which one a call answers.
use Rattle.std.specs.Prelude.{◌≡◌, ◌≢◌, ℕ, List, codes, Result, Ok, Err}
use Rattle.pdb_base.specs.declared.error.Feature.{Feature}
use Rattle.pdb_base.specs.declared.error.Feature.TheVariants.{SmallMsf, StringTable, AncientDbiHeader, SymbolDataFormat, C11LinePrograms}
use Rattle.pdb_base.specs.declared.error.Part.{Part}
use Rattle.pdb_base.specs.declared.error.Part.TheVariants.{DebugHeader, LinesBlock, CrossScopeExports, Sample}
use Rattle.pdb_base.specs.declared.error.Error.{Error}
use Rattle.pdb_base.specs.declared.error.Error.TheVariants.{UnexpectedEof, UnimplementedFeature, UnrecognizedFileFormat, InvalidPageSize, PageReferenceOutOfRange, StreamNotFound, StreamNameNotFound, GlobalSymbolsNotFound, AddressMapNotFound, InvalidStreamLength, SymbolTooShort, UnimplementedSymbolKind, UnimplementedDebugSubsection, UnimplementedFileChecksumKind, InvalidFileChecksumOffset, UnknownBinaryAnnotation, InvalidCompressedAnnotation, NotACrossModuleRef, CrossModuleRefNotFound, UnexpectedNumericPrefix, IoError, OutOfMemory}

abbrev pub feature_text : Feature → List ℕ
feature_text SmallMsf = codes "small MSF file format"
feature_text StringTable = codes "string table"
feature_text AncientDbiHeader = codes "ancient DBI header"
feature_text SymbolDataFormat = codes "Unsupported symbol data format"
feature_text C11LinePrograms = codes "C11 line programs"

abbrev pub part_text : Part → List ℕ
part_text DebugHeader = codes "DbgDataHdr"
part_text LinesBlock = codes "DebugLinesBlock"
part_text CrossScopeExports = codes "DebugCrossScopeExportsSubsection"
part_text Sample = codes "sample"

abbrev pub number_of : Error → ℕ
number_of UnexpectedEof = 1
number_of (UnimplementedFeature feature) = 2
number_of UnrecognizedFileFormat = 3
number_of (InvalidPageSize n) = 4
number_of (PageReferenceOutOfRange n) = 5
number_of (StreamNotFound n) = 6
number_of StreamNameNotFound = 7
number_of GlobalSymbolsNotFound = 8
number_of AddressMapNotFound = 9
number_of (InvalidStreamLength part) = 10
number_of SymbolTooShort = 11
number_of (UnimplementedSymbolKind n) = 12
number_of (UnimplementedDebugSubsection n) = 13
number_of (UnimplementedFileChecksumKind n) = 14
number_of (InvalidFileChecksumOffset n) = 15
number_of (UnknownBinaryAnnotation n) = 16
number_of InvalidCompressedAnnotation = 17
number_of (NotACrossModuleRef n) = 18
number_of (CrossModuleRefNotFound n) = 19
number_of (UnexpectedNumericPrefix n) = 20
number_of IoError = 21
number_of OutOfMemory = 22

-- what is read first, and then the rest; or the first refusal
infixl 10 ◌>>=◌
abbrev pub ◌>>=◌ : {A B : Type 0} → Result A Error → (A → Result B Error) → Result B Error
(Ok x) >>= f = f x
(Err e) >>= f = Err e

-- A call that takes no memory and asks for no view answers what is read, seen by view, or its refusal.
abbrev pub Answers : {X Y : Type 0} → (X → Y) → Result X Error → Result Y Error → Type 0
Answers view (Ok x) read = read ≡ Ok (view x)
Answers view (Err e) read = (read ≡ Err e) × (e ≢ OutOfMemory) × (e ≢ IoError)

-- What an error says where reading gives read: out of memory at any time, that the source
-- failed only where io holds, and else what reading is refused for.
abbrev pub Fails : {Y : Type 0} → Type 0 → Error → Result Y Error → Type 0
Fails io IoError read = io
Fails io OutOfMemory read = Unit {0}
Fails io e read = read ≡ Err e

-- A call that takes memory, over a source that may fail where io holds, answers what is read, seen by view, or its refusal.
abbrev pub Gives : {X Y : Type 0} → (X → Y) → Type 0 → Result X Error → Result Y Error → Type 0
Gives view io (Ok x) read = read ≡ Ok (view x)
Gives view io (Err e) read = Fails io e read
