-- Whether a file can be opened, and the number that an error carries.
use Rattle.std.specs.Prelude.{◌≡◌, ◌⊎◌, ℕ, Result, Ok, Err}
use Rattle.pdb.specs.Error.{Error}
use Rattle.pdb.specs.Error.TheVariants.{InvalidPageSize, PageReferenceOutOfRange, StreamNotFound, UnimplementedSymbolKind, UnimplementedDebugSubsection, UnimplementedFileChecksumKind, InvalidFileChecksumOffset, UnknownBinaryAnnotation, NotACrossModuleRef, CrossModuleRefNotFound, UnexpectedNumericPrefix}
use Rattle.pdb.specs.Refusal.{number_of}

-- the number that an error carries, or 0
abbrev pub carried : Error → ℕ
carried (InvalidPageSize n) = n
carried (PageReferenceOutOfRange n) = n
carried (StreamNotFound n) = n
carried (UnimplementedSymbolKind n) = n
carried (UnimplementedDebugSubsection n) = n
carried (UnimplementedFileChecksumKind n) = n
carried (InvalidFileChecksumOffset n) = n
carried (UnknownBinaryAnnotation n) = n
carried (NotACrossModuleRef n) = n
carried (CrossModuleRefNotFound n) = n
carried (UnexpectedNumericPrefix n) = n
carried e = 0

-- the code of a call that opens a file, and the number that it wrote: that of the error, or 0
abbrev pub Opened : ℕ → ℕ → Result (Unit {0}) Error → Type 0
Opened code number (Ok u) = ((code ≡ 0) ⊎ (code ≡ 22)) × (number ≡ 0)
Opened code number (Err e) = ((code ≡ number_of e) × (number ≡ carried e)) ⊎ ((code ≡ 22) × (number ≡ 0))
