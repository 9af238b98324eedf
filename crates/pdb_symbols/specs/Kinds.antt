-- Which kind has which form.
use Rattle.std.specs.Prelude.{ℕ, Bool, false, ◌||◌, List, [], ◌∷◌, Option, Some, None, ◌==◌, nat_lt, if◌then◌else◌}
use Rattle.pdb_symbols.specs.declared.form.Form.{Form}
use Rattle.pdb_symbols.specs.declared.form.Form.TheVariants.{ScopeEnd, ObjName, RegisterVariable, Constant, UserDefinedType, MultiRegisterVariable, Data, Public, Procedure, ThreadStorage, CompileFlags, UsingNamespace, ProcedureReference, DataReference, AnnotationReference, Trampoline, Export, Local, BuildInfo, InlineSite, InlineSiteEnd, ProcedureEnd, Label, Block, RegisterRelative, Thunk, SeparatedCode}

-- a number is one of these
abbrev pub is_in : List ℕ → ℕ → Bool
is_in [] n = false
is_in (k ∷ ks) n = n == k || is_in ks n

-- the form of a kind by a table of rows
abbrev pub row_in : List (List ℕ × Form) → ℕ → Option Form
row_in [] kind = None
row_in ((kinds, f) ∷ rows) kind = if is_in kinds kind then Some f else row_in rows kind

-- kinds below 0x1100
abbrev pub older_rows : List (List ℕ × Form)
older_rows =
    (0x0006 ∷ [], ScopeEnd) ∷
    (0x0009 ∷ [], ObjName) ∷
    (0x1001 ∷ [], RegisterVariable) ∷
    (0x1002 ∷ [], Constant) ∷
    (0x1003 ∷ 0x1004 ∷ [], UserDefinedType) ∷
    (0x1005 ∷ 0x1014 ∷ [], MultiRegisterVariable) ∷
    (0x1007 ∷ 0x1008 ∷ 0x1020 ∷ 0x1021 ∷ [], Data) ∷
    (0x1009 ∷ [], Public) ∷
    (0x100a ∷ 0x100b ∷ [], Procedure) ∷
    (0x100e ∷ 0x100f ∷ [], ThreadStorage) ∷
    (0x1013 ∷ [], CompileFlags) ∷
    (0x1029 ∷ [], UsingNamespace) ∷
    (0x0400 ∷ 0x0403 ∷ [], ProcedureReference) ∷
    (0x0401 ∷ [], DataReference) ∷
    (0x0209 ∷ [], Label) ∷
    (0x0207 ∷ [], Block) ∷
    (0x0206 ∷ [], Thunk) ∷
    []

-- kinds from 0x1100 to 0x1113
abbrev pub middle_rows : List (List ℕ × Form)
middle_rows =
    (0x1101 ∷ [], ObjName) ∷
    (0x1106 ∷ [], RegisterVariable) ∷
    (0x1107 ∷ [], Constant) ∷
    (0x1108 ∷ 0x1109 ∷ [], UserDefinedType) ∷
    (0x110a ∷ [], MultiRegisterVariable) ∷
    (0x110c ∷ 0x110d ∷ [], Data) ∷
    (0x110e ∷ [], Public) ∷
    (0x110f ∷ 0x1110 ∷ [], Procedure) ∷
    (0x1112 ∷ 0x1113 ∷ [], ThreadStorage) ∷
    (0x1105 ∷ [], Label) ∷
    (0x1103 ∷ [], Block) ∷
    (0x1111 ∷ [], RegisterRelative) ∷
    (0x1102 ∷ [], Thunk) ∷
    []

-- the others
abbrev pub newer_rows : List (List ℕ × Form)
newer_rows =
    (0x112d ∷ [], Constant) ∷
    (0x1117 ∷ [], MultiRegisterVariable) ∷
    (0x111c ∷ 0x111d ∷ [], Data) ∷
    (0x1146 ∷ 0x1147 ∷ 0x1155 ∷ 0x1156 ∷ [], Procedure) ∷
    (0x1116 ∷ 0x113c ∷ [], CompileFlags) ∷
    (0x1124 ∷ [], UsingNamespace) ∷
    (0x1125 ∷ 0x1127 ∷ [], ProcedureReference) ∷
    (0x1126 ∷ [], DataReference) ∷
    (0x1128 ∷ [], AnnotationReference) ∷
    (0x112c ∷ [], Trampoline) ∷
    (0x1138 ∷ [], Export) ∷
    (0x113e ∷ [], Local) ∷
    (0x114c ∷ [], BuildInfo) ∷
    (0x114d ∷ 0x115d ∷ [], InlineSite) ∷
    (0x114e ∷ [], InlineSiteEnd) ∷
    (0x114f ∷ [], ProcedureEnd) ∷
    (0x1132 ∷ [], SeparatedCode) ∷
    []

-- the form of a kind
abbrev pub row : ℕ → Option Form
row kind = if nat_lt kind 0x1100 then row_in older_rows kind else if nat_lt kind 0x1114 then row_in middle_rows kind else row_in newer_rows kind
