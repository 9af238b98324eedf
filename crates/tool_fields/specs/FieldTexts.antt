-- The fields of what records say, each as ` FIELD=VALUE`: those of the struct but the name, in the order of the
-- record's layout, and those that the kind tells last.
use Rattle.std.specs.Prelude.{ℕ, ℤ, Bool, List, [], ◌++◌, Option, codes}
use Rattle.std.specs.Fmt.{decimal, signed_decimal}
use Rattle.pdb_base.specs.Fields.{number}
use Rattle.pdb_base.specs.declared.index.IdIndex.{IdIndex}
use Rattle.pdb_base.specs.declared.index.PdbInternalSectionOffset.{PdbInternalSectionOffset}
use Rattle.pdb_base.specs.declared.index.Register.{Register}
use Rattle.pdb_base.specs.declared.index.SymbolIndex.{SymbolIndex}
use Rattle.pdb_base.specs.declared.index.TypeIndex.{TypeIndex}
use Rattle.pdb_symbols.specs.declared.compilers.CompilerVersion.{CompilerVersion}
use Rattle.pdb_symbols.specs.declared.flags.CompileFlags.{CompileFlags}
use Rattle.pdb_symbols.specs.declared.flags.ProcedureFlags.{ProcedureFlags}
use Rattle.pdb_symbols.specs.Data.{Data}
use Rattle.pdb_symbols.specs.Data.Data.{ScopeEnd, ObjName, RegisterVariable, Constant, UserDefinedType, MultiRegisterVariable, DataItem, Public, Procedure, ThreadStorage, Compiler, UsingNamespace, ProcedureReference, DataReference, AnnotationReference, Trampoline, Export, Local, BuildInfo, InlineSite, InlineSiteEnd, ProcedureEnd, Label, Block, RegisterRelative, Thunk, SeparatedCode}
use Rattle.pdb_records.specs.declared.machine.Machine.{Machine}
use Rattle.pdb_text.specs.Digits.{hex}
use Rattle.pdb_text.specs.OneLine.{one_line}
use Rattle.tool_fields.specs.Flags.{procedure_flags, compile_flags, local_flags, export_flags, separated_code_flags}
use Rattle.tool_fields.specs.Values.{place_text, optional_text}
use Rattle.tool_fields.specs.ValueTexts.{bool_text, language_text, optional_index_text, processor_text, register_on, variant_text, version_text, trampoline_text, thunk_text, registers_text, bytes_text}

-- the name of a field between a blank and `=`
unfoldable pub label : List ℕ → List ℕ
label name = codes " " ++ name ++ codes "="

unfoldable pub field : List ℕ → List ℕ → List ℕ
field name value = label name ++ value

-- ---- fields that several forms have

abbrev pub type_field : TypeIndex → List ℕ
type_field type_index = field (codes "type_index") (hex 8 type_index.0)

abbrev pub place_field : PdbInternalSectionOffset → List ℕ
place_field offset = field (codes "offset") (place_text offset)

abbrev pub global_field : Bool → List ℕ
global_field global = field (codes "global") (bool_text global)

abbrev pub managed_field : Bool → List ℕ
managed_field managed = field (codes "managed") (bool_text managed)

unfoldable pub scope_fields : Option SymbolIndex → SymbolIndex → Option SymbolIndex → List ℕ
scope_fields parent end next = field (codes "parent") (optional_index_text parent) ++ field (codes "end") (hex 8 end.0) ++ field (codes "next") (optional_index_text next)

unfoldable pub span_fields : SymbolIndex → SymbolIndex → ℕ → List ℕ
span_fields parent end len = field (codes "parent") (hex 8 parent.0) ++ field (codes "end") (hex 8 end.0) ++ field (codes "len") (decimal len)

unfoldable pub body_fields : ℕ → ℕ → ℕ → List ℕ
body_fields len start stop = field (codes "len") (decimal len) ++ field (codes "dbg_start_offset") (decimal start) ++ field (codes "dbg_end_offset") (decimal stop)

unfoldable pub reference_fields : ℕ → SymbolIndex → Option ℕ → List ℕ
reference_fields sum_name symbol_index of_module = field (codes "sum_name") (decimal sum_name) ++ field (codes "symbol_index") (hex 8 symbol_index.0) ++ field (codes "module") (optional_text of_module)

unfoldable pub typed_fields : TypeIndex → PdbInternalSectionOffset → ProcedureFlags → List ℕ
typed_fields type_index offset flags = type_field type_index ++ place_field offset ++ field (codes "flags") (procedure_flags flags)

unfoldable pub site_fields : Option SymbolIndex → SymbolIndex → IdIndex → List ℕ
site_fields parent end inlinee = field (codes "parent") (optional_index_text parent) ++ field (codes "end") (hex 8 end.0) ++ field (codes "inlinee") (hex 8 inlinee.0)

-- by the numbers of the language and of the processor
unfoldable pub compiled_fields : ℕ → CompileFlags → ℕ → List ℕ
compiled_fields language flags processor = field (codes "language") (language_text language) ++ field (codes "flags") (compile_flags flags) ++ field (codes "cpu_type") (processor_text processor)

unfoldable pub version_fields : CompilerVersion → CompilerVersion → List ℕ → List ℕ
version_fields frontend backend version_string = field (codes "frontend_version") (version_text frontend) ++ field (codes "backend_version") (version_text backend) ++ field (codes "version_string") (one_line version_string)

-- ---- the fields of each layout, with registers by their names on a machine, and what the value leaves out from the record's bytes b

abbrev pub fields_text : Option Machine → List ℕ → Data → List ℕ
fields_text machine b ScopeEnd = []
fields_text machine b (ObjName signature name) = field (codes "signature") (decimal signature)
fields_text machine b (RegisterVariable type_index register name) = type_field type_index ++ field (codes "register") (register_on machine register)
fields_text machine b (Constant managed type_index value name) = type_field type_index ++ field (codes "value") (variant_text value) ++ managed_field managed
fields_text machine b (UserDefinedType type_index name) = type_field type_index
fields_text machine b (MultiRegisterVariable type_index registers) = type_field type_index ++ field (codes "registers") (registers_text machine registers)
fields_text machine b (DataItem global managed type_index offset name) = type_field type_index ++ place_field offset ++ global_field global ++ managed_field managed
fields_text machine b (Public code function managed msil offset name) = field (codes "code") (bool_text code) ++ field (codes "function") (bool_text function) ++ managed_field managed ++ field (codes "msil") (bool_text msil) ++ place_field offset
fields_text machine b (Procedure s) =
    scope_fields s.parent s.end s.next ++ body_fields s.len s.dbg_start_offset s.dbg_end_offset ++ typed_fields s.type_index s.offset s.flags
    ++ global_field s.global ++ field (codes "dpc") (bool_text s.dpc)
fields_text machine b (ThreadStorage global type_index offset name) = type_field type_index ++ place_field offset ++ global_field global
fields_text machine b (Compiler s) = compiled_fields (number b 2 1) s.flags (number b 6 2) ++ version_fields s.frontend_version s.backend_version s.version_string
fields_text machine b (UsingNamespace name) = []
fields_text machine b (ProcedureReference global sum_name symbol_index of_module name) = reference_fields sum_name symbol_index of_module ++ global_field global
fields_text machine b (DataReference sum_name symbol_index of_module name) = reference_fields sum_name symbol_index of_module
fields_text machine b (AnnotationReference sum_name symbol_index of_module name) = reference_fields sum_name symbol_index of_module
fields_text machine b (Trampoline s) = field (codes "tramp_type") (trampoline_text s.tramp_type) ++ field (codes "size") (decimal s.size) ++ field (codes "thunk") (place_text s.thunk) ++ field (codes "target") (place_text s.target)
fields_text machine b (Export ordinal flags name) = field (codes "ordinal") (decimal ordinal) ++ field (codes "flags") (export_flags flags)
fields_text machine b (Local type_index flags name) = type_field type_index ++ field (codes "flags") (local_flags flags (number b 6 2))
fields_text machine b (BuildInfo s) = field (codes "id") (hex 8 s.id.0)
fields_text machine b (InlineSite s) =
    site_fields s.parent s.end s.inlinee ++ field (codes "invocations") (optional_text s.invocations) ++ field (codes "annotations") (bytes_text s.annotations)
fields_text machine b InlineSiteEnd = []
fields_text machine b ProcedureEnd = []
fields_text machine b (Label offset flags name) = place_field offset ++ field (codes "flags") (procedure_flags flags)
fields_text machine b (Block parent end len offset name) = span_fields parent end len ++ place_field offset
fields_text machine b (RegisterRelative offset type_index register name) = field (codes "offset") (signed_decimal offset) ++ type_field type_index ++ field (codes "register") (register_on machine register)
fields_text machine b (Thunk s) = scope_fields s.parent s.end s.next ++ place_field s.offset ++ field (codes "len") (decimal s.len) ++ field (codes "kind") (thunk_text s.does)
fields_text machine b (SeparatedCode s) = span_fields s.parent s.end s.len ++ field (codes "flags") (separated_code_flags s.flags) ++ place_field s.offset ++ field (codes "parent_offset") (place_text s.parent_offset)

abbrev pub offset_field : ℤ → List ℕ
offset_field offset = field (codes "offset") (signed_decimal offset)

abbrev pub register_field : Option Machine → Register → List ℕ
register_field machine register = field (codes "register") (register_on machine register)
