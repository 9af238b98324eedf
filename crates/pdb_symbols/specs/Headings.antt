-- A record's form and its name, without what its other fields say.
use Rattle.std.specs.Prelude.{ℕ, ◌≡◌, List, Option, Some, None, Result, Ok}
use Rattle.std.specs.Option.{option_map}
use Rattle.pdb_base.specs.declared.error.Error.{Error}
use Rattle.pdb_base.specs.Refusal.{◌>>=◌}
use Rattle.pdb_base.specs.Text.{name_bytes}
use Rattle.pdb_symbols.specs.declared.form.Form.{Form}
use Rattle.pdb_symbols.specs.declared.form.Form.TheVariants as form
use Rattle.pdb_symbols.specs.declared.heading.Heading.{Heading}
use Rattle.pdb_symbols.specs.Data.{Data, name_of}
use Rattle.pdb_symbols.specs.Data.Data.{ScopeEnd, ObjName, RegisterVariable, Constant, UserDefinedType, MultiRegisterVariable, DataItem, Public, Procedure, ThreadStorage, Compiler, UsingNamespace, ProcedureReference, DataReference, AnnotationReference, Trampoline, Export, Local, BuildInfo, InlineSite, InlineSiteEnd, ProcedureEnd, Label, Block, RegisterRelative, Thunk, SeparatedCode}
use Rattle.pdb_symbols.specs.FormTable.{read_of}
use Rattle.pdb_symbols.specs.Forms.{record_at}
use Rattle.pdb_symbols.specs.Parts.{name_at}

-- the form of a record that says this
abbrev pub form_of : Data → Form
form_of ScopeEnd = form.ScopeEnd
form_of (ObjName signature name) = form.ObjName
form_of (RegisterVariable type_index register name) = form.RegisterVariable
form_of (Constant managed type_index value name) = form.Constant
form_of (UserDefinedType type_index name) = form.UserDefinedType
form_of (MultiRegisterVariable type_index registers) = form.MultiRegisterVariable
form_of (DataItem global managed type_index offset name) = form.Data
form_of (Public code function managed msil offset name) = form.Public
form_of (Procedure s) = form.Procedure
form_of (ThreadStorage global type_index offset name) = form.ThreadStorage
form_of (Compiler s) = form.CompileFlags
form_of (UsingNamespace name) = form.UsingNamespace
form_of (ProcedureReference global sum_name symbol_index of_module name) = form.ProcedureReference
form_of (DataReference sum_name symbol_index of_module name) = form.DataReference
form_of (AnnotationReference sum_name symbol_index of_module name) = form.AnnotationReference
form_of (Trampoline s) = form.Trampoline
form_of (Export ordinal flags name) = form.Export
form_of (Local type_index flags name) = form.Local
form_of (BuildInfo s) = form.BuildInfo
form_of (InlineSite s) = form.InlineSite
form_of InlineSiteEnd = form.InlineSiteEnd
form_of ProcedureEnd = form.ProcedureEnd
form_of (Label offset flags name) = form.Label
form_of (Block parent end len offset name) = form.Block
form_of (RegisterRelative offset type_index register name) = form.RegisterRelative
form_of (Thunk s) = form.Thunk
form_of (SeparatedCode s) = form.SeparatedCode

-- a form, and the bytes of a name, if there is one
abbrev pub Titled : Type 0
Titled = Form × Option (List ℕ)

-- the form and the name of a record that says this
abbrev pub title_of : Data → Titled
title_of d = (form_of d, name_of d)

-- the form and the name that a heading tells
abbrev pub shown_heading : Heading → Titled
shown_heading h = (h.form, option_map name_bytes h.name)

-- what heads a record: the form and the name of what is read of it, or the same refusal
abbrev pub heading_at : List ℕ → Result Titled Error
heading_at b = record_at b >>= (λ d. Ok (title_of d))

-- what heads a record of a form and a kind
abbrev pub heading_by : Form → ℕ → List ℕ → Result Titled Error
heading_by f kind b = read_of f kind b >>= (λ d. Ok (title_of d))

-- records of the form and the kind have their names at this place, whatever else they say, and are refused where the name is
abbrev pub NameStandsAt : Form → ℕ → ℕ → Type 0
NameStandsAt f kind p = (b : List ℕ) → heading_by f kind b ≡ (name_at kind b p >>= (λ s. Ok (f, Some s)))

-- records of the form are never refused, and have no name
abbrev pub IsBare : Form → Type 0
IsBare f = (kind : ℕ) (b : List ℕ) → heading_by f kind b ≡ Ok (f, None)
