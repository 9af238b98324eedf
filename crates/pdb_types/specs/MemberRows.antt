-- The table of the members of types: which kind has which form, how its entries are laid out, and what they say.
use Rattle.std.specs.Prelude.{ℕ, true, false, ◌+◌, ◌%◌, ◌≡◌, ◌==◌, ◌||◌, ◌&&◌, nat_lt, if◌then◌else◌, List, length, Option, Some, None, Result, Ok, Err}
use Rattle.pdb_base.specs.declared.error.Error.{Error}
use Rattle.pdb_base.specs.declared.error.Error.TheVariants.{UnimplementedFeature}
use Rattle.pdb_base.specs.declared.error.Feature.TheVariants.{SymbolDataFormat}
use Rattle.pdb_base.specs.declared.index.TypeIndex.{TypeIndex}
use Rattle.pdb_base.specs.declared.variant.Variant.{Variant}
use Rattle.pdb_base.specs.Fields.{number as number_in, number_at, bytes_at, variant_at, variant_width}
use Rattle.pdb_base.specs.Places.{IsVariant}
use Rattle.pdb_base.specs.Refusal.{◌>>=◌}
use Rattle.pdb_base.specs.Layouts.{Part, ◌▷◌, behind, together, number, number_as, signed, slice, cstring, given, width_read}
use Rattle.pdb_types.specs.declared.members.FieldAttributes.{FieldAttributes}
use Rattle.pdb_types.specs.TypeRows.{type_number}
use Rattle.pdb_types.specs.MemberSays.{EntrySays, is_introduced, with_sign}
use Rattle.pdb_types.specs.MemberSays.EntrySays.{Says, GoesOn}
use Rattle.pdb_types.specs.MemberSays.MemberSays.{BaseClass, VirtualBaseClass, VirtualTablePointer, VirtualTableOffset, FriendClass, FriendFunction, Enumerate, Member, StaticMember, Method, Nested, OneMethod}

-- ---- parts

abbrev pub attributes_of : ℕ → FieldAttributes
attributes_of n = record { 0 = n }

abbrev pub attributes : Part FieldAttributes
attributes = number_as 2 attributes_of

-- a numeric leaf, with its sign
abbrev pub signed_variant : Part Variant
signed_variant = record {
  at = λ kind b i. variant_at b i >>= (λ v. Ok (with_sign v));
  Stands = λ kind b i x. (v : Variant) × IsVariant b i v × (x ≡ with_sign v);
  width = λ kind b i x. variant_width b i;
}

-- attributes, and the index of a type; of a member without attributes the two bytes are something else, or nothing
abbrev pub head : Part (FieldAttributes × TypeIndex)
head = together (attributes ▷ type_number)

-- of a virtual base class: the type of the pointer to it, where this pointer stands, and the entry of the base class in its table
abbrev pub base_places : Part (List ℕ × (Variant × Variant))
base_places = together (slice 4 ▷ signed_variant ▷ signed_variant)

abbrev pub variant_and_name : Part (Variant × List ℕ)
variant_and_name = together (signed_variant ▷ cstring)

-- of a member function: its place in the table of virtual functions, where the function is introduced, and its name
abbrev pub place_and_name : FieldAttributes → Part (Option ℕ × List ℕ)
place_and_name a = together (given (is_introduced a.0) (number 4) ▷ cstring)

-- ---- the table

pub data MemberForm : Type 0 where
  BaseForm : MemberForm
  DirectBaseForm : MemberForm
  IndirectBaseForm : MemberForm
  GoesOnForm : MemberForm
  TablePointerForm : MemberForm
  TableOffsetForm : MemberForm
  FriendClassForm : MemberForm
  FriendFunctionForm : MemberForm
  EnumerateForm : MemberForm
  DataForm : MemberForm
  StaticForm : MemberForm
  OverloadsForm : MemberForm
  NestedForm : MemberForm
  MethodForm : MemberForm

abbrev pub member_form_of : ℕ → Option MemberForm
member_form_of kind =
    if kind == 0x1400 || kind == 0x151a then Some BaseForm
    else if kind == 0x1401 then Some DirectBaseForm
    else if kind == 0x1402 then Some IndirectBaseForm
    else if kind == 0x1404 then Some GoesOnForm
    else if kind == 0x1409 then Some TablePointerForm
    else if kind == 0x140c then Some TableOffsetForm
    else if kind == 0x140a then Some FriendClassForm
    else if kind == 0x150c then Some FriendFunctionForm
    else if kind == 0x1502 then Some EnumerateForm
    else if kind == 0x150d then Some DataForm
    else if kind == 0x150e then Some StaticForm
    else if kind == 0x150f then Some OverloadsForm
    else if kind == 0x1510 || kind == 0x1512 then Some NestedForm
    else if kind == 0x1511 then Some MethodForm
    else None

-- a form: how its entries are laid out behind the kind, and what their parts say
pub record LaidMember : Type 1 where
  pub Parts : Type 0
  pub layout : Part Parts
  pub says : Parts → EntrySays

abbrev lay : {A : Type 0} → Part A → (A → EntrySays) → LaidMember
lay {A} p f = record { Parts = A; layout = p; says = f }

abbrev pub laid_member : MemberForm → LaidMember
laid_member BaseForm = lay (head ▷ signed_variant)
    (λ ((a, t), offset). Says (BaseClass a t offset))
laid_member DirectBaseForm = lay (head ▷ base_places)
    (λ ((a, t), (pointer, (offset, entry))). Says (VirtualBaseClass true a t offset entry))
laid_member IndirectBaseForm = lay (head ▷ base_places)
    (λ ((a, t), (pointer, (offset, entry))). Says (VirtualBaseClass false a t offset entry))
laid_member GoesOnForm = lay head (λ (a, list). GoesOn list)
laid_member TablePointerForm = lay head (λ (a, t). Says (VirtualTablePointer t))
laid_member TableOffsetForm = lay (head ▷ signed) (λ ((a, t), offset). Says (VirtualTableOffset t offset))
laid_member FriendClassForm = lay head (λ (a, t). Says (FriendClass t))
laid_member FriendFunctionForm = lay (head ▷ cstring) (λ ((a, t), name). Says (FriendFunction t name))
laid_member EnumerateForm = lay (attributes ▷ variant_and_name) (λ (a, (value, name)). Says (Enumerate a value name))
laid_member DataForm = lay (head ▷ variant_and_name) (λ ((a, t), (offset, name)). Says (Member a t offset name))
laid_member StaticForm = lay (head ▷ cstring) (λ ((a, t), name). Says (StaticMember a t name))
laid_member OverloadsForm = lay (head ▷ cstring) (λ ((count, list), name). Says (Method count.0 list name))
laid_member NestedForm = lay (head ▷ cstring) (λ ((a, t), name). Says (Nested t name))
laid_member MethodForm = lay (behind head (λ h. place_and_name h.0)) (λ ((a, t), (place, name)). Says (OneMethod a t place name))

-- what is read of the fields of a form that begin at i, and how many bytes they are
unfoldable pub form_at : MemberForm → List ℕ → ℕ → Result EntrySays Error
form_at f b i = (laid_member f).layout.at 0 b i >>= (λ s. Ok ((laid_member f).says s))

unfoldable pub form_width : MemberForm → List ℕ → ℕ → ℕ
form_width f b i = width_read (laid_member f).layout 0 b i ((laid_member f).layout.at 0 b i)

-- the same by the form of a kind, where it has one
abbrev pub fields_at : Option MemberForm → List ℕ → ℕ → Result EntrySays Error
fields_at None b i = Err (UnimplementedFeature SymbolDataFormat)
fields_at (Some f) b i = form_at f b i

abbrev pub fields_width : Option MemberForm → List ℕ → ℕ → ℕ
fields_width None b i = 0
fields_width (Some f) b i = form_width f b i

-- ---- entries

-- how many bytes of padding stand at q: a byte above 0xf0 has their number in its low four bits
abbrev pub padding_at : List ℕ → ℕ → ℕ
padding_at b q = if nat_lt q (length b) && nat_lt 0xf0 (number_in b q 1) then number_in b q 1 % 16 else 0

-- an entry, and where it ends
pub record FoundEntry : Type 0 where
  pub entry : EntrySays
  pub end : ℕ

-- an entry whose fields end at q, with the padding behind it
abbrev pub padded : List ℕ → ℕ → EntrySays → Result FoundEntry Error
padded b q x = bytes_at b q (padding_at b q) >>= (λ s. Ok (record { entry = x; end = q + padding_at b q }))

-- an entry of a kind, whose fields begin at i
abbrev pub entry_of : Option MemberForm → List ℕ → ℕ → Result FoundEntry Error
entry_of f b i = fields_at f b i >>= (λ x. padded b (i + fields_width f b i) x)

-- the entry at p, which begins with its kind
unfoldable pub entry_at : List ℕ → ℕ → Result FoundEntry Error
entry_at b p = number_at b p 2 >>= (λ kind. entry_of (member_form_of kind) b (p + 2))
