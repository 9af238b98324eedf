-- The names of types: what stands before a declared name, and what stands behind it.
use Rattle.std.specs.Prelude.{ℕ, zero, suc, ℤ, pos, negsuc, ◌/◌, ◌%◌, ◌==◌, ◌&&◌, Bool, true, false, not, List, [], ◌∷◌, ◌++◌, length, take, Option, Some, None, codes, nat_lt, nat_le, slice_index_or, if◌then◌else◌}
use Rattle.std.specs.Fmt.{decimal}
use Rattle.std.specs.List.{flat_map}
use Rattle.pdb_base.specs.declared.index.TypeIndex.{TypeIndex}
use Rattle.pdb_base.specs.Fields.{number}
use Rattle.pdb_items.specs.Items.{ItemEntry, item_with}
use Rattle.pdb_items.specs.Ids.{kind_at}
use Rattle.pdb_types.specs.declared.shapes.Shape.{Shape}
use Rattle.pdb_types.specs.declared.shapes.Shape.TheVariants as shape
use Rattle.pdb_types.specs.declared.pointer.PointerMode.{PointerMode}
use Rattle.pdb_types.specs.declared.pointer.PointerMode.TheVariants as modes
use Rattle.pdb_types.specs.declared.pointer.Qualifiers.{Qualifiers}
use Rattle.pdb_types.specs.FullTypes.{says_of, size_of}
use Rattle.pdb_types.specs.SimpleTypes.{simple_text, is_simple_pointer}
use Rattle.pdb_types.specs.TypeFlags.{has, pointer_qualifiers}
use Rattle.pdb_types.specs.TypeSays.{TypeSays}
use Rattle.pdb_types.specs.TypeSays.TypeSays.{Modifier, Pointer, Array, Bitfield, Procedure, MemberFunction, ArgumentList, Class, Union, Enumeration, VirtualTableShape, FieldList, Alias}

-- ---- words

abbrev pub where_so : Bool → List ℕ → List ℕ
where_so t text = if t then text else []

-- each before a blank
unfoldable pub plain_before : Qualifiers → List ℕ
plain_before q = where_so q.is_const (codes "const ") ++ where_so q.is_volatile (codes "volatile ")

abbrev pub words_before : Qualifiers → List ℕ
words_before q = plain_before q ++ where_so q.is_unaligned (codes "__unaligned ")

-- each behind a blank
unfoldable pub plain_behind : Qualifiers → List ℕ
plain_behind q = where_so q.is_const (codes " const") ++ where_so q.is_volatile (codes " volatile")

unfoldable pub rare_behind : Qualifiers → List ℕ
rare_behind q = where_so q.is_unaligned (codes " __unaligned") ++ where_so q.is_restrict (codes " __restrict")

abbrev pub words_behind : Qualifiers → List ℕ
words_behind q = plain_behind q ++ rare_behind q

-- a name of a record; an empty one shows as one that isn't there
abbrev pub name_text : List ℕ → List ℕ
name_text [] = codes "??"
name_text (x ∷ xs) = x ∷ xs

-- a size that is a number of 64 bits, as those of all records are that aren't damaged
abbrev pub small : ℤ → Option ℕ
small (pos n) = if nat_lt n 0x10000000000000000 then Some n else None
small (negsuc n) = None

abbrev pub small_size : Option ℤ → Option ℕ
small_size None = None
small_size (Some z) = small z

-- how many elements an array of a size has, by the size of an element
abbrev pub count_of : ℕ → Option ℕ → Option ℕ
count_of size None = None
count_of size (Some element) = if nat_lt 0 element && size % element == 0 then Some (size / element) else None

-- the count of an array: where it isn't known, an array of no bytes has none
abbrev pub count_or : ℕ → Option ℕ → List ℕ
count_or size (Some n) = decimal n
count_or size None = where_so (not (size == 0)) (codes "?")

abbrev pub count_text : Option ℕ → Option ℕ → List ℕ
count_text None element = codes "?"
count_text (Some size) element = count_or size (count_of size element)

-- ---- parts

-- the parts of a type: what stands before a declared name and behind it, its shape, and where its qualifiers stand
pub record Parts : Type 0 where
  pub front : List ℕ
  pub back : List ℕ
  pub shape : Shape
  pub is_right : Bool

abbrev pub plain : List ℕ → Parts
plain text = record { front = text; back = []; shape = shape.Plain; is_right = false }

abbrev pub is_plain : Shape → Bool
is_plain shape.Plain = true
is_plain shape.Array = false
is_plain shape.Function = false

abbrev pub is_function : Shape → Bool
is_function shape.Plain = false
is_function shape.Array = false
is_function shape.Function = true

abbrev pub name_in : Parts → List ℕ
name_in p = p.front ++ (where_so (is_function p.shape) (codes " ") ++ p.back)

abbrev pub modified : Qualifiers → Parts → Parts
modified q p = record {
  front = if p.is_right then p.front ++ words_behind q else words_before q ++ p.front;
  back = p.back;
  shape = p.shape;
  is_right = p.is_right;
}

-- what stands in front of a star, by the shape of what is pointed to
abbrev pub gap : Shape → List ℕ
gap s = where_so (not (is_plain s)) (codes " (")

abbrev pub member_gap : Shape → List ℕ
member_gap s = if is_plain s then codes " " else codes " ("

-- what stands between the front of what is pointed to and the qualifiers, by the names of the types that are referred to
abbrev pub star : (ℕ → List ℕ) → Shape → PointerMode → List ℕ
star name s modes.Pointer = gap s ++ codes "*"
star name s modes.LvalueReference = gap s ++ codes "&"
star name s modes.RvalueReference = gap s ++ codes "&&"
star name s (modes.DataMember owner) = member_gap s ++ (name owner.0 ++ codes "::*")
star name s (modes.MemberFunction owner) = member_gap s ++ (name owner.0 ++ codes "::*")

abbrev pub pointed : (ℕ → List ℕ) → PointerMode → Qualifiers → Parts → Parts
pointed name mode q p = record {
  front = p.front ++ (star name p.shape mode ++ words_behind q);
  back = where_so (not (is_plain p.shape)) (codes ")") ++ p.back;
  shape = shape.Plain;
  is_right = true;
}

abbrev pub array_of : List ℕ → Parts → Parts
array_of count p = record {
  front = p.front;
  back = codes "[" ++ (count ++ (codes "]" ++ p.back));
  shape = shape.Array;
  is_right = p.is_right;
}

abbrev pub bits_of : ℕ → Parts → Parts
bits_of len p = record { front = p.front; back = p.back ++ (codes " : " ++ decimal len); shape = shape.Plain; is_right = false }

abbrev pub function_of : List ℕ → Parts → Parts
function_of arguments p = record { front = p.front; back = arguments ++ p.back; shape = shape.Function; is_right = false }

-- ---- arguments

-- an argument, with a comma behind it
abbrev pub with_comma : (ℕ → List ℕ) → TypeIndex → List ℕ
with_comma name j = name j.0 ++ codes ", "

-- the last argument: index 0 stands for any further ones
abbrev pub last_text : (ℕ → List ℕ) → TypeIndex → List ℕ
last_text name j = if j.0 == 0 then codes "..." else name j.0

-- a list of arguments in parentheses, with commas between them
abbrev pub list_text : (ℕ → List ℕ) → List TypeIndex → List ℕ
list_text name [] = codes "()"
list_text name (j ∷ js) = codes "(" ++ (flat_map (with_comma name) (take (length js) (j ∷ js)) ++ (last_text name (slice_index_or (j ∷ js) (length js) j) ++ codes ")"))

abbrev pub arguments_by : List ℕ → Option TypeSays → List ℕ
arguments_by text (Some (ArgumentList js)) = text
arguments_by text says = codes "(??)"

-- the arguments of a function, by the list of an index and the parts of the types d deep
abbrev pub arguments_text : List ItemEntry → ℕ → (ℕ → Parts) → ℕ → List ℕ
arguments_text types d sub l =
    if nat_lt l 0x1000 then codes "(??)"
    else if d == 0 then codes "(<...>)"
    else arguments_by (sub l).front (says_of types l)

-- ---- how a member function takes `this`

-- the type that `this` points to, and the attributes of the pointer
abbrev pub this_in : Option ItemEntry → Option (ℕ × ℕ)
this_in None = None
this_in (Some x) = if kind_at x.bytes == 0x1002 && nat_le 10 (length x.bytes) then Some (number x.bytes 2 4, number x.bytes 6 4) else None

abbrev pub object_words : Option TypeSays → List ℕ
object_words (Some (Modifier s)) = plain_behind s.qualifiers
object_words says = []

abbrev pub reference_text : ℕ → List ℕ
reference_text a = if has a 0x100000 then codes " &" else if has a 0x200000 then codes " &&" else []

abbrev pub object_by : List ItemEntry → Option (ℕ × ℕ) → List ℕ
object_by types None = []
object_by types (Some (u, a)) = object_words (says_of types u) ++ reference_text a

unfoldable pub object_text : List ItemEntry → ℕ → List ℕ
object_text types t = object_by types (this_in (item_with types t))

-- ---- names

-- the parts of what a record says, by those of the types that it refers to, which are d deep
abbrev pub parts_of : List ItemEntry → (List ℕ → Option ℕ) → ℕ → (ℕ → Parts) → Option TypeSays → Parts
parts_of types first d sub None = plain (codes "??")
parts_of types first d sub (Some (Modifier s)) = modified s.qualifiers (sub s.underlying.0)
parts_of types first d sub (Some (Pointer s)) = pointed (λ j. name_in (sub j)) s.mode (pointer_qualifiers s.attributes.0) (sub s.referent.0)
parts_of types first d sub (Some (Array s)) = array_of (count_text (small s.size) (small_size (size_of types first s.element.0))) (sub s.element.0)
parts_of types first d sub (Some (Bitfield s)) = bits_of s.len (sub s.underlying.0)
parts_of types first d sub (Some (Procedure s)) = function_of (arguments_text types d sub s.argument_list.0) (sub s.return_type.0)
parts_of types first d sub (Some (MemberFunction s)) = function_of (arguments_text types d sub s.argument_list.0 ++ object_text types s.this_type.0) (sub s.return_type.0)
parts_of types first d sub (Some (ArgumentList js)) = plain (list_text (λ j. name_in (sub j)) js)
parts_of types first d sub (Some (Class size tag)) = plain (name_text tag.name)
parts_of types first d sub (Some (Union size tag)) = plain (name_text tag.name)
parts_of types first d sub (Some (Enumeration underlying tag)) = plain (name_text tag.name)
parts_of types first d sub (Some (VirtualTableShape methods)) = plain (codes "<vftable " ++ (decimal methods ++ codes " methods>"))
parts_of types first d sub (Some FieldList) = plain (codes "<field list>")
parts_of types first d sub (Some (Alias name)) = plain (name_text name)

abbrev pub simple_parts : ℕ → Parts
simple_parts i = record { front = simple_text i; back = []; shape = shape.Plain; is_right = is_simple_pointer i }

-- the parts of the type of an index, as deep as d
unfoldable pub parts : List ItemEntry → (List ℕ → Option ℕ) → ℕ → ℕ → Parts
parts types first zero i = if nat_lt i 0x1000 then simple_parts i else plain (codes "<...>")
parts types first (suc d) i = if nat_lt i 0x1000 then simple_parts i else parts_of types first d (parts types first d) (says_of types i)

-- at most so many bytes, and a mark where there are more
abbrev pub cut_off : ℕ → List ℕ → List ℕ
cut_off most text = if nat_lt most (length text) then take most text ++ codes "<...>" else text

-- the name of the type of an index
unfoldable pub shown_name : List ItemEntry → (List ℕ → Option ℕ) → ℕ → List ℕ
shown_name types first i = cut_off 65536 (name_in (parts types first 64 i))
