-- The lines of the most frequent symbols, by what stands at the offsets of their records, are those of what the records say.
use Rattle.std.proofs.Common.{◌≡◌, ◌≢◌, ◌≤◌, ℕ, true, false, List, [], ◌++◌, length, drop, Option, Some, None, Result, Ok, refl, ap, ◌∙◌, append_assoc, append-nil, arith, leb, nat_eq}
use Rattle.std.specs.Prelude.{codes}
use Rattle.std.specs.Fmt.{decimal}
use Rattle.pdb.specs.Error.{Error}
use Rattle.pdb.specs.Data.{Data}
use Rattle.pdb.specs.Data.Data.{InlineSite, InlineSiteEnd, Local}
use Rattle.pdb.specs.Fields.{number, number_at, cstring_at}
use Rattle.pdb.specs.Forms.{kind_at, fields_at}
use Rattle.pdb.specs.SymbolList.{Entry}
use Rattle.pdb_base.specs.Layouts.{together_at}
use Rattle.pdb_symbols.specs.Flags.{has, local_flags_of}
use Rattle.pdb_symbols.specs.FormTable.{read_of}
use Rattle.pdb_symbols.specs.Kinds.{row}
use Rattle.pdb_symbols.specs.Parts.{offset_at, name_at}
use Rattle.pdb_records.specs.RecordLists.{gaps_of}
use Rattle.pdb_records.specs.RecordReading.{further_at, further_fields_at}
use Rattle.pdb_records.specs.RecordRows.{record_row}
use Rattle.pdb_records.specs.RecordSays.{Says}
use Rattle.pdb_records.specs.RecordSays.Says.{DefRangeRegister}
use Rattle.pdb_records.specs.RecordTable.{read_of_record}
use Rattle.pdb_records.specs.declared.machine.Machine.{Machine}
use Rattle.pdb_text.specs.Digits.{hex}
use Rattle.tool_symbols.specs.CallLines.{call_end_line, call_head, call_text}
use Rattle.tool_symbols.specs.Depth.{blanks}
use Rattle.tool_fields.specs.FieldTexts.{field, label, site_fields}
use Rattle.tool_fields.specs.Flags.{local_flags}
use Rattle.tool_fields.specs.KindNames.{kind_name}
use Rattle.tool_types.specs.LineNames.{Names, call_end, typed_text}
use Rattle.tool_symbols.specs.LocalLines.{local_head, local_text}
use Rattle.tool_types.specs.QualifiedTexts.{behind_qualified}
use Rattle.tool_records.specs.RecordTexts.{ranged_fields}
use Rattle.tool_fields.specs.RecordValues.{gap_text, joined_texts}
use Rattle.tool_symbols.specs.RegisterLines.{gaps_end, maybe_head, range_tail, register_head, register_range_text, start_at}
use Rattle.tool_symbols.specs.SymbolTexts.{further_text, parsed_text, symbol_line}
use Rattle.tool_fields.specs.Values.{behind_blank, place_text}
use Rattle.tool_fields.specs.ValueTexts.{bool_text, bytes_text, kind_text, register_on}

there : (k n l : ℕ) → k ≤ n → n ≤ l → leb k l ≡ true
there k n l h e = grind arith

not_zero : (n : ℕ) → n ≢ 0 → nat_eq n 0 ≡ false
not_zero n h = grind arith

-- the line of a record of a kind
abbrev line_of : Names → Option Machine → ℕ → ℕ → ℕ → List ℕ → Result Data Error → List ℕ
line_of names machine depth index kind b r = blanks depth ++ hex 8 index ++ codes " " ++ kind_text kind ++ parsed_text names machine b r ++ codes "\n"

-- ---- local variables

abbrev local_says : ℕ → ℕ → List ℕ → Data
local_says t w name = Local (record { 0 = t }) (local_flags_of w) name

local_fields : (b name : List ℕ) → leb 6 (length b) ≡ true → leb 8 (length b) ≡ true → cstring_at b 8 ≡ Ok name → fields_at (row 0x113e) 0x113e b ≡ Ok (local_says (number b 2 4) (number b 6 2) name)
unfolding read_of number_at name_at
local_fields b name q r n = rw (q, r, n) refl

local_joined : (d x k c f l s n t e : List ℕ) → ((((d ++ x) ++ k) ++ c) ++ (((f ++ (l ++ s)) ++ n) ++ t)) ++ e ≡ d ++ ((((x ++ (k ++ c)) ++ f) ++ l) ++ (s ++ (n ++ (t ++ e))))
local_joined d x k c f l s n t e = simp append_assoc

local_put : (names : Names) (machine : Option Machine) (depth index : ℕ) (b name : List ℕ) → line_of names machine depth index 0x113e b (Ok (local_says (number b 2 4) (number b 6 2) name)) ≡ blanks depth ++ local_text names index (number b 2 4) (number b 6 2) name
unfolding kind_name field local_head local_text
local_put names machine depth index b name =
    let t = number b 2 4 in
    let w = number b 6 2 in
    local_joined (blanks depth) (hex 8 index) (codes " ") (codes "S_LOCAL") (field (codes "type_index") (hex 8 t)) (label (codes "flags")) (local_flags (local_flags_of w) w) (behind_blank name) (typed_text names (Some (record { 0 = t }))) (codes "\n")

pub local_line : (names : Names) (machine : Option Machine) (depth : ℕ) (s : Entry) (t w : ℕ) (name : List ℕ) → kind_at s.bytes ≡ 0x113e → 8 ≤ length s.bytes → t ≡ number s.bytes 2 4 → w ≡ number s.bytes 6 2 → cstring_at s.bytes 8 ≡ Ok name → symbol_line names machine depth s ≡ blanks depth ++ local_text names s.index t w name
unfolding symbol_line
local_line names machine depth s t w name e l p q n =
    let b = s.bytes in
    let line : symbol_line names machine depth s ≡ blanks depth ++ local_text names s.index (number b 2 4) (number b 6 2) name =
    ap (λ (k : ℕ). line_of names machine depth s.index k b (fields_at (row k) k b)) e
    ∙ ap (λ (r : Result Data Error). line_of names machine depth s.index 0x113e b r) (local_fields b name (there 6 8 _ (omega arith) l) (there 8 8 _ (omega arith) l) n)
    ∙ local_put names machine depth s.index b name in
    rw (p, q) line

-- ---- ranges in which a variable is in a register

abbrev range_says : List ℕ → Says
range_says b = DefRangeRegister (record { 0 = number b 2 2 }) (has (number b 4 2) 1) (record { start = start_at b; len = number b 12 2 }) (gaps_of (drop 14 b))

range_fields : (b : List ℕ) → leb 4 (length b) ≡ true → leb 6 (length b) ≡ true → leb 10 (length b) ≡ true → leb 12 (length b) ≡ true → leb 14 (length b) ≡ true → further_fields_at (record_row 0x1141) 0x1141 b ≡ Ok (range_says b)
unfolding read_of_record number_at offset_at together_at
range_fields b p q r s t = rw (p, q, r, s, t) refl

range_read : (b : List ℕ) → kind_at b ≡ 0x1141 → 14 ≤ length b → further_at b ≡ Ok (range_says b)
range_read b e l =
    ap (λ (k : ℕ). further_fields_at (record_row k) k b) e
    ∙ range_fields b (there 4 14 _ (omega arith) l) (there 6 14 _ (omega arith) l) (there 10 14 _ (omega arith) l) (there 12 14 _ (omega arith) l) (there 14 14 _ (omega arith) l)

range_joined : (d x k c l r m o p s n g e : List ℕ) → ((((d ++ x) ++ k) ++ c) ++ (((l ++ r) ++ m) ++ ((o ++ ((p ++ s) ++ n)) ++ g))) ++ e ≡ d ++ (((x ++ (k ++ c)) ++ l) ++ (r ++ ((((m ++ o) ++ p) ++ s) ++ (n ++ (g ++ e)))))
range_joined d x k c l r m o p s n g e = simp append_assoc

abbrev further_line_of : Option Machine → ℕ → ℕ → List ℕ → Result Says Error → List ℕ
further_line_of machine depth index b r = blanks depth ++ hex 8 index ++ codes " " ++ kind_text 0x1141 ++ further_text machine b r ++ codes "\n"

range_put : (machine : Option Machine) (depth index : ℕ) (b : List ℕ) → further_line_of machine depth index b (Ok (range_says b)) ≡ blanks depth ++ register_range_text machine index b
unfolding kind_name field ranged_fields register_head maybe_head gaps_end range_tail register_range_text
range_put machine depth index b =
    range_joined (blanks depth) (hex 8 index) (codes " ") (codes "S_DEFRANGE_REGISTER") (label (codes "register")) (register_on machine (record { 0 = number b 2 2 })) (field (codes "maybe") (bool_text (has (number b 4 2) 1))) (label (codes "range")) (place_text (start_at b)) (codes "+") (decimal (number b 12 2)) (field (codes "gaps") (joined_texts gap_text (gaps_of (drop 14 b)))) (codes "\n")

pub register_line : (names : Names) (machine : Option Machine) (depth : ℕ) (s : Entry) → kind_at s.bytes ≡ 0x1141 → 14 ≤ length s.bytes → symbol_line names machine depth s ≡ blanks depth ++ register_range_text machine s.index s.bytes
unfolding symbol_line
register_line names machine depth s e l =
    let b = s.bytes in
    ap (λ (k : ℕ). line_of names machine depth s.index k b (fields_at (row k) k b)) e
    ∙ ap (λ (r : Result Says Error). further_line_of machine depth s.index b r) (range_read b e l)
    ∙ range_put machine depth s.index b

-- ---- inlined calls

abbrev call_says : List ℕ → Data
call_says b = InlineSite (record { parent = Some (record { 0 = number b 2 4 }); end = record { 0 = number b 6 4 }; inlinee = record { 0 = number b 10 4 }; invocations = None; annotations = drop 14 b })

call_fields : (b : List ℕ) → leb 6 (length b) ≡ true → leb 10 (length b) ≡ true → leb 14 (length b) ≡ true → nat_eq (number b 2 4) 0 ≡ false → fields_at (row 0x114d) 0x114d b ≡ Ok (call_says b)
unfolding read_of number_at together_at
call_fields b p q r z = rw (p, q, r, z) refl

call_joined : (d x k c p q f v l t n y z : List ℕ) → ((((d ++ x) ++ k) ++ c) ++ ((((((p ++ q) ++ f) ++ v) ++ (l ++ t)) ++ n) ++ y)) ++ z ≡ d ++ (((((((x ++ (k ++ c)) ++ p) ++ q) ++ f) ++ v) ++ l) ++ (t ++ (n ++ (y ++ z))))
call_joined d x k c p q f v l t n y z = simp append_assoc

call_put : (names : Names) (machine : Option Machine) (depth index : ℕ) (b : List ℕ) → line_of names machine depth index 0x114d b (Ok (call_says b)) ≡ blanks depth ++ call_text names index b
unfolding kind_name field site_fields call_head call_end call_text
call_put names machine depth index b =
    let id = number b 10 4 in
    call_joined (blanks depth) (hex 8 index) (codes " ") (codes "S_INLINESITE") (field (codes "parent") (hex 8 (number b 2 4))) (field (codes "end") (hex 8 (number b 6 4))) (field (codes "inlinee") (hex 8 id)) (field (codes "invocations") (codes "-")) (label (codes "annotations")) (bytes_text (drop 14 b)) (behind_qualified (names.called id)) (typed_text names (names.called_type id)) (codes "\n")

pub call_line : (names : Names) (machine : Option Machine) (depth : ℕ) (s : Entry) → kind_at s.bytes ≡ 0x114d → 14 ≤ length s.bytes → number s.bytes 2 4 ≢ 0 → symbol_line names machine depth s ≡ blanks depth ++ call_text names s.index s.bytes
unfolding symbol_line
call_line names machine depth s e l z =
    let b = s.bytes in
    ap (λ (k : ℕ). line_of names machine depth s.index k b (fields_at (row k) k b)) e
    ∙ ap (λ (r : Result Data Error). line_of names machine depth s.index 0x114d b r) (call_fields b (there 6 14 _ (omega arith) l) (there 10 14 _ (omega arith) l) (there 14 14 _ (omega arith) l) (not_zero _ z))
    ∙ call_put names machine depth s.index b

-- ---- ends of inlined calls

call_end_joined : (d x k c e : List ℕ) → ((((d ++ x) ++ k) ++ c) ++ []) ++ e ≡ d ++ (x ++ (k ++ (c ++ e)))
call_end_joined d x k c e = simp (append_assoc, append-nil)

call_end_put : (names : Names) (machine : Option Machine) (depth index : ℕ) (b : List ℕ) → line_of names machine depth index 0x114e b (Ok InlineSiteEnd) ≡ blanks depth ++ call_end_line index
unfolding kind_name call_end_line typed_text
call_end_put names machine depth index b = call_end_joined (blanks depth) (hex 8 index) (codes " ") (codes "S_INLINESITE_END") (codes "\n")

call_end_fields : (b : List ℕ) → fields_at (row 0x114e) 0x114e b ≡ Ok InlineSiteEnd
unfolding read_of
call_end_fields b = refl

pub end_of_call_line : (names : Names) (machine : Option Machine) (depth : ℕ) (s : Entry) → kind_at s.bytes ≡ 0x114e → symbol_line names machine depth s ≡ blanks depth ++ call_end_line s.index
unfolding symbol_line
end_of_call_line names machine depth s e =
    let b = s.bytes in
    ap (λ (k : ℕ). line_of names machine depth s.index k b (fields_at (row k) k b)) e
    ∙ ap (λ (r : Result Data Error). line_of names machine depth s.index 0x114e b r) (call_end_fields b)
    ∙ call_end_put names machine depth s.index b
