-- The calls of the list that begins at a procedure's symbol are the inlined calls at the place.
use Rattle.std.proofs.Common.{◌≡◌, ℕ, List, [], ◌∷◌, Option, Some, None, Result, Ok, Err, ◌<◌, ◌++◌, ◌==◌, Bool, true, false, cond, filter_map, map, drop, refl, sym, ap, subst, ◌∙◌, arith}
use Rattle.std.specs.Prelude.{find, IfOk}
use Rattle.std.specs.Option.{option_map, option_or}
use Rattle.std.proofs.lemmas.Bool.{eq-eqb, ne_eqb}
use Rattle.pdb.specs.Error.{Error}
use Rattle.pdb.specs.Left.{Left}
use Rattle.pdb.specs.Refusal.{◌>>=◌}
use Rattle.pdb.specs.PdbInternalSectionOffset.{PdbInternalSectionOffset}
use Rattle.pdb.specs.ModuleStream.{ModuleBytes, symbols_at_of, symbols_part_of}
use Rattle.pdb.specs.SymbolList.{Entry, symbols_from}
use Rattle.pdb_symbols.proofs.SymbolLaws.{resumes_at}
use Rattle.pdb.specs.Forms.{kind_at, record_at}
use Rattle.pdb.specs.Data.{Data}
use Rattle.pdb.specs.Data.Data.{Trampoline}
use Rattle.pdb_records.specs.RecordReading.{further_at}
use Rattle.pdb_records.specs.RecordSays.{Says}
use Rattle.pdb_records.specs.RecordSays.Says.{ManagedProcedure}
use Rattle.pdb_places.specs.Pieces.{Code, code_covers, index_of, begins_at}
use Rattle.pdb_code.specs.ModuleCode.{Role, role, other_of_role, symbols_in, inlinees_in, procedure_of, other_of, procedures_in, procedure_at, other_at, function_at, call_in, calls_in, inlined_at, says_if, says_at, further_if, further_in, is_managed, is_trampoline, managed_at, managed_of, managed_said, trampoline_at, trampoline_of, trampoline_said}
use Rattle.pdb.specs.Inlinees.{inlinee_with}
use Rattle.pdb_code.specs.ModuleCode.Role.{at_procedure, at_other, at_site, passed}
use Rattle.pdb_places.specs.AsIfEmpty.{items_of}
use Rattle.pdb_code.specs.declared.site.KeptSite.{KeptSite}
use Rattle.pdb_code.specs.Listed.{entry_of}
use Rattle.pdb_code.specs.Kept.{calls_until, sites_in, AreRising, IsBehind, IsListed, head_further, head_says}
use Rattle.pdb_code.proofs.Scopes.{Stands, stands, enough, behind_calls, rises_sites, rising, CodesRise, codes_rise, is_procedure}
use Rattle.pdb_places.proofs.RisingSymbols.{symbols_rise, Above, Rises}

pub on_ok : {X E : Type 0} (P Q : X → Type 0) → ((x : X) → P x → Q x) → (r : Result X E) → IfOk r P → IfOk r Q
on_ok P Q h (Ok x) p = h x p
on_ok P Q h (Err e) p = tt

-- ---- the symbols by their part

symbols_by : (m : ModuleBytes) (part : List ℕ) → symbols_part_of m ≡ Ok part → symbols_in m ≡ (symbols_from part 4).items
unfolding symbols_in symbols_at_of
symbols_by m part e = ap (λ (r : Result (List ℕ) Error). items_of (r >>= λ part. Ok (symbols_from part 4))) e

symbols_none : (m : ModuleBytes) (e : Error) → symbols_part_of m ≡ Err e → symbols_in m ≡ []
unfolding symbols_in symbols_at_of
symbols_none m e f = ap (λ (r : Result (List ℕ) Error). items_of (r >>= λ part. Ok (symbols_from part 4))) f

at_by : (m : ModuleBytes) (index : ℕ) (part : List ℕ) → symbols_part_of m ≡ Ok part → symbols_at_of index m ≡ Ok (symbols_from part index)
unfolding symbols_at_of
at_by m index part e = ap (λ (r : Result (List ℕ) Error). r >>= λ part. Ok (symbols_from part index)) e

at_none : (m : ModuleBytes) (index : ℕ) (e : Error) → symbols_part_of m ≡ Err e → symbols_at_of index m ≡ Err e
unfolding symbols_at_of
at_none m index e f = ap (λ (r : Result (List ℕ) Error). r >>= λ part. Ok (symbols_from part index)) f

-- ---- where no procedure is found

-- ---- the indices of a module's sites rise

rise_by : (m : ModuleBytes) (r : Result (List ℕ) Error) → symbols_part_of m ≡ r → Rises (symbols_in m)
rise_by m (Ok part) p = subst Rises (sym (symbols_by m part p)) (symbols_rise part 4)
rise_by m (Err e) p = subst Rises (sym (symbols_none m e p)) tt

kept_rise : (m : ModuleBytes) (kept : List KeptSite) → map entry_of kept ≡ sites_in m → Rises (map entry_of kept)
kept_rise m kept same = subst Rises (sym same) (rises_sites (symbols_in m) (rise_by m (symbols_part_of m) refl))

pub sites_rise : (m : ModuleBytes) (kept : List KeptSite) → map entry_of kept ≡ sites_in m → AreRising kept
sites_rise m kept same = rising kept (kept_rise m kept same)

pub procedures_rise : (m : ModuleBytes) → CodesRise (procedures_in m)
procedures_rise m = codes_rise (symbols_in m) (rise_by m (symbols_part_of m) refl)

-- ---- where one is found

pub calls_found : (q : PdbInternalSectionOffset) (m : ModuleBytes) (c : Code) (kept : List KeptSite) (n : ℕ) → map entry_of kept ≡ sites_in m → procedure_at q m ≡ Some c → IsBehind c.index kept n
    → calls_until q (inlinee_with (inlinees_in m)) c.place c.end (map entry_of (drop n kept)) ≡ inlined_at q m
calls_found q m c kept n same found behind =
    let listed = inlinee_with (inlinees_in m) in
    sym (behind_calls q listed c kept n (kept_rise m kept same) behind)
    ∙ (ap (filter_map (call_in q listed c)) same
    ∙ (sym (enough q listed c (symbols_in m))
    ∙ sym (ap (calls_in q listed (symbols_in m)) found)))

-- ---- what a symbol says that is found

index_by : (of : Entry → Option Code) (ss : List Entry) (c : Code) → ((s : Entry) (d : Code) → of s ≡ Some d → d.index ≡ s.index) → Stands of ss c → IsListed c.index ss
index_by of ss c indexed h = record { before = h.before; symbol = h.symbol; after = h.after; whole = h.whole; index = sym (indexed h.symbol c h.says) }

other_by : (s : Entry) (c : Code) (h : Role) → other_of_role s.index h ≡ Some c → c.index ≡ s.index
other_by s c (at_procedure place size end) f = absurd cc
other_by s c (at_other place size end) f = let g : record { index = s.index; place = place; length = size; end = end } ≡ c = cc in ap index_of (sym g)
other_by s c (at_site id annotations) f = absurd cc
other_by s c passed f = absurd cc

listed_by : (of : Entry → Option Code) (test : Code → Bool) (ss : List Entry) (i : ℕ) → ((s : Entry) (d : Code) → of s ≡ Some d → d.index ≡ s.index) → (o : Option Code) → find test (filter_map of ss) ≡ o → option_map index_of o ≡ Some i → IsListed i ss
listed_by of test ss i indexed None e f = absurd cc
listed_by of test ss i indexed (Some c) e f = let same : c.index ≡ i = cc in subst (λ (n : ℕ). IsListed n ss) same (index_by of ss c indexed (stands of test ss c e))

procedure_by : (test : Code → Bool) (m : ModuleBytes) (i : ℕ) → option_map index_of (find test (procedures_in m)) ≡ Some i → IsListed i (symbols_in m)
procedure_by test m i e = listed_by procedure_of test (symbols_in m) i (λ s d f. (is_procedure s d f).index) (find test (procedures_in m)) refl e

pub procedure_listed : (q : PdbInternalSectionOffset) (m : ModuleBytes) (i : ℕ) → option_map index_of (procedure_at q m) ≡ Some i → IsListed i (symbols_in m)
procedure_listed q m i e = procedure_by (code_covers q) m i e

pub begun_listed : (q : PdbInternalSectionOffset) (m : ModuleBytes) (i : ℕ) → option_map index_of (find (begins_at q) (procedures_in m)) ≡ Some i → IsListed i (symbols_in m)
begun_listed q m i e = procedure_by (begins_at q) m i e

other_listed : (q : PdbInternalSectionOffset) (m : ModuleBytes) (i : ℕ) → option_map index_of (other_at q m) ≡ Some i → IsListed i (symbols_in m)
other_listed q m i e = listed_by other_of (code_covers q) (symbols_in m) i (λ s d f. other_by s d (role (record_at s.bytes)) f) (other_at q m) refl e

-- a code that a record says has the record's index
managed_says : (i : ℕ) (c : Code) (r : Result Says Error) → managed_said i r ≡ Some c → c.index ≡ i
managed_says i c (Err e) f = absurd cc
managed_says i c (Ok (ManagedProcedure s)) f = let g : record { index = i; place = s.offset; length = s.len; end = s.end.0 } ≡ c = cc in ap index_of (sym g)
managed_says i c (Ok d) f = absurd cc

trampoline_says : (i : ℕ) (c : Code) (r : Result Data Error) → trampoline_said i r ≡ Some c → c.index ≡ i
trampoline_says i c (Err e) f = absurd cc
trampoline_says i c (Ok (Trampoline s)) f = let g : record { index = i; place = s.thunk; length = s.size; end = i } ≡ c = cc in ap index_of (sym g)
trampoline_says i c (Ok d) f = absurd cc

if_some : (b : Bool) (o : Option Code) (c : Code) → cond b o None ≡ Some c → o ≡ Some c
if_some true o c e = e
if_some false o c e = absurd cc

managed_listed : (q : PdbInternalSectionOffset) (m : ModuleBytes) (i : ℕ) → option_map index_of (managed_at q m) ≡ Some i → IsListed i (symbols_in m)
managed_listed q m i e =
    listed_by managed_of (code_covers q) (symbols_in m) i
    (λ s d f. managed_says s.index d (further_at s.bytes) (if_some (is_managed (kind_at s.bytes)) (managed_said s.index (further_at s.bytes)) d f))
    (managed_at q m) refl e

pub trampoline_listed : (q : PdbInternalSectionOffset) (m : ModuleBytes) (i : ℕ) → option_map index_of (trampoline_at q m) ≡ Some i → IsListed i (symbols_in m)
trampoline_listed q m i e =
    listed_by trampoline_of (code_covers q) (symbols_in m) i
    (λ s d f. trampoline_says s.index d (record_at s.bytes) (if_some (is_trampoline (kind_at s.bytes)) (trampoline_said s.index (record_at s.bytes)) d f))
    (trampoline_at q m) refl e

further_by : (q : PdbInternalSectionOffset) (m : ModuleBytes) (i : ℕ) (o : Option ℕ) → option_map index_of (other_at q m) ≡ o → option_or o (option_map index_of (managed_at q m)) ≡ Some i → IsListed i (symbols_in m)
further_by q m i None e f = managed_listed q m i f
further_by q m i (Some j) e f = let same : j ≡ i = cc in other_listed q m i (e ∙ ap Some same)

function_by : (q : PdbInternalSectionOffset) (m : ModuleBytes) (i : ℕ) (o : Option ℕ) → option_map index_of (procedure_at q m) ≡ o → option_or o (option_or (option_map index_of (other_at q m)) (option_map index_of (managed_at q m))) ≡ Some i → IsListed i (symbols_in m)
function_by q m i None e f = further_by q m i (option_map index_of (other_at q m)) refl f
function_by q m i (Some j) e f = let same : j ≡ i = cc in procedure_listed q m i (e ∙ ap Some same)

pub function_listed : (q : PdbInternalSectionOffset) (m : ModuleBytes) (i : ℕ) → function_at q m ≡ Some i → IsListed i (symbols_in m)
function_listed q m i e = function_by q m i (option_map index_of (procedure_at q m)) refl e

-- the symbol of an index is the first of that index, as indices rise
pub find_index : (i : ℕ) (before : List Entry) (s : Entry) (after : List Entry) → s.index ≡ i → Rises (before ++ s ∷ after) → find (λ s. s.index == i) (before ++ s ∷ after) ≡ Some s
find_index i [] s after e r = ap (λ (b : Bool). cond b (Some s) (find (λ s. s.index == i) after)) (eq-eqb s.index i e)
find_index i (x ∷ before) s after e r =
    let lower = above_there before r.0 in
    ap (λ (b : Bool). cond b (Some x) (find (λ s. s.index == i) (before ++ s ∷ after))) (ne_eqb x.index i (λ same. absurd (omega arith)))
    ∙ find_index i before s after e r.1
  where
    above_there : (xs : List Entry) → Above x.index (xs ++ s ∷ after) → x.index < s.index
    above_there [] h = h.0
    above_there (y ∷ xs) h = above_there xs h.1

-- the first symbol of the list from an index on is the one of that index
abbrev first_of : List Entry → Option Entry
first_of [] = None
first_of (s ∷ ss) = Some s

first_by : (m : ModuleBytes) (i : ℕ) (left : Left Entry) (r : Result (List ℕ) Error) → symbols_part_of m ≡ r → symbols_at_of i m ≡ Ok left → IsListed i (symbols_in m) → first_of left.items ≡ find (λ s. s.index == i) (symbols_in m)
first_by m i left (Err e) p h l = let f = at_none m i e p in absurd cc
first_by m i left (Ok part) p h l =
    let symbols : symbols_in m ≡ (symbols_from part 4).items = symbols_by m part p in
    let whole : (symbols_from part 4).items ≡ l.before ++ l.symbol ∷ l.after = sym symbols ∙ l.whole in
    let from = at_by m i part p in
    let left_is : left ≡ symbols_from part i = cc in
    let items : left.items ≡ l.symbol ∷ l.after =
    ap (λ (l : Left Entry). l.items) (left_is ∙ (ap (symbols_from part) (sym l.index) ∙ resumes_at part 4 l.before l.after l.symbol whole)) in
    let rises : Rises (l.before ++ l.symbol ∷ l.after) = subst Rises whole (symbols_rise part 4) in
    ap first_of items
    ∙ sym (ap (λ (ss : List Entry). find (λ s. s.index == i) ss) l.whole ∙ find_index i l.before l.symbol l.after l.index rises)

first_there : (m : ModuleBytes) (i : ℕ) (left : Left Entry) → symbols_at_of i m ≡ Ok left → IsListed i (symbols_in m) → first_of left.items ≡ find (λ s. s.index == i) (symbols_in m)
first_there m i left h l = first_by m i left (symbols_part_of m) refl h l

says_first : (ss : List Entry) → head_says ss ≡ says_if (first_of ss)
says_first [] = refl
says_first (s ∷ ss) = refl

pub said_there : (m : ModuleBytes) (i : ℕ) (left : Left Entry) → symbols_at_of i m ≡ Ok left → IsListed i (symbols_in m) → head_says left.items ≡ says_at m i
said_there m i left h l = says_first left.items ∙ ap says_if (first_there m i left h l)

further_first : (ss : List Entry) → head_further ss ≡ further_if (first_of ss)
further_first [] = refl
further_first (s ∷ ss) = refl

pub further_there : (m : ModuleBytes) (i : ℕ) (left : Left Entry) → symbols_at_of i m ≡ Ok left → IsListed i (symbols_in m) → head_further left.items ≡ further_in m (Some i)
further_there m i left h l = further_first left.items ∙ ap further_if (first_there m i left h l)

-- a listed symbol's list is there
not_there_by : (m : ModuleBytes) (i : ℕ) (e : Error) (r : Result (List ℕ) Error) → symbols_part_of m ≡ r → symbols_at_of i m ≡ Err e → IsListed i (symbols_in m) → ⊥
not_there_by m i e (Ok part) p h l = let f = at_by m i part p in absurd cc
not_there_by m i e (Err f) p h l = not_empty l.before l.symbol l.after (sym (symbols_none m f p) ∙ l.whole)
  where
    not_empty : (before : List Entry) (s : Entry) (after : List Entry) → [] ≡ before ++ s ∷ after → ⊥
    not_empty [] s after g = absurd cc
    not_empty (x ∷ before) s after g = absurd cc

pub not_there : (m : ModuleBytes) (i : ℕ) (e : Error) → symbols_at_of i m ≡ Err e → IsListed i (symbols_in m) → ⊥
not_there m i e h l = not_there_by m i e (symbols_part_of m) refl h l

-- ---- the list from a symbol's index on

-- it has that symbol first, and then those behind it
from_by : (m : ModuleBytes) (i : ℕ) (left : Left Entry) (r : Result (List ℕ) Error) → symbols_part_of m ≡ r → symbols_at_of i m ≡ Ok left → (l : IsListed i (symbols_in m)) → left.items ≡ l.symbol ∷ l.after
from_by m i left (Err e) p h l = let f = at_none m i e p in absurd cc
from_by m i left (Ok part) p h l =
    let symbols : symbols_in m ≡ (symbols_from part 4).items = symbols_by m part p in
    let whole : (symbols_from part 4).items ≡ l.before ++ l.symbol ∷ l.after = sym symbols ∙ l.whole in
    let from = at_by m i part p in
    let left_is : left ≡ symbols_from part i = cc in
    ap (λ (l : Left Entry). l.items) (left_is ∙ (ap (symbols_from part) (sym l.index) ∙ resumes_at part 4 l.before l.after l.symbol whole))

pub from_index : (m : ModuleBytes) (i : ℕ) (left : Left Entry) → symbols_at_of i m ≡ Ok left → (l : IsListed i (symbols_in m)) → left.items ≡ l.symbol ∷ l.after
from_index m i left h l = from_by m i left (symbols_part_of m) refl h l

pub all_rise : (m : ModuleBytes) → Rises (symbols_in m)
all_rise m = rise_by m (symbols_part_of m) refl
