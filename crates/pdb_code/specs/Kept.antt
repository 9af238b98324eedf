-- Words of private functions, and what is kept of a module.
use Rattle.std.specs.Prelude.{◌≡◌, ◌<◌, ◌≤◌, ◌-◌, filter_map, get_or, length, drop, ℕ, nat_le, nat_lt, if◌then◌else◌, List, [], ◌∷◌, ◌++◌, Option, Some, None, Result, ◌==◌}
use Rattle.std.specs.List.Sorted.{IsNonDecreasingBy}
use Rattle.std.specs.Ordering.{nat_cmp}
use Rattle.std.specs.BTreeMap.{BTreeMap, get}
use Rattle.std.specs.Option.{option_to_list}
use Rattle.pdb.specs.Error.{Error}
use Rattle.pdb_records.specs.RecordReading.{further_at}
use Rattle.pdb_records.specs.RecordSays.{Says}
use Rattle.pdb.specs.PdbInternalSectionOffset.{PdbInternalSectionOffset}
use Rattle.pdb.specs.AnnotationViews.{annotation_bytes}
use Rattle.pdb.specs.Data.{Data}
use Rattle.pdb.specs.Fields.{number}
use Rattle.pdb.specs.Forms.{record_at}
use Rattle.pdb.specs.SymbolList.{Entry}
use Rattle.pdb.specs.ModuleStream.{ModuleBytes}
use Rattle.pdb.specs.Inlinees.{InlineeEntry}
use Rattle.pdb_places.specs.declared.range.CodeRange.{CodeRange}
use Rattle.pdb_code.specs.declared.role.Role.{Role as Read}
use Rattle.pdb_code.specs.declared.role.Role.TheVariants.{Procedure, Other, Site, Passed}
use Rattle.pdb_code.specs.declared.calls.InlinedCall.{InlinedCall}
use Rattle.pdb_code.specs.declared.leading.Leading.{Leading as LeadingRead}
use Rattle.pdb_code.specs.declared.site.KeptSite.{KeptSite}
use Rattle.pdb_code.specs.Listed.{entry_of}
use Rattle.pdb_places.specs.Pieces.{Code}
use Rattle.pdb_code.specs.ModuleCode.{Role, role, Call, call_of_role, symbols_in, Leading, least_in, lesser, says}
use Rattle.pdb_code.specs.ModuleCode.Role.{at_procedure, at_other, at_site, passed}

-- what a symbol is to the code
abbrev pub shown_role : Read → Role
shown_role (Procedure s) = at_procedure s.place s.length s.end.0
shown_role (Other s) = at_other s.place s.length s.end.0
shown_role (Site s) = at_site s.inlinee.0 (annotation_bytes s.annotations)
shown_role Passed = passed

-- what a site's record is to the code, whose annotations begin at a place
abbrev pub site_role : ℕ → List ℕ → Role
site_role from b = if nat_le from (length b) then at_site (number b 10 4) (drop from b) else passed

-- what a procedure's record is to the code, by the places of its numbers
abbrev pub procedure_role : List ℕ → Role
procedure_role b = at_procedure (record { offset = number b 30 4; section = number b 34 2 }) (number b 14 4) (number b 6 4)

-- a record has a byte of a name behind the numbers of a procedure, and its last byte is zero
pub record EndsInZero (b : List ℕ) : Type 0 where
  pub long : 38 ≤ length b
  pub zero : number b (length b - 1) 1 ≡ 0

abbrev pub shown_call : InlinedCall → Call
shown_call c = record { id = c.id.0; line = c.line }

module _ (q : PdbInternalSectionOffset) (listed : ℕ → Option InlineeEntry) where
  -- the calls of symbols up to the first that stands at the end of the scope or behind it
  abbrev pub calls_until : PdbInternalSectionOffset → ℕ → List Entry → List Call
  calls_until parent end [] = []
  calls_until parent end (t ∷ ts) = if nat_lt t.index end then option_to_list (call_of_role q listed parent (role (record_at t.bytes))) ++ calls_until parent end ts else []

-- a symbol that is a site
abbrev pub site_if : Entry → Role → Option Entry
site_if s (at_site id annotations) = Some s
site_if s h = None

abbrev pub site_of : Entry → Option Entry
site_of s = site_if s (role (record_at s.bytes))

-- the sites of a module
abbrev pub sites_in : ModuleBytes → List Entry
sites_in m = filter_map site_of (symbols_in m)

abbrev pub place_of : KeptSite → ℕ
place_of s = (entry_of s).index

abbrev pub AreRising : List KeptSite → Type 0
AreRising ss = IsNonDecreasingBy place_of ss

-- the first n of these sites are those at or before an index
pub record IsBehind (index : ℕ) (ss : List KeptSite) (n : ℕ) : Type 0 where
  pub inside : n ≤ length ss
  pub upto : (k : ℕ) (d : KeptSite) → k < n → place_of (get_or ss k d) ≤ index
  pub behind : (k : ℕ) (d : KeptSite) → n ≤ k → k < length ss → index < place_of (get_or ss k d)

-- a symbol of the list has the index
pub record IsListed (i : ℕ) (ss : List Entry) : Type 0 where
  pub before : List Entry
  pub symbol : Entry
  pub after : List Entry
  pub whole : ss ≡ before ++ symbol ∷ after
  pub index : symbol.index ≡ i

-- what the first symbol says
abbrev pub head_says : List Entry → Option Data
head_says [] = None
head_says (s ∷ ss) = says s

-- ---- trampolines

abbrev pub shown_leading : LeadingRead → Leading
shown_leading t = record { kind = t.kind; place = t.place; number = t.number; target = t.target }

-- the least offset of ranges in a section
abbrev pub least_among : ℕ → List CodeRange → Option ℕ
least_among section [] = None
least_among section (r ∷ rs) = if r.place.section == section then Some (lesser r.place.offset (least_among section rs)) else least_among section rs

-- what is kept of them by their sections
abbrev pub AreLeastOf : List CodeRange → BTreeMap ℕ ℕ → Type 0
AreLeastOf rs least = (s : ℕ) → get nat_cmp least s ≡ least_among s rs

abbrev pub AreLeastIn : List Code → BTreeMap ℕ ℕ → Type 0
AreLeastIn cs least = (s : ℕ) → get nat_cmp least s ≡ least_in s cs

-- what the first symbol says that is a further record
abbrev pub head_further : List Entry → Option (Result Says Error)
head_further [] = None
head_further (s ∷ ss) = Some (further_at s.bytes)
