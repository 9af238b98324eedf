-- Words of private functions: the procedures and the sites of a module as they are kept.
use Rattle.std.specs.Prelude.{◌≡◌, ℕ, ◌<◌, ◌^◌, ◌||◌, ◌==◌, Bool, true, nat_lt, List, Option, None, find}
use Rattle.std.specs.List.{All}
use Rattle.std.specs.List.Sorted.{IsNonDecreasingBy}
use Rattle.pdb.specs.PdbInternalSectionOffset.{PdbInternalSectionOffset}
use Rattle.pdb.specs.Forms.{record_at}
use Rattle.pdb.specs.Inlinees.{InlineeEntry}
use Rattle.pdb.specs.LineInfo.{LineInfo}
use Rattle.pdb.specs.SymbolList.{Entry}
use Rattle.pdb.specs.Views.{symbol_of}
use Rattle.pdb_code.specs.declared.procedures.ListedProcedure.{ListedProcedure}
use Rattle.pdb_code.specs.declared.site.Extent.{Extent}
use Rattle.pdb_code.specs.declared.site.KeptSite.{KeptSite}
use Rattle.pdb_places.specs.Pieces.{Code}
use Rattle.pdb_code.specs.ModuleCode.{role, call_of_role, first_line}

-- ---- procedures

abbrev pub shown_procedure : ListedProcedure → Code
shown_procedure p = record { index = p.index; place = p.place; length = p.length; end = p.end }

abbrev pub number_of : ListedProcedure → ℕ
number_of p = p.index

abbrev pub AreNumbersRising : List ListedProcedure → Type 0
AreNumbersRising ps = IsNonDecreasingBy number_of ps

-- the procedure whose symbol has an index
abbrev pub listed_with : List ListedProcedure → ℕ → Option ListedProcedure
listed_with ps i = find (λ p. p.index == i) ps

-- ---- what sites cover

-- an offset is before the first or behind the last
abbrev pub outside : PdbInternalSectionOffset → Extent → Bool
outside q e = nat_lt q.offset e.first || nat_lt e.last q.offset

-- no line of these covers an offset outside
pub record HasNoneOutside (rs : List LineInfo) (e : Extent) : Type 0 where
  pub none : (q : PdbInternalSectionOffset) → q.offset < 2 ^ 32 → outside q e ≡ true → first_line q rs ≡ None

-- a site's symbol
abbrev pub entry_of : KeptSite → Entry
entry_of s = symbol_of s.symbol

-- in the procedure that begins at its parent a site has no call outside
pub record Bounds (listed : ℕ → Option InlineeEntry) (s : KeptSite) : Type 0 where
  pub none : (q : PdbInternalSectionOffset) → q.offset < 2 ^ 32 → outside q s.extent ≡ true → call_of_role q listed s.parent (role (record_at (entry_of s).bytes)) ≡ None

abbrev pub AreBounded : (ℕ → Option InlineeEntry) → List KeptSite → Type 0
AreBounded listed ss = All (Bounds listed) ss

-- whatever functions are listed
pub record IsBounded (s : KeptSite) : Type 0 where
  pub bounds : (listed : ℕ → Option InlineeEntry) → Bounds listed s
