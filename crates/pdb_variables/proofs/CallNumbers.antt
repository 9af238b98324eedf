-- The inlined calls at a place are those of the function's records.
use Rattle.std.proofs.Common.{◌≡◌, ℕ, ◌≤◌, ◌&&◌, Bool, true, cond, List, [], ◌∷◌, ◌++◌, Option, Some, None, Result, Ok, Err, refl, sym, ap, subst, ◌∙◌, arith}
use Rattle.std.specs.Prelude.{nat_lt, filter_map}
use Rattle.std.specs.Option.{option_map, option_or}
use Rattle.std.proofs.lemmas.Bool.{le-ltb}
use Rattle.pdb.specs.Data.{Data}
use Rattle.pdb.specs.Data.Data.{Procedure, Thunk, SeparatedCode, InlineSite}
use Rattle.pdb.specs.Error.{Error}
use Rattle.pdb.specs.Forms.{kind_at, record_at}
use Rattle.pdb.specs.Inlinees.{InlineeEntry, inlinee_with}
use Rattle.pdb.specs.ModuleStream.{ModuleBytes}
use Rattle.pdb.specs.PdbInternalSectionOffset.{PdbInternalSectionOffset}
use Rattle.pdb.specs.Scopes.{starts_of}
use Rattle.pdb.specs.SymbolList.{Entry}
use Rattle.pdb_symbols.proofs.Clauses.{record_starts}
use Rattle.pdb_code.specs.ModuleCode.{Call, call_in, call_of_role, calls_in, function_at, managed_at, inlined_at, inlinees_in, other_at, procedure_at, procedure_of, role, symbols_in}
use Rattle.pdb_places.specs.Pieces.{Code, code_covers, index_of}
use Rattle.pdb_code.specs.ModuleCode.Role.{at_procedure}
use Rattle.pdb_variables.specs.Variables.{call_of_site, records_at, records_behind, records_if}
use Rattle.pdb_variables.proofs.RecordsBehind.{above_there, behind_first}
use Rattle.pdb_places.proofs.RisingSymbols.{Rises}
use Rattle.pdb_code.proofs.Scopes.{is_procedure, stands}
use Rattle.pdb_code.proofs.SiteCalls.{all_rise}

-- a procedure's record starts a scope
starts_by : (b : List ℕ) (r : Result Data Error) (place : PdbInternalSectionOffset) (size end : ℕ) → record_at b ≡ r → role r ≡ at_procedure place size end → starts_of (kind_at b) ≡ true
starts_by b (Err e) place size end f h = absurd cc
starts_by b (Ok (Procedure s)) place size end f h = record_starts b (Procedure s) f tt
starts_by b (Ok (Thunk s)) place size end f h = absurd cc
starts_by b (Ok (SeparatedCode s)) place size end f h = absurd cc
starts_by b (Ok (InlineSite s)) place size end f h = absurd cc
starts_by b (Ok d) place size end f h = absurd cc

module _ (q : PdbInternalSectionOffset) (listed : ℕ → Option InlineeEntry) (c : Code) where
  -- a record at or before the procedure's has no call
  no_call : (t : Entry) (ts : List Entry) → t.index ≤ c.index → filter_map (call_in q listed c) (t ∷ ts) ≡ filter_map (call_in q listed c) ts
  no_call t ts l =
      let e : call_in q listed c t ≡ None = ap (λ (b : Bool). cond (b && nat_lt t.index c.end) (call_of_role q listed c.place (role (record_at t.bytes))) None) (le-ltb c.index t.index l) in
      rw e refl

  calls_behind_it : (before : List Entry) (s : Entry) (after : List Entry) → s.index ≡ c.index → Rises (before ++ s ∷ after) → filter_map (call_in q listed c) (before ++ s ∷ after) ≡ filter_map (call_in q listed c) after
  calls_behind_it [] s after e r = no_call s after (omega (arith, e))
  calls_behind_it (x ∷ before) s after e r =
      let lower = above_there x.index before s after r.0 in
      no_call x (before ++ s ∷ after) (omega (arith, lower, e)) ∙ calls_behind_it before s after e r.1

-- without a procedure there is none
none_of : (q : PdbInternalSectionOffset) (listed : ℕ → Option InlineeEntry) (ts : List Entry) → [] ≡ filter_map (call_of_site q listed None) ts
none_of q listed [] = refl
none_of q listed (t ∷ ts) = none_of q listed ts

module _ (q : PdbInternalSectionOffset) (m : ModuleBytes) where
  abbrev listed : ℕ → Option InlineeEntry
  listed = inlinee_with (inlinees_in m)

  abbrev among : Option Code → List Entry → List Call
  among o ts = filter_map (call_of_site q listed o) ts

  of_procedure : (c : Code) → procedure_at q m ≡ Some c → filter_map (call_in q listed c) (symbols_in m) ≡ filter_map (call_in q listed c) (records_behind c.index (symbols_in m))
  of_procedure c e =
      let h = stands procedure_of (code_covers q) (symbols_in m) c e in
      let p = is_procedure h.symbol c h.says in
      let rises : Rises (h.before ++ h.symbol ∷ h.after) = subst Rises h.whole (all_rise m) in
      let starts : starts_of (kind_at h.symbol.bytes) ≡ true = starts_by h.symbol.bytes (record_at h.symbol.bytes) c.place c.length c.end refl p.is in
      let behind : records_behind c.index (symbols_in m) ≡ h.after =
      ap (records_behind c.index) h.whole
      ∙ (behind_first c.index h.before h.symbol h.after (sym p.index) rises
      ∙ ap (λ (b : Bool). cond b h.after []) starts) in
      ap (filter_map (call_in q listed c)) h.whole
      ∙ (calls_behind_it q listed c h.before h.symbol h.after (sym p.index) rises
      ∙ sym (ap (filter_map (call_in q listed c)) behind))

  calls_by : (o : Option Code) → procedure_at q m ≡ o → inlined_at q m ≡ among (procedure_at q m) (records_at q m)
  calls_by None e =
      ap (calls_in q listed (symbols_in m)) e
      ∙ (none_of q listed (records_at q m)
      ∙ sym (ap (λ (o : Option Code). among o (records_at q m)) e))
  calls_by (Some c) e =
      let function : function_at q m ≡ Some c.index = ap (λ (o : Option Code). option_or (option_map index_of o) (option_or (option_map index_of (other_at q m)) (option_map index_of (managed_at q m)))) e in
      ap (calls_in q listed (symbols_in m)) e
      ∙ (of_procedure c e
      ∙ (sym (ap (λ (o : Option ℕ). among (Some c) (records_if o (symbols_in m))) function)
      ∙ sym (ap (λ (o : Option Code). among o (records_at q m)) e)))

  pub calls_numbered : inlined_at q m ≡ among (procedure_at q m) (records_at q m)
  calls_numbered = calls_by (procedure_at q m) refl
