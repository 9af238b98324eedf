-- The variables among the records of the function at a place are those at the place.
use Rattle.std.proofs.Common.{◌≡◌, ℕ, [], Option, Some, None, sym, ap, ◌∙◌}
use Rattle.pdb.specs.Inlinees.{InlineeEntry, inlinee_with}
use Rattle.pdb.specs.ModuleStream.{ModuleBytes}
use Rattle.pdb.specs.PdbInternalSectionOffset.{PdbInternalSectionOffset}
use Rattle.pdb_places.specs.Pieces.{Code}
use Rattle.pdb_code.specs.ModuleCode.{function_at, inlinees_in, procedure_at, symbols_in}
use Rattle.pdb_variables.specs.Variables.{records_behind, records_if, variables_among, variables_at}

pub none_found : (q : PdbInternalSectionOffset) (m : ModuleBytes) → function_at q m ≡ None → [] ≡ variables_at q m
unfolding variables_at
none_found q m e = ap (λ (o : Option ℕ). variables_among q (inlinee_with (inlinees_in m)) (procedure_at q m) (records_if o (symbols_in m))) (sym e)

pub those_found : (q : PdbInternalSectionOffset) (m : ModuleBytes) (i : ℕ) (listed : ℕ → Option InlineeEntry) (procedure : Option Code) → Some i ≡ function_at q m → listed ≡ inlinee_with (inlinees_in m) → procedure ≡ procedure_at q m
    → variables_among q listed procedure (records_behind i (symbols_in m)) ≡ variables_at q m
unfolding variables_at
those_found q m i listed procedure e known is =
    ap (λ (f : ℕ → Option InlineeEntry). variables_among q f procedure (records_behind i (symbols_in m))) known
    ∙ (ap (λ (p : Option Code). variables_among q (inlinee_with (inlinees_in m)) p (records_behind i (symbols_in m))) is
    ∙ ap (λ (o : Option ℕ). variables_among q (inlinee_with (inlinees_in m)) (procedure_at q m) (records_if o (symbols_in m))) e)
