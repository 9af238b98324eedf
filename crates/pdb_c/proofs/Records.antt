-- What rows say of records.
use Rattle.std.proofs.Common.{◌≡◌, ℕ, Result, Ok, Err, sym, ap, subst, ◌∙◌}
use Rattle.pdb.specs.Error.{Error}
use Rattle.pdb.specs.Refusal.{number_of}
use Rattle.pdb.specs.Data.{Data}
use Rattle.pdb.specs.SymbolList.{Entry}
use Rattle.pdb.specs.Forms.{kind_at, record_at}
use Rattle.pdb.specs.Scopes.{starts_of, ends_of}
use Rattle.pdb_c.specs.declared.symbols.PdbSymbol.{PdbSymbol}
use Rattle.pdb_c.specs.Symbols.{symbol_entry, SaysData, SaysNothing, SaysRecord, SaysItself, one_if}

pub says_read : (y : PdbSymbol) (s : Entry) (d : Data) → symbol_entry y ≡ s → y.kind ≡ kind_at s.bytes → y.starts_scope ≡ one_if (starts_of (kind_at s.bytes)) → y.ends_scope ≡ one_if (ends_of (kind_at s.bytes)) → y.refused ≡ 0 → record_at s.bytes ≡ Ok d → SaysData y d → SaysItself y
says_read y s d at k starts ends r read says =
    let same : y.record_bytes.now ≡ s.bytes = ap (λ (x : Entry). x.bytes) at in
    let kind = ap kind_at (sym same) in
    record {
      kind = k ∙ kind;
      starts = starts ∙ ap (λ (n : ℕ). one_if (starts_of n)) kind;
      ends = ends ∙ ap (λ (n : ℕ). one_if (ends_of n)) kind;
      says = subst (λ (x : Result Data Error). SaysRecord y x) (sym (ap record_at same ∙ read)) (r, says);
    }

pub says_refused : (y : PdbSymbol) (s : Entry) (e : Error) → symbol_entry y ≡ s → y.kind ≡ kind_at s.bytes → y.starts_scope ≡ one_if (starts_of (kind_at s.bytes)) → y.ends_scope ≡ one_if (ends_of (kind_at s.bytes)) → y.refused ≡ number_of e → SaysNothing y → record_at s.bytes ≡ Err e → SaysItself y
says_refused y s e at k starts ends r nothing read =
    let same : y.record_bytes.now ≡ s.bytes = ap (λ (x : Entry). x.bytes) at in
    let kind = ap kind_at (sym same) in
    record {
      kind = k ∙ kind;
      starts = starts ∙ ap (λ (n : ℕ). one_if (starts_of n)) kind;
      ends = ends ∙ ap (λ (n : ℕ). one_if (ends_of n)) kind;
      says = subst (λ (x : Result Data Error). SaysRecord y x) (sym (ap record_at same ∙ read)) (r, nothing);
    }
