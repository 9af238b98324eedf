-- A record of an annotation, from its place and its strings.
use Rattle.std.proofs.Common.{◌≡◌, ℕ, ◌+◌, List, Result, Ok, Err, refl, ap}
use Rattle.pdb_base.specs.declared.error.Error.{Error}
use Rattle.pdb_base.specs.declared.index.PdbInternalSectionOffset.{PdbInternalSectionOffset}
use Rattle.pdb_base.specs.Refusal.{◌>>=◌}
use Rattle.pdb_base.specs.Layouts.{behind, together_at, times, number, cstring}
use Rattle.pdb_base.proofs.Places.{bind_ok}
use Rattle.pdb_symbols.specs.Parts.{offset_at}
use Rattle.pdb_records.specs.declared.form.RecordForm.TheVariants as form
use Rattle.pdb_records.specs.RecordParts.{counted_names_at}
use Rattle.pdb_records.specs.RecordSays.Says.{Annotation}
use Rattle.pdb_records.specs.RecordTable.{read_of_record}

abbrev counted : List ℕ → ℕ → Result (ℕ × List (List ℕ)) Error
counted b p = together_at (behind (number 2) (λ count. times count cstring)) b p

pub annotation_read : (kind : ℕ) (b c : List ℕ) (p q : ℕ) (o : PdbInternalSectionOffset) (xs : List (List ℕ)) → p ≡ 2 → offset_at b p ≡ Ok o → c ≡ b → q ≡ p + 6 → counted_names_at c q ≡ Ok xs → read_of_record form.Annotation kind b ≡ Ok (Annotation o xs)
unfolding read_of_record
annotation_read kind b c p q o xs first at same place there =
    let at_2 : offset_at b 2 ≡ Ok o = rw (← first) at in
    let at_8 : counted_names_at b 8 ≡ Ok xs = rw (place, first, same) at there in
    let (x, read, is) = bind_ok (counted b 8) (λ x. Ok x.1) xs at_8 in
    let names : x.1 ≡ xs = cc in
    rw (at_2, read) (ap (λ s. Ok (Annotation o s)) names)

fails_of : (r : Result (ℕ × List (List ℕ)) Error) (e : Error) → ◌≡◌ {A = Result (List (List ℕ)) Error} (r >>= (λ x. Ok x.1)) (Err e) → r ≡ Err e
fails_of (Ok x) e h = absurd cc
fails_of (Err d) e h = cc

pub annotation_fails : (kind : ℕ) (b c : List ℕ) (p q : ℕ) (o : PdbInternalSectionOffset) (e : Error) → p ≡ 2 → offset_at b p ≡ Ok o → c ≡ b → q ≡ p + 6 → counted_names_at c q ≡ Err e → read_of_record form.Annotation kind b ≡ Err e
unfolding read_of_record
annotation_fails kind b c p q o e first at same place there =
    let at_2 : offset_at b 2 ≡ Ok o = rw (← first) at in
    let at_8 : counted_names_at b 8 ≡ Err e = rw (place, first, same) at there in
    let read : counted b 8 ≡ Err e = fails_of (counted b 8) e at_8 in
    rw (at_2, read) refl
