-- The turns of the loop over the modules of imports.
use Rattle.std.proofs.Common.{◌≡◌, ℕ, ◌+◌, ◌*◌, ◌<◌, ◌≤◌, List, [], ◌∷◌, ◌++◌, map, length, drop, length-take, Ok, Err, Result, refl, sym, ap, subst, ◌∙◌, arith, append_assoc}
use Rattle.std.proofs.lemmas.List.{append-nil}
use Rattle.pdb_base.specs.declared.error.Error.{Error}
use Rattle.pdb_base.specs.Cursor.{Cursor, Reads}
use Rattle.pdb_base.specs.Fields.{number_at, bytes_at}
use Rattle.pdb_base.specs.Left.{Follows}
use Rattle.pdb_base.specs.Refusal.{Fails, ◌>>=◌}
use Rattle.pdb_base.proofs.Places.{bind_ok, slice_is}
use Rattle.pdb_base.proofs.Readings.{ReadsInside}
use Rattle.pdb_modules.specs.declared.imports.Imported.{Imported}
use Rattle.pdb_modules.specs.CrossModule.{ImportedModule, imported_at, imported_length, imported_from, imports_in}
use Rattle.pdb_modules.specs.ImportViews.{module_of}
use Rattle.pdb_modules.specs.Subsections.{all_or_fault}
use Rattle.pdb_modules.proofs.Refusals.{NotIo, not_io_then, number_not_io, bytes_not_io, fails_with}
use Rattle.pdb_modules.proofs.Turns.{turn_follows, turn_fault, turn_end}

abbrev made : ℕ → List ℕ → Result ImportedModule Error
made name bytes = Ok (record { name = name; bytes = bytes })

abbrev counted : List ℕ → ℕ → ℕ → ℕ → Result ImportedModule Error
counted b p name count = bytes_at b (p + 8) (4 * count) >>= made name

abbrev named : List ℕ → ℕ → ℕ → Result ImportedModule Error
named b p name = number_at b (p + 4) 4 >>= counted b p name

imported_ends : (b : List ℕ) (p : ℕ) (x : ImportedModule) → imported_at b p ≡ Ok x → p + (8 + length x.bytes) ≤ length b
unfolding imported_at
imported_ends b p x e =
    let (name, e1, rest1) = bind_ok (number_at b p 4) (named b p) x e in
    let (count, e2, rest2) = bind_ok (number_at b (p + 4) 4) (counted b p name) x rest1 in
    let (bytes, e3, rest3) = bind_ok (bytes_at b (p + 8) (4 * count)) (made name) x rest2 in
    let slice = slice_is b (p + 8) (4 * count) bytes e3 in
    let is : bytes ≡ x.bytes = cc in
    omega (arith, ap length is, slice.there, ap length slice.value, length-take (4 * count) (drop (p + 8) b))

pub imported_within : ReadsInside imported_at imported_length
imported_within = record { inside = λ b p x e. let ends = imported_ends b p x e in (omega arith, omega (arith, ends)) }

imported_not_io : (b : List ℕ) (p : ℕ) → NotIo (imported_at b p)
unfolding imported_at
imported_not_io b p =
    not_io_then (number_at b p 4) (named b p) (number_not_io b p 4) (λ name.
    not_io_then (number_at b (p + 4) 4) (counted b p name) (number_not_io b (p + 4) 4) (λ count.
    not_io_then (bytes_at b (p + 8) (4 * count)) (made name) (bytes_not_io b (p + 8) (4 * count)) (λ bytes. tt)))

module _ (b : List ℕ) where
  -- the modules before a place are listed
  pub record IsImporting (place : ℕ) (modules : List Imported) : Type 0 where
    pub joined : map module_of modules ++ (imported_from b place).items ≡ (imported_from b 0).items
    pub told : (imported_from b place).fault ≡ (imported_from b 0).fault

  pub importing_begins : IsImporting 0 []
  importing_begins = record { joined = refl; told = refl }

  module _ (old new : Cursor) (same : old.bytes ≡ b) (modules : List Imported) (importing : IsImporting old.place modules) where
    module _ (x : Imported) (reads : Reads module_of old new (Ok x) (imported_at old.bytes old.place) (imported_length old.place)) where
      followed : Follows (imported_from b old.place) (module_of x ∷ []) (imported_from b new.place)
      unfolding imported_from
      followed = turn_follows imported_at imported_length imported_within module_of b old new same x reads

      pub imported_next : (next : List Imported) → map module_of next ≡ map module_of modules ++ module_of x ∷ [] → IsImporting new.place next
      imported_next next pushed = record {
        joined =
            ap (λ (ms : List ImportedModule). ms ++ (imported_from b new.place).items) pushed
            ∙ (append_assoc (map module_of modules) (module_of x ∷ []) (imported_from b new.place).items
            ∙ (ap (λ (ms : List ImportedModule). map module_of modules ++ ms) (sym followed.0) ∙ importing.joined));
        told = sym followed.1 ∙ importing.told;
      }

    refused : (e : Error) → old.place < length b → Reads module_of old new (Err e) (imported_at old.bytes old.place) (imported_length old.place) → imports_in b ≡ Err e
    unfolding imports_in imported_from
    refused e h reads =
        let ends = turn_fault imported_at imported_length imported_within module_of b old new same e h reads in
        ap (all_or_fault (imported_from b 0).items) (sym importing.told ∙ ends.1)

    pub imports_refused : (e : Error) → old.place < length b → Reads module_of old new (Err e) (imported_at old.bytes old.place) (imported_length old.place) → Fails ⊥ e (imports_in b)
    imports_refused e h reads =
        fails_with e (imports_in b) (subst (λ (r : Result ImportedModule Error). NotIo r) reads.0 (imported_not_io old.bytes old.place)) (refused e h reads)

    pub imports_whole : length b ≤ old.place → imports_in b ≡ Ok (map module_of modules)
    unfolding imports_in imported_from
    imports_whole h =
        let ends = turn_end imported_at imported_length imported_within module_of b old new same h in
        ap (all_or_fault (imported_from b 0).items) (sym importing.told ∙ ends.1)
        ∙ ap (λ (ms : List ImportedModule). Ok ms) (sym importing.joined ∙ (ap (λ (ms : List ImportedModule). map module_of modules ++ ms) ends.0 ∙ append-nil (map module_of modules)))
