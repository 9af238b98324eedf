use Rattle.std.proofs.Common.{◌≡◌, ◌++◌, ◌∷◌, [], List, ℕ, map, sym, ap, subst, ◌∙◌}
use Rattle.std.specs.Prelude.{OnOk}
use Rattle.pdb.specs.PdbInternalSectionOffset.{PdbInternalSectionOffset}
use Rattle.pdb.specs.Views.{symbol_of}
use Rattle.pdb_places.specs.PublicPlaces.{IsPublicAt}
use Rattle.pdb_places.specs.PublicTable.{place_parts}
use Rattle.pdb_places.proofs.PublicPlaces.{one_listed}
use Rattle.pdb_places.proofs.public_table.add.Goals as goal

pub returns-in-Some-clause-added : goal.returns-in-Some-clause-added
returns-in-Some-clause-added c =
    let s = symbol_of c.args.symbol.now in
    let at = subst (λ (b : List ℕ). IsPublicAt b c.in-Some.place) c.raw_bytes.ensures c.in-Some.ensures in
    let one = ap (λ (i : ℕ). (i, c.in-Some.place) ∷ []) c.index.ensures ∙ sym (one_listed s c.in-Some.place at) in
    subst (λ (zs : List (ℕ × PdbInternalSectionOffset)). OnOk c.push.result (map place_parts c.push.new.rows.items ≡ map place_parts c.args.rows.now.items ++ zs)) one c.push.ensures.pushed
