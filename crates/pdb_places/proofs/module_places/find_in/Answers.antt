use Rattle.std.proofs.Common.{◌≡◌, ◌<◌, ℕ, List, Option, Some, None, length, get_or, map, Bor, IsSome, unwrap_or, option_copied, sym, ap, ◌∙◌, arith}
use Rattle.std.specs.Option.{option_map}
use Rattle.std.proofs.lemmas.List.{length-map}
use Rattle.pdb.specs.PdbInternalSectionOffset.{PdbInternalSectionOffset}
use Rattle.pdb.specs.DBISectionContribution.{DBISectionContribution}
use Rattle.pdb_places.specs.ModulePlaces.{module_of, module_among}
use Rattle.pdb_places.proofs.ContributionPieces.{number_found, none_among, some_among, table_halves, table_few}
use Rattle.pdb_places.proofs.module_places.find_in.Goals as goal

copied_is : (o : Option (Bor ℕ)) (n : ℕ) → IsSome o → unwrap_or (option_map (λ x. x.now) o) 0 ≡ n → option_copied o ≡ Some n
copied_is None n h e = absurd cc
copied_is (Some x) n h e = ap Some e

-- what stands in the list of modules at the number that is found is the module
picked : (q : PdbInternalSectionOffset) (cs : List DBISectionContribution) (k : ℕ) (ms : List ℕ) (o : Option (Bor ℕ)) → ms ≡ map module_of cs → number_found q 0 cs ≡ Some k → (k < length ms → IsSome o) → ((d : ℕ) → unwrap_or (option_map (λ x. x.now) o) d ≡ get_or ms k d) → option_copied o ≡ module_among q cs
picked q cs k ms o listed found there is =
    let number = some_among q 0 cs k found in
    let same : k ≡ number.place = omega (arith, number.number) in
    let counted : length ms ≡ length cs = ap (λ (l : List ℕ). length l) listed ∙ length-map cs module_of in
    copied_is o (get_or (map module_of cs) number.place 0) (there (omega (arith, number.there, counted, same))) (is 0 ∙ (ap (λ (l : List ℕ). get_or l k 0) listed ∙ ap (λ (i : ℕ). get_or (map module_of cs) i 0) same))
    ∙ sym number.finds

pub returns-in-Some-clause-found : goal.returns-in-Some-clause-found
returns-in-Some-clause-found c = λ cs table.
    let h = c.get.ensures.lookup in
    c.copied.ensures ∙ picked c.args.place cs c.in-Some.number c.deref.result.now c.get.result (c.deref.ensures.value ∙ table.modules) (sym (table.ranges.finds c.args.place) ∙ sym c.in-Some.ensures.found) h.2 (h.4 (omega arith))

pub returns-in-Some-clause-halved : goal.returns-in-Some-clause-halved
returns-in-Some-clause-halved c = λ cs table apart digits l. table_halves cs _ _ _ _ table c.find_counted.ensures.halved apart digits l

pub returns-in-Some-clause-few : goal.returns-in-Some-clause-few
returns-in-Some-clause-few c = λ cs table. omega (arith, table_few cs _ _ table, c.find_counted.ensures.few)

pub returns-in-None-clause-found : goal.returns-in-None-clause-found
returns-in-None-clause-found c = λ cs table. sym (none_among c.args.place 0 cs (sym (table.ranges.finds c.args.place) ∙ sym c.in-None.ensures.found))

pub returns-in-None-clause-halved : goal.returns-in-None-clause-halved
returns-in-None-clause-halved c = λ cs table apart digits l. table_halves cs _ _ _ _ table c.find_counted.ensures.halved apart digits l

pub returns-in-None-clause-few : goal.returns-in-None-clause-few
returns-in-None-clause-few c = λ cs table. omega (arith, table_few cs _ _ table, c.find_counted.ensures.few)
