use Rattle.std.proofs.Common.{◌≡◌, true, sym, ap, ◌∙◌, arith}
use Rattle.std.specs.Prelude.{option_copied}
use Rattle.pdb.specs.Answers.{address_map_in, debug_information_in}
use Rattle.pdb_places.specs.AsIfEmpty.{if_read}
use Rattle.pdb_resolve.proofs.Continuing.{unasked_is}
use Rattle.pdb_resolve.proofs.resolver.Resolver.new.Goals as goal

-- what is kept of a file of which nothing more was asked for
pub invariant_of-result-2 : goal.invariant_of-result-2
invariant_of-result-2 g c =
    let s = c.address_map_of.new.pdb in
    let first = c.information_of.ensures.continues in
    let second = c.address_map_of.ensures.continues in
    let information : s.told ≡ true → option_copied c.in_ok-information.information ≡ if_read (debug_information_in s.file) =
    λ told. c.in_ok-information.ensures.is (second.told told) ∙ ap (λ file. if_read (debug_information_in file)) (sym (second.file ∙ first.file)) in
    rw c.in_ok-new.ensures.ok (
      λ told. c.places.view_is ∙ (c.in_ok-places.ensures.is ∙ (c.in_ok-address_map_of.ensures.is told ∙ ap (λ file. if_read (address_map_in file)) (sym second.file))),
      record {
        module_places = λ told. ap (λ m. m.stream) c.new-module_places.ensures ∙ information told;
        modules = c.in_ok-modules.ensures.modules s information;
        tables = record {
          strings = unasked_is _ _ c.unasked.result c.unasked.ensures.unasked (omega (arith, c.unasked.ensures.rooms, c.from_mut.ensures.len));
          names = record {
            ids = unasked_is _ _ c.unasked-2.result c.unasked-2.ensures.unasked (omega (arith, c.unasked-2.ensures.rooms, c.from_mut-2.ensures.len));
            types = unasked_is _ _ c.unasked-3.result c.unasked-3.ensures.unasked (omega (arith, c.unasked-3.ensures.rooms, c.from_mut-3.ensures.len));
            made = tt;
            information = information;
          };
          crossings = c.new-2.ensures s;
          globals = record {
            globals = unasked_is _ _ c.unasked-4.result c.unasked-4.ensures.unasked (omega (arith, c.unasked-4.ensures.rooms, c.from_mut-4.ensures.len));
            publics = tt;
          };
        };
      },
    )
