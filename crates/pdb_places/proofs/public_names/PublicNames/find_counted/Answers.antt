use Rattle.std.proofs.Common.{◌≡◌, ℕ, List, Option, None, sym, ap, ◌∙◌}
use Rattle.std.specs.Option.{option_map}
use Rattle.pdb.specs.PdbInternalSectionOffset.{PdbInternalSectionOffset}
use Rattle.pdb_places.specs.AskedStream.{AskedStream}
use Rattle.pdb_places.specs.PublicNames.{publics_in, public_at}
use Rattle.pdb_places.proofs.public_names.PublicNames.find_counted.Goals as goal

without_stream : (q : PdbInternalSectionOffset) (s : Option (List ℕ)) → s ≡ None → public_at q s ≡ None
unfolding publics_in
without_stream q s e = ap (public_at q) e

pub returns-in-None-clause-found : goal.returns-in-None-clause-found
returns-in-None-clause-found c =
    let e : c.args.self.now.stream ≡ None = sym (ap (λ (s : AskedStream). s.stream) c.self.view_is) ∙ ap (option_map (λ s. s.now)) c.in-None.is in
    sym (without_stream c.args.place c.args.self.now.stream e)
