use Rattle.std.proofs.Common.{sym, ap, ◌∙◌}
use Rattle.pdb.specs.Container.{stream_of}
use Rattle.pdb.specs.Answers.{debug_information_in}
use Rattle.std.specs.Prelude.{None}
use Rattle.pdb_places.specs.AsIfEmpty.{if_read}
use Rattle.pdb_resolve.specs.FileParts.{items_where, items_listed}
use Rattle.pdb_resolve.proofs.Continuing.{asked_on}
use Rattle.pdb_resolve.proofs.name_tables.NameTables.make.Goals as goal

pub returns-clause-kept : goal.returns-clause-kept
unfolding items_listed
returns-clause-kept g c =
    let first = c.ids_asked.ensures.continues in
    let second = c.types_asked.ensures.continues in
    let same = sym (second.file ∙ first.file) in
    record {
      ids = asked_on _ _ (λ file. if_read (stream_of file 4 None)) _ second c.ids_asked.ensures.asked;
      types = c.types_asked.ensures.asked;
      made = λ told. (
        c.in_ok-ids.ensures.made ∙ (ap items_where (c.in_ok-ids_asked.ensures.is (second.told told)) ∙ ap (λ file. items_where (if_read (stream_of file 4 None))) same),
        c.in_ok-types.ensures.made ∙ (ap items_where (c.in_ok-types_asked.ensures.is told) ∙ ap (λ file. items_where (if_read (stream_of file 2 None))) (sym second.file)),
      );
      information = λ told. c.requires.information (first.told (second.told told)) ∙ ap (λ file. if_read (debug_information_in file)) same;
    }
