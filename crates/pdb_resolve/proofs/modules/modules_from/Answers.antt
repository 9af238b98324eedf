use Rattle.std.proofs.Common.{◌≡◌, map, length, ap, ◌∙◌, arith}
use Rattle.std.specs.Prelude.{option_copied}
use Rattle.pdb_resolve.specs.FileParts.{modules_where, modules_listed}
use Rattle.pdb_resolve.proofs.Kepts.{none_kept, none_many, none_there, none_unkept}
use Rattle.pdb_resolve.proofs.modules.modules_from.Goals as goal

pub returns-clause-modules : goal.returns-clause-modules
unfolding modules_listed
returns-clause-modules c = λ s h.
    let many : c.len.result ≡ length c.in_ok-listed.listed.items = omega (arith, c.len.ensures, c.in_ok-listed.listed.ok.0) in
    let more : c.len-2.result ≡ length c.in_ok-listed.listed.items = omega (arith, c.len-2.ensures, c.in_ok-listed.listed.ok.0) in
    let streams = ap (map option_copied) c.in_ok-infos.ensures.none ∙ none_there c.len-2.result in
    record {
      listed = λ told. c.in_ok-listed.ensures.listed ∙ ap modules_where (h told);
      codes = λ told k m e. absurd (none_kept _ _ k m c.in_ok-codes.ensures.unread e);
      streams = λ told k m e. absurd (none_kept _ _ k m streams e);
      as_many = none_many _ _ c.in_ok-codes.ensures.unread ∙ many;
      as_many_streams = none_many _ _ streams ∙ more;
      rooms = let wanted = none_unkept _ _ streams in let room = c.in_ok-rooms.ensures.many in omega (arith, wanted, room, more, c.len-2.ensures, c.len-3.ensures);
    }
