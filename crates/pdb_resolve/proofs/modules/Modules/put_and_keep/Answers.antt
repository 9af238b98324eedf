use Rattle.std.proofs.Common.{Some, ap, sym, ◌∙◌}
use Rattle.std.specs.Prelude.{slice_index_or, None}
use Rattle.pdb_resolve.specs.KeptParts.{codes_of}
use Rattle.pdb_resolve.proofs.Kepts.{put_then, kept_then, stays_then}
use Rattle.pdb_resolve.proofs.modules.Modules.put_and_keep.Goals as goal

pub returns-clause-kept : goal.returns-clause-kept
returns-clause-kept c = λ s are none numbered.
    let p = c.put.ensures in
    let k = c.keep.ensures in
    let after = put_then s c.args.self.now are c.args.number c.put.new.self c.args.info p.listed c.put.result p.codes p.taken p.untaken none p.put p.refused numbered in
    kept_then s c.put.new.self after c.args.number c.keep.new.self c.in_ok-info.info.now k.listed c.keep.result k.streams k.rooms k.kept k.refused (λ told. numbered told ∙ ap Some (sym c.in_ok-info.ensures.is))

pub returns-clause-stays : goal.returns-clause-stays
returns-clause-stays c = λ none k m h.
    let same = c.put.ensures.codes in
    stays_then (codes_of c.put.new.self) (codes_of c.keep.new.self) c.args.number _ c.keep.result c.keep.ensures.kept c.keep.ensures.refused
    (ap (λ l. slice_index_or l c.args.number None) same ∙ none) k m (ap (λ l. slice_index_or l k None) same ∙ h)
