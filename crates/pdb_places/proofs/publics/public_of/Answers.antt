use Rattle.std.proofs.Common.{◌≡◌, false, sym, ◌∙◌}
use Rattle.pdb.specs.Views.{symbol_of}
use Rattle.pdb.specs.Forms.{kind_at}
use Rattle.pdb_places.proofs.PublicKinds.{public_kind, other_kind}
use Rattle.pdb_places.proofs.publics.public_of.Goals as goal

pub returns-then-not-is_public : goal.returns-then-not-is_public
returns-then-not-is_public c =
    let other : public_kind (kind_at (symbol_of c.args.symbol.now).bytes) ≡ false = rw (← c.raw_kind.ensures) (sym c.is_public.ensures ∙ c.if-not-is_public.true) in
    sym (other_kind (symbol_of c.args.symbol.now).index (symbol_of c.args.symbol.now).bytes other)
