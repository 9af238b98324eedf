use Rattle.std.proofs.Common.{◌∙◌, arith, ap, sym}
use Rattle.pdb_items.specs.IdForms.{type_index_of}
use Rattle.pdb_items.proofs.Counted.{listed_count, listed_at}
use Rattle.pdb_types.proofs.records.ArgumentList.get.Goals as goal

pub returns-then-k-self : goal.returns-then-k-self
returns-then-k-self c =
    let bytes = c.args.self.now.arguments.now in (
      omega (arith, c.if-k-self.true, listed_count type_index_of bytes),
      ap type_index_of c.u32_at.ensures ∙ sym (listed_at type_index_of bytes c.args.k (type_index_of 0) c.if-k-self.true),
    )

pub returns-else-k-self : goal.returns-else-k-self
returns-else-k-self c = λ h. omega (arith, h, c.if-k-self.false, listed_count type_index_of c.args.self.now.arguments.now)
