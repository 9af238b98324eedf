use Rattle.pdb_base.proofs.Tilings.{is_listing, only_listing}
use Rattle.pdb_symbols.specs.Annotations.{annotations}
use Rattle.pdb_symbols.proofs.AnnotationSteps.{annotations_inside}
use Rattle.pdb_symbols.proofs.laws.one_list_of_annotations.Goals as goal

pub returns : goal.returns
returns c = record {
  is = λ b. is_listing annotations annotations_inside b 0;
  only = λ b left h. only_listing annotations annotations_inside b 0 left h;
}
