-- What a symbol is to the code of inlined functions and their sites.
use Rattle.pdb.specs.AnnotationViews.{annotation_bytes}
use Rattle.pdb_list.specs.declared.inlinees.Here.{Here as Read}
use Rattle.pdb_list.specs.declared.inlinees.Here.TheVariants.{Procedure, Site, Passed}
use Rattle.pdb_list.specs.ModuleTexts.{Here}
use Rattle.pdb_list.specs.ModuleTexts.Here.{at_procedure, at_site, passed}

abbrev pub shown_here : Read → Here
shown_here (Procedure offset) = at_procedure offset
shown_here (Site s) = at_site s.inlinee.0 (annotation_bytes s.annotations)
shown_here Passed = passed
