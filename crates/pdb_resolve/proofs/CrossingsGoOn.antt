-- What leads to ids of other modules stays what the file says while more of the file is read.
use Rattle.std.proofs.Common.{◌≡◌, ℕ, List, None, Some, Option, sym, ap, ◌∙◌, subst}
use Rattle.std.specs.BTreeMap.{BTreeMap}
use Rattle.pdb.specs.Modules.{ModuleEntry}
use Rattle.pdb.specs.Source.{State, Continues}
use Rattle.pdb_resolve.specs.declared.crossings.Crossings.{Crossings}
use Rattle.pdb_resolve.specs.declared.crossings.ListedCode.{ListedCode}
use Rattle.pdb_resolve.specs.declared.module_numbers.ModuleNumbers.{ModuleNumbers}
use Rattle.pdb_resolve.specs.AcrossModules.{exports_where}
use Rattle.pdb_resolve.specs.FileParts.{module_numbered, modules_listed}
use Rattle.pdb_resolve.specs.KeptCrossings.{AreCrossingsOf, AreExportsOf, IsListOf, IsListedCode, IsNumbering, imports_where}
use Rattle.pdb_resolve.specs.NumberViews.{AreNumbersOf}

numbering_on : (a b : State) (numbers : Option ModuleNumbers) → Continues a b → IsNumbering a numbers → IsNumbering b numbers
numbering_on a b None c are = tt
numbering_on a b (Some numbers) c are = λ told. subst (λ file. AreNumbersOf (modules_listed file) numbers) (sym c.file) (are (c.told told))

pub exports_on : (a b : State) (x : BTreeMap ℕ (List (ℕ × ℕ))) → Continues a b → AreExportsOf a x → AreExportsOf b x
exports_on a b x c are = λ told k l h. are (c.told told) k l h ∙ ap (λ file. exports_where (module_numbered file k)) (sym c.file)

pub list_on : (a b : State) (ms : List ModuleEntry) → Continues a b → IsListOf a ms → IsListOf b ms
list_on a b ms c is = λ told. is (c.told told) ∙ ap modules_listed (sym c.file)

pub crossings_on : (a b : State) (x : Crossings) → Continues a b → AreCrossingsOf a x → AreCrossingsOf b x
crossings_on a b x c are = record {
  numbers = numbering_on a b x.numbers c are.numbers;
  imports = λ told k l h. are.imports (c.told told) k l h ∙ ap (λ file. imports_where (module_numbered file k)) (sym c.file);
  exports = exports_on a b x.exports c are.exports;
}

pub listed_code_on : (a b : State) (x : ListedCode) → Continues a b → IsListedCode a x → IsListedCode b x
listed_code_on a b x c is = record {
  listed = list_on a b x.listed.now c is.listed;
  numbered = λ told. ap (λ file. module_numbered file x.number) c.file ∙ is.numbered (c.told told);
}
