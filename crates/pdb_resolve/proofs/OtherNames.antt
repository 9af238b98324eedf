-- What names a place at which no function is.
use Rattle.std.proofs.Common.{◌≡◌, ℕ, List, Option, Some, None, refl, sym, ap, subst, ◌∙◌}
use Rattle.std.specs.Option.{option_map}
use Rattle.pdb.specs.PdbInternalSectionOffset.{PdbInternalSectionOffset}
use Rattle.pdb.specs.ModuleStream.{ModuleBytes}
use Rattle.pdb.specs.Qualified.{Qualified}
use Rattle.pdb_code.specs.declared.function_names.FunctionName.{FunctionName}
use Rattle.pdb_resolve.specs.declared.modules.Modules.{Modules}
use Rattle.pdb_code.specs.Namings.{plain, IsNamed, IsNameOf, name_shown, shown_function_name}
use Rattle.pdb_places.specs.PublicNames.{NamedPlace}
use Rattle.pdb_code.specs.declared.function_names.Naming.{Naming}
use Rattle.pdb_resolve.specs.KeptParts.{code_kept, code_where}
use Rattle.pdb_code.specs.ModuleCode.{Leading}
use Rattle.pdb_resolve.specs.Resolved.{leading_where, named_by_public, public_named}

-- a name that isn't qualified has these bytes
pub bytes_of_name : (n : Option FunctionName) (x : Option (List ℕ)) → IsNameOf n x → option_map name_shown n ≡ x
bytes_of_name None None e = refl
bytes_of_name None (Some x) e = absurd cc
bytes_of_name (Some n) None e = absurd cc
bytes_of_name (Some n) (Some x) e = let same : shown_function_name n ≡ plain x = cc in ap (λ (q : Qualified). Some q.name) same

-- the module of a trampoline is read, and stays
pub still_where : (old new : Modules) (number : Option ℕ) (q : PdbInternalSectionOffset) (t : Leading) → leading_where q (code_where old number) ≡ Some t
    → ((k : ℕ) (m : ModuleBytes) → code_kept old k ≡ Some m → code_kept new k ≡ Some m) → code_where new number ≡ code_where old number
still_where old new None q t e stays = refl
still_where old new (Some k) q t e stays = by (code_kept old k) refl
  where
    by : (o : Option ModuleBytes) → code_kept old k ≡ o → code_kept new k ≡ code_kept old k
    by None f = let none = sym (ap (leading_where q) f) ∙ e in absurd cc
    by (Some m) f = stays k m f ∙ sym f

-- a public symbol that counts names a place
pub public_names : (file : List ℕ) (o : Option NamedPlace) (p : NamedPlace) (n : Naming) → o ≡ Some p → IsNamed n (public_named file p) → IsNamed n (named_by_public file o)
public_names file o p n there is = subst (IsNamed n) (sym (ap (named_by_public file) there)) is
