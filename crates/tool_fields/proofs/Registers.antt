-- One more register behind those before it.
use Rattle.std.proofs.Common.{◌≡◌, ℕ, ◌+◌, ◌<◌, List, [], ◌∷◌, ◌++◌, length, get_or, take, Option, codes, refl, ap, sym, ◌∙◌, append_assoc}
use Rattle.std.proofs.lemmas.List.{take_more, map-append}
use Rattle.pdb_base.specs.declared.index.Register.{Register}
use Rattle.pdb_base.specs.declared.text.RawString.{RawString}
use Rattle.pdb_records.specs.declared.machine.Machine.{Machine}
use Rattle.pdb_symbols.specs.Data.{shown_register, shown_registers}
use Rattle.tool_fields.specs.ValueTexts.{register_text, more_registers}

append_nil : (xs : List ℕ) → xs ++ [] ≡ xs
append_nil [] = refl
append_nil (x ∷ xs) = ap (λ (ys : List ℕ). x ∷ ys) (append_nil xs)

behind : (machine : Option Machine) (rs : List (Register × List ℕ)) (r : Register × List ℕ) → more_registers machine (rs ++ r ∷ []) ≡ more_registers machine rs ++ (codes "," ++ register_text machine r)
behind machine [] r = ap (λ (ys : List ℕ). codes "," ++ ys) (append_nil (register_text machine r))
behind machine (q ∷ rs) r =
    ap (λ (ys : List ℕ). codes "," ++ (register_text machine q ++ ys)) (behind machine rs r)
    ∙ ap (λ (ys : List ℕ). codes "," ++ ys) (sym (append_assoc (register_text machine q) (more_registers machine rs) (codes "," ++ register_text machine r)))

pub registers_more : (machine : Option Machine) (rs : List (Register × RawString)) (i : ℕ) (d : Register × RawString) → i < length rs
    → more_registers machine (shown_registers (take (i + 1) rs)) ≡ more_registers machine (shown_registers (take i rs)) ++ (codes "," ++ register_text machine (shown_register (get_or rs i d)))
registers_more machine rs i d h =
    ap (λ (xs : List (Register × RawString)). more_registers machine (shown_registers xs)) (take_more rs i d h)
    ∙ ap (more_registers machine) (map-append shown_register (take i rs) (get_or rs i d ∷ []))
    ∙ behind machine (shown_registers (take i rs)) (shown_register (get_or rs i d))
