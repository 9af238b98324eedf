-- Words, one command after another.
use Rattle.std.proofs.Common.{◌≡◌, ℕ, zero, suc, ◌+◌, ◌-◌, ◌<◌, ◌≤◌, List, [], ◌∷◌, ◌++◌, length, codes, None, Result, Ok, Err, true, false, refl, sym, ap, ◌∙◌, append_assoc, arith, length-append, nat_lt}
use Rattle.std.specs.Str.{bytes_eq}
use Rattle.std.proofs.lemmas.Bool.Decides.{nat_tests}
use Rattle.std.proofs.lemmas.Slice.Eq.{bytes_eq-Decides}
use Rattle.pdb_list.specs.declared.command.Command.{Command}
use Rattle.pdb_list.specs.Words.{plain_command, command_at, commands_from, behind, spelled}

differs : (xs ys : List ℕ) → (xs ≡ ys → ⊥) → bytes_eq xs ys ≡ false
differs xs ys h = let d = bytes_eq-Decides xs ys in grind arith

-- the word is no command's
pub no_command : (w : List ℕ) → (w ≡ codes "info" → ⊥) → (w ≡ codes "names" → ⊥) → (w ≡ codes "modules" → ⊥) → (w ≡ codes "contributions" → ⊥) → (w ≡ codes "sections" → ⊥) → (w ≡ codes "globals" → ⊥) → plain_command w ≡ None
no_command w a b c d e f = rw (differs w (codes "info") a, differs w (codes "names") b, differs w (codes "modules") c, differs w (codes "contributions") d, differs w (codes "sections") e, differs w (codes "globals") f) refl

behind_behind : (cs ds : List Command) (told : Result (List Command) ℕ) → behind cs (behind ds told) ≡ behind (cs ++ ds) told
behind_behind cs ds (Ok es) = ap Ok (sym (append_assoc cs ds es))
behind_behind cs ds (Err p) = refl

behind_none : (told : Result (List Command) ℕ) → behind [] told ≡ told
behind_none (Ok cs) = refl
behind_none (Err p) = refl

from_command : (n p : ℕ) (words : List (List ℕ)) (c : Command) (count : ℕ) → p < length words → command_at words p ≡ Ok (c, count)
    → commands_from (suc n) words p ≡ behind (c ∷ []) (commands_from n words (p + count))
from_command n p words c count lt e =
    let t : nat_lt p (length words) ≡ true = grind (arith, nat_tests) in
    rw (t, e) refl

pub from_end : (n p : ℕ) (words : List (List ℕ)) → length words ≤ p → commands_from n words p ≡ Ok []
from_end zero p words h = refl
from_end (suc n) p words h =
    let t : nat_lt p (length words) ≡ false = grind (arith, nat_tests) in
    rw t refl

-- what is told when one more command is known
pub goes_on : (words : List (List ℕ)) (told : Result (List Command) ℕ) (cs : List Command) (m p : ℕ) (c : Command) (count : ℕ)
    → m ≡ length words → length cs ≤ p → p < length words → command_at words p ≡ Ok (c, count)
    → told ≡ behind cs (commands_from (m - length cs) words p)
    → told ≡ behind (cs ++ c ∷ []) (commands_from (m - length (cs ++ c ∷ [])) words (p + count))
goes_on words told cs m p c count e few lt here h =
    let n = m - length (cs ++ c ∷ []) in
    let k : m - length cs ≡ suc n = omega (arith, length-append cs (c ∷ [])) in
    let s = rw k at h in
    s ∙ ap (behind cs) (from_command n p words c count lt here) ∙ behind_behind cs (c ∷ []) (commands_from n words (p + count))

pub begins : (words : List (List ℕ)) (cs : List Command) (m : ℕ) → m ≡ length words → cs ≡ [] → spelled words ≡ behind cs (commands_from (m - length cs) words 0)
unfolding spelled
begins words cs m e none =
    let z : m - length cs ≡ length words = omega (arith, ap length none) in
    rw (z, none) (sym (behind_none (commands_from (length words) words 0)))
