-- What arguments say, one after another.
use Rattle.std.proofs.Common.{◌≡◌, ℕ, suc, ◌+◌, ◌<◌, ◌≤◌, List, [], ◌∷◌, length, map, get_or, drop, Result, Ok, Err, refl, arith}
use Rattle.std.proofs.Math.Seq.{drop-cons}
use Rattle.std.proofs.lemmas.Grind.{common_steps}
use Rattle.tool_arguments.specs.Options.{after_word, at_end, options_by}
use Rattle.tool_arguments.specs.declared.commands.Command.{Command}
use Rattle.tool_arguments.specs.declared.mistakes.Mistake.{Mistake}
use Rattle.tool_arguments.specs.declared.mistakes.Wrong.{Wrong}
use Rattle.tool_arguments.specs.declared.options.Options.{Options}
use Rattle.tool_arguments.specs.declared.options.Given.{Given}

-- one more argument said something
pub one_more : {X : Type 0} (command : Command) (bytes : X → List ℕ) (words : List X) (judged : Result Options Mistake) (given more : Given) (i p : ℕ) (d : X)
    → i < length words → after_word command given (p + i) (bytes (get_or words i d)) ≡ Ok more
    → judged ≡ options_by command given (map bytes (drop i words)) (p + i) → judged ≡ options_by command more (map bytes (drop (i + 1) words)) (p + (i + 1))
one_more command bytes words judged given more i p d lt e h =
    let one : suc i ≡ i + 1 = omega arith in
    let next : drop i words ≡ get_or words i d ∷ drop (i + 1) words = rw one at (drop-cons words i d lt) in
    let place : p + (i + 1) ≡ p + i + 1 = omega arith in
    rw place (rw (next, e) at h)

pub wrong_there : {X : Type 0} (command : Command) (bytes : X → List ℕ) (words : List X) (judged : Result Options Mistake) (given : Given) (i p : ℕ) (d : X) (wrong : Wrong)
    → i < length words → after_word command given p (bytes (get_or words i d)) ≡ Err wrong
    → judged ≡ options_by command given (map bytes (drop i words)) p → judged ≡ Err (record { argument = p; wrong = wrong })
wrong_there command bytes words judged given i p d wrong lt e h = rw (drop-cons words i d lt, e) at h

-- behind the last argument
pub ends : {X : Type 0} (command : Command) (bytes : X → List ℕ) (words : List X) (judged : Result Options Mistake) (given : Given) (i p : ℕ)
    → length words ≤ i → judged ≡ options_by command given (map bytes (drop i words)) p → judged ≡ at_end given p
ends command bytes words judged given i p h t =
    let none : drop i words ≡ [] = grind (arith, common_steps) in
    rw none at t

pub begins : {X : Type 0} (command : Command) (bytes : X → List ℕ) (words : List X) (given : Given) (p : ℕ) → options_by command given (map bytes words) p ≡ options_by command given (map bytes words) (p + 0)
begins command bytes words given p =
    let same : p + 0 ≡ p = omega arith in
    rw same refl
