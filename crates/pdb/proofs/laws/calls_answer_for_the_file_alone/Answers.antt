use Rattle.std.proofs.Common.{◌≡◌, List, [], ◌∷◌, ap, ◌∙◌, subst}
use Rattle.std.specs.List.{AllByRecursion}
use Rattle.std.proofs.lemmas.List.Elements.{All-from_recursion}
use Rattle.pdb_base.specs.Source.{State, Continues, MayFail}
use Rattle.pdb_base.specs.Refusal.{Gives}
use Rattle.pdb_base.proofs.Passing.{continues_then}
use Rattle.pdb.specs.Answers.{answer, Made, AreMade, GoesOn, IsAnswered}
use Rattle.pdb.proofs.laws.calls_answer_for_the_file_alone.Goals as goal

answered : (source old : State) (m : Made) → Continues source old → m.before ≡ old → GoesOn m → IsAnswered source.file m
answered source old m before here goes told =
    let same : m.before.file ≡ source.file = ap (λ (s : State). s.file) here ∙ before.file in
    subst (λ file. Gives (λ x. x) (MayFail m.before m.behind) m.given (answer file m.call)) same (goes.answers told)

all_answered : (source old : State) (calls : List Made) → Continues source old → AreMade old calls → AllByRecursion (IsAnswered source.file) calls
all_answered source old [] before are = tt
all_answered source old (m ∷ others) before are =
    (answered source old m before are.0 are.1, all_answered source m.behind others (continues_then source old m.behind before (rw are.0 at are.1.continues)) are.2)

pub returns : goal.returns
returns c source opened calls before are = All-from_recursion (IsAnswered source.file) calls (all_answered source opened calls before are)
