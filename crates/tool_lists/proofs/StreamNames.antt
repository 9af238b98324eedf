-- The names of streams by what was read of the information stream.
use Rattle.std.proofs.Common.{◌≡◌, List, ℕ, Option, Some, None, Result, Ok, Err, refl, sym, subst, ap, ◌∙◌, ◌≢◌, arith}
use Rattle.std.specs.Option.{unwrap_or}
use Rattle.pdb.specs.Error.{Error}
use Rattle.std.specs.Prelude.{IfOk, IfErr}
use Rattle.pdb.specs.Error.TheVariants.{IoError, OutOfMemory}
use Rattle.pdb.specs.Refusal.{◌>>=◌, Gives}
use Rattle.tool_output.specs.declared.stop.Stop.{Stop}
use Rattle.tool_output.proofs.Refused.{refused_is}
use Rattle.pdb.specs.Information.{Information}
use Rattle.pdb.specs.Names.{Name, names_of}
use Rattle.pdb.specs.Answers.{information_in}
use Rattle.pdb_places.specs.AsIfEmpty.{if_read}
use Rattle.tool_output.specs.FileNames.{names_in}

abbrev size : Option Information → ℕ
size None = 0
size (Some i) = 1

abbrev names_said : Information → Result (List Name) Error
names_said i = names_of i.bytes i.names_offset i.names_size

by_read : (r : Result Information Error) (i : Information) → Some i ≡ if_read r → (r >>= names_said) ≡ names_said i
by_read (Ok x) i e = ap names_said (sym (ap (λ (o : Option Information). unwrap_or o i) e))
by_read (Err x) i e =
    let one : 1 ≡ 0 = ap size e in
    absurd (omega (arith, one))

by_none : (r : Result Information Error) → None ≡ if_read r → None ≡ if_read (r >>= names_said)
by_none (Ok x) e =
    let none : 0 ≡ 1 = ap size e in
    absurd (omega (arith, none))
by_none (Err x) e = refl

pub names_by : (file : List ℕ) (i : Information) → Some i ≡ if_read (information_in file) → names_in file ≡ names_of i.bytes i.names_offset i.names_size
unfolding names_in
names_by file i e = by_read (information_in file) i e

pub names_none : (file : List ℕ) → None ≡ if_read (information_in file) → None ≡ if_read (names_in file)
unfolding names_in
names_none file e = by_none (information_in file) e

pub read_names : (file : List ℕ) (i : Information) (r : Result (List Name) Error) (o : Result (Option (List Name)) Stop) → Some i ≡ if_read (information_in file)
    → Gives (λ n. n) ⊥ r (names_of i.bytes i.names_offset i.names_size) → IfOk r (λ x. o ≡ Ok (Some x)) → IfErr r (λ e. IfOk o (λ p. (p ≡ None) × (e ≢ OutOfMemory) × (e ≢ IoError))) → IfOk o (λ p. p ≡ if_read (names_in file))
read_names file i (Ok x) o h given some none =
    let read = names_by file i h ∙ given in
    subst (λ (q : Result (Option (List Name)) Stop). IfOk q (λ p. p ≡ if_read (names_in file))) (sym some) (sym (ap if_read read))
read_names file i (Err e) (Err s) h given some none = tt
read_names file i (Err e) (Ok p) h given some none =
    let read = names_by file i h ∙ refused_is e _ given none.1 in
    none.0 ∙ sym (ap if_read read)
