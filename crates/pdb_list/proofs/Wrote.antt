-- What a run wrote, by how it ended.
use Rattle.std.proofs.Common.{◌≡◌, ℕ, ◌+◌, List, ◌++◌, length, take, Option, sym, ap, subst, ◌∙◌, arith, flat_map, length-append, Result, Ok, Err, OnOk}
use Rattle.std.specs.Io.KnownBytes.{Appends}
use Rattle.std.specs.Prelude.{IsErrOf, IsErrAnd}
use Rattle.std.proofs.lemmas.List.{take-append-le}
use Rattle.std.proofs.lemmas.Grind.{flat_map-append}
use Rattle.std.proofs.Math.Seq.{take-append-add}
use Rattle.pdb_text.specs.Written.{WroteFirst}
use Rattle.pdb_text.proofs.Written.{appends_then, front_of, front_then}
use Rattle.pdb_list.specs.declared.engine.RunError.{RunError}
use Rattle.pdb_list.specs.declared.engine.RunError.TheVariants.{OutOfMemory, Open, Read, Write}
use Rattle.pdb_list.specs.Wrote.{Wrote}

first_then : {X : Type 0} (f : X → List ℕ) (a b c : Option (List ℕ)) (xs ys : List X)
    → Appends a b (flat_map f xs) → WroteFirst f b c ys → WroteFirst f a c (xs ++ ys)
first_then f a b c xs ys h w =
    let e : flat_map f (take (length xs + w.0) (xs ++ ys)) ≡ flat_map f xs ++ flat_map f (take w.0 ys) =
    ap (flat_map f) (take-append-add xs ys w.0) ∙ flat_map-append f xs (take w.0 ys) in
    (length xs + w.0, omega (arith, w.1, length-append xs ys), rw e (appends_then a b c (flat_map f xs) (flat_map f (take w.0 ys)) h w.2))

first_less : {X : Type 0} (f : X → List ℕ) (a b : Option (List ℕ)) (xs ys : List X) → WroteFirst f a b xs → WroteFirst f a b (xs ++ ys)
first_less f a b xs ys w =
    let e : take w.0 (xs ++ ys) ≡ take w.0 xs = take-append-le w.0 xs ys w.1 in
    (w.0, omega (arith, w.1, length-append xs ys), rw e w.2)

-- all texts of some things, and then a run over further ones
pub wrote_then : {X : Type 0} (f : X → List ℕ) (a b c : Option (List ℕ)) (xs ys : List X) (r : Result (Unit {0}) RunError)
    → Appends a b (flat_map f xs) → Wrote f b c ys r → Wrote f a c (xs ++ ys) r
wrote_then f a b c xs ys (Ok tt) h w = rw (flat_map-append f xs ys) (appends_then a b c (flat_map f xs) (flat_map f ys) h w)
wrote_then f a b c xs ys (Err OutOfMemory) h w = first_then f a b c xs ys h w
wrote_then f a b c xs ys (Err Read) h w = first_then f a b c xs ys h w
wrote_then f a b c xs ys (Err Write) h w = rw (flat_map-append f xs ys) (front_then a b c (flat_map f xs) (flat_map f ys) h w)
wrote_then f a b c xs ys (Err (Open e)) h w = absurd w

-- a run that stopped, whatever was still to come
wrote_less : {X : Type 0} (f : X → List ℕ) (a b : Option (List ℕ)) (xs ys : List X) (e : RunError)
    → Wrote f a b xs (Err e) → Wrote f a b (xs ++ ys) (Err e)
wrote_less f a b xs ys OutOfMemory w = first_less f a b xs ys w
wrote_less f a b xs ys Read w = first_less f a b xs ys w
wrote_less f a b xs ys Write w = rw (flat_map-append f xs ys) (front_of a b (flat_map f xs) (flat_map f ys) w)
wrote_less f a b xs ys (Open e) w = absurd w

pub wrote_all : {X : Type 0} (f : X → List ℕ) (a b : Option (List ℕ)) (xs : List X) (r : Result (Unit {0}) RunError)
    → Wrote f a b xs r → OnOk r (Appends a b (flat_map f xs))
wrote_all f a b xs (Ok tt) w = w
wrote_all f a b xs (Err e) w = tt

-- what was written by a run that ended with this error
pub wrote_by : {X : Type 0} (f : X → List ℕ) (a b : Option (List ℕ)) (xs : List X) (e : RunError) (r : Result (Unit {0}) RunError)
    → Wrote f a b xs r → IsErrOf r e → Wrote f a b xs (Err e)
wrote_by f a b xs e r w h = subst (Wrote f a b xs) h w

-- a run that ended with this error
pub wrote_with : {X : Type 0} (f : X → List ℕ) (a b : Option (List ℕ)) (xs : List X) (e : RunError) (r : Result (Unit {0}) RunError)
    → IsErrAnd r (λ x. x ≡ e) → Wrote f a b xs (Err e) → Wrote f a b xs r
wrote_with f a b xs e (Ok tt) h w = absurd h
wrote_with f a b xs e (Err x) h w = subst (λ x. Wrote f a b xs (Err x)) (sym h) w

-- a run that stopped over some things has stopped over all
pub wrote_stopped : {X : Type 0} (f : X → List ℕ) (a b : Option (List ℕ)) (xs ys : List X) (e : RunError) (r : Result (Unit {0}) RunError)
    → IsErrAnd r (λ x. x ≡ e) → Wrote f a b xs (Err e) → Wrote f a b (xs ++ ys) r
wrote_stopped f a b xs ys e r h w = wrote_with f a b (xs ++ ys) e r h (wrote_less f a b xs ys e w)
