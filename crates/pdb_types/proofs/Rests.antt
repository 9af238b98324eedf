-- The bytes that are left can be taken.
use Rattle.std.proofs.Common.{◌≡◌, ℕ, ◌+◌, List, length, take, drop, Result, Ok, Err, sym, ap, ◌∙◌, arith, length-drop}
use Rattle.std.proofs.Math.Seq.{take-length}
use Rattle.std.specs.Prelude.{IfOk}
use Rattle.pdb_base.specs.declared.error.Error.{Error}
use Rattle.pdb_base.specs.Cursor.{Cursor, Reads}
use Rattle.pdb_base.specs.Fields.{bytes_at}
use Rattle.pdb_base.proofs.Numbers.{bytes_there}

rest_there : (b : List ℕ) (p n : ℕ) → n + p ≡ length b → bytes_at b p n ≡ Ok (drop p b)
rest_there b p n h =
    let all : take (length (drop p b)) (drop p b) ≡ drop p b = take-length (drop p b) in
    let size : length (drop p b) ≡ n = simp length-drop (omega arith) in
    bytes_there b p n (omega arith) ∙ ap Ok (rw size at all)

pub rest_taken : {X : Type 0} (view : X → List ℕ) (old new : Cursor) (n : ℕ) (r : Result X Error) → n + old.place ≡ length old.bytes → Reads view old new r (bytes_at old.bytes old.place n) (λ _. n) → IfOk r (λ s. length (view s) ≡ n) → Reads view old new r (Ok (drop old.place old.bytes)) (λ s. length s)
rest_taken view old new n (Ok x) room read size =
    let there = rest_there old.bytes old.place n room in
    (sym there ∙ read.0, read.1, rw size read.2)
rest_taken view old new n (Err e) room read size =
    let there = rest_there old.bytes old.place n room in
    let refused = read.0 in
    absurd cc
