-- All that is left of some bytes.
use Rattle.std.proofs.Common.{◌≡◌, ℕ, ◌+◌, List, length, drop, Ok, ap, ◌∙◌, arith, length-drop}
use Rattle.std.proofs.lemmas.List.{take_all}
use Rattle.pdb_base.specs.Fields.{bytes_at}
use Rattle.pdb_base.proofs.Numbers.{bytes_there}

pub rest_at : (b : List ℕ) (p n : ℕ) → n + p ≡ length b → bytes_at b p n ≡ Ok (drop p b)
rest_at b p n e = bytes_there b p n (omega arith) ∙ ap Ok (take_all n (drop p b) (omega (arith, length-drop p b)))

pub rest_length : (b : List ℕ) (p n : ℕ) → n + p ≡ length b → length (drop p b) ≡ n
rest_length b p n e = omega (arith, length-drop p b)
