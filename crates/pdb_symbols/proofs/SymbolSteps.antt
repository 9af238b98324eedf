-- The pieces of a list of symbols, and the turns of the loop over them.
use Rattle.std.proofs.Common.{◌≡◌, ℕ, ◌+◌, ◌-◌, ◌<◌, ◌≤◌, List, [], ◌∷◌, length, Option, Some, None, Ok, Err, refl, ◌⊎◌, inl, inr, arith}
use Rattle.std.proofs.lemmas.Bool.{cases_lt}
use Rattle.std.proofs.lemmas.Bool.Decides.{nat_tests}
use Rattle.pdb_base.specs.declared.error.Error.{Error}
use Rattle.pdb_base.specs.declared.error.Error.TheVariants.{UnexpectedEof, SymbolTooShort}
use Rattle.pdb_base.specs.Fields.{number, number_at, bytes_at}
use Rattle.pdb_base.specs.Left.{Left, Follows, Ends}
use Rattle.pdb_base.specs.Tiling.{IsInside, ReadsPiece, listing}
use Rattle.pdb_base.proofs.Numbers.{number_there, number_not, bytes_there, bytes_not}
use Rattle.pdb_base.proofs.Places.{number_is, slice_is}
use Rattle.pdb_base.proofs.Tilings.{then_item, then_padding, then_fault, then_end}
use Rattle.pdb_symbols.specs.declared.symbol.Symbol.{Symbol}
use Rattle.pdb_symbols.specs.SymbolList.{Entry, symbols, symbol_of_bytes}
use Rattle.pdb_symbols.specs.Views.{symbol_of}

pub symbols_inside : IsInside symbols
symbols_inside = record { inside = λ b p k e. grind (arith, nat_tests) }

-- the item that a turn gave is the first of those left
pub item_left : (start : Left Entry) (b b' : List ℕ) (p q : ℕ) (x : Symbol) → start ≡ listing symbols b p → b' ≡ b → ReadsPiece symbols symbol_of b p (Ok (Some x)) q → Follows start (symbol_of x ∷ []) (listing symbols b' q)
item_left start b b' p q x here same reads = then_item symbols symbols_inside symbol_of start b b' p here x q same reads

-- padding leaves the same items
pub padding_left : (start : Left Entry) (b b' : List ℕ) (p q : ℕ) → start ≡ listing symbols b p → b' ≡ b → ReadsPiece symbols symbol_of b p (Ok None) q → start ≡ listing symbols b' q
padding_left start b b' p q here same reads = then_padding symbols symbols_inside symbol_of start b b' p here q same reads

-- the fault is all that is left where no piece begins, and nothing is left behind it
pub fault_left : (start : Left Entry) (b b' : List ℕ) (p q : ℕ) (e : Error) → start ≡ listing symbols b p → b' ≡ b → p < length b → ReadsPiece symbols symbol_of b p (Err e) 0 → length b' ≤ q → Ends start [] (Some e) (listing symbols b' q)
fault_left start b b' p q e here same before reads past = then_fault symbols symbols_inside symbol_of start b b' p here e 0 q same before reads past

-- nothing is left at the end
pub end_left : (start : Left Entry) (b : List ℕ) (p : ℕ) → start ≡ listing symbols b p → length b ≤ p → Ends start [] None (listing symbols b p)
end_left start b p here past = then_end symbols symbols_inside symbol_of start b b p here past

-- ---- reading one record

-- a length that isn't there
pub no_length : (b : List ℕ) (p : ℕ) (e : Error) → number_at b p 2 ≡ Err e → (symbols.piece b p ≡ None) × (symbols.fault b p ≡ Some e)
no_length b p e h = elim (cases_lt (length b) (p + 2)) [
  | inl past ↦ (let none = number_not b p 2 past in let eof : e ≡ UnexpectedEof = cc in (grind (arith, nat_tests), rw eof (grind (arith, nat_tests))))
  | inr there ↦ (let some = number_there b p 2 (number b p 2) there refl in absurd cc)
]

-- a length below 2
pub short_length : (b : List ℕ) (p n : ℕ) → number_at b p 2 ≡ Ok n → n < 2 → (symbols.piece b p ≡ None) × (symbols.fault b p ≡ Some SymbolTooShort)
short_length b p n h short =
    let is = number_is b p 2 n h in
    (grind (arith, nat_tests), grind (arith, nat_tests))

-- bytes that aren't all there
pub no_bytes : (b b' : List ℕ) (p p' n : ℕ) (e : Error) → number_at b p 2 ≡ Ok n → b' ≡ b → p' ≡ p + 2 → 2 ≤ n → bytes_at b' p' n ≡ Err e → (symbols.piece b p ≡ None) × (symbols.fault b p ≡ Some e)
no_bytes b b' p p' n e h same at long k =
    let is = number_is b p 2 n h in
    let missing : bytes_at b (p + 2) n ≡ Err e = rw (same, at) at k in
    elim (cases_lt (length b) (p + 2 + n)) [
      | inl past ↦ (let none = bytes_not b (p + 2) n past in let eof : e ≡ UnexpectedEof = cc in (grind (arith, nat_tests), rw eof (grind (arith, nat_tests))))
      | inr there ↦ (let some = bytes_there b (p + 2) n there in absurd cc)
    ]

-- a whole record
pub whole_record : (b b' : List ℕ) (p p' q n : ℕ) (s : List ℕ) (x : Option Entry) → number_at b p 2 ≡ Ok n → b' ≡ b → p' ≡ p + 2 → 2 ≤ n → bytes_at b' p' n ≡ Ok s → q ≡ p' + n → symbol_of_bytes p s ≡ x → (p < q) × (q ≤ length b) × (symbols.piece b p ≡ Some (q - p)) × (symbols.item b p (q - p) ≡ x)
whole_record b b' p p' q n s x h same at long k end makes =
    let is = number_is b p 2 n h in
    let slice = slice_is b (p + 2) n s (rw (same, at) at k) in
    let inside = slice.there in
    let wide : q - p ≡ 2 + number b p 2 = omega arith in
    (omega arith, omega arith, rw wide (grind (arith, nat_tests)), rw (← is.value, ← slice.value) makes)

pub padding_bytes : (p : ℕ) (s : List ℕ) → ((number s 0 2 ≡ 0x0402) ⊎ ((number s 0 2 ≡ 0x0402 → ⊥) × (number s 0 2 ≡ 7))) → symbol_of_bytes p s ≡ None
padding_bytes p s (inl h) = rw h refl
padding_bytes p s (inr h) = rw h.1 refl

pub symbol_bytes : (p : ℕ) (s : List ℕ) → (number s 0 2 ≡ 0x0402 → ⊥) → (number s 0 2 ≡ 7 → ⊥) → symbol_of_bytes p s ≡ Some (record { index = p; bytes = s })
symbol_bytes p s not_align not_skip = grind (arith, nat_tests)
