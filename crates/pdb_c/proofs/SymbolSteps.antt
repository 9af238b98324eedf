-- Symbols that are given one after another.
use Rattle.std.proofs.Common.{◌≡◌, ℕ, ◌+◌, ◌<◌, ◌≤◌, min, List, [], ◌∷◌, ◌++◌, map, length, take, drop, set, sym, ap, subst, ◌∙◌, arith, append_assoc}
use Rattle.std.specs.List.{All}
use Rattle.std.proofs.lemmas.Grind.{common_steps}
use Rattle.std.proofs.lemmas.List.{take_more_set, map-append, drop-set-lt}
use Rattle.std.proofs.lemmas.List.Elements.{All-append}
use Rattle.pdb.specs.Tiling.{listing}
use Rattle.pdb.specs.SymbolList.{Entry, symbols, symbols_from}
use Rattle.pdb_c.specs.declared.symbols.PdbSymbol.{PdbSymbol}
use Rattle.pdb_c.proofs.Putting.{drop_next}
use Rattle.pdb_c.specs.Symbols.{symbol_entry, SaysItself}

All-one : {X : Type 0} (P : X → Type 0) (x : X) → P x → All P (x ∷ [])
All-one P x h = grind (arith, common_steps, h)

-- the list goes on at the place behind a symbol
pub place_next : (b : List ℕ) (p at : ℕ) (s : Entry) → p ≡ s.index + 2 + length s.bytes → p ≤ length b → length b ≤ 4294967295 → (s.index + 2 + length s.bytes ≤ 4294967295 → at ≡ s.index + 2 + length s.bytes) → listing symbols b p ≡ symbols_from b at
place_next b p at s behind inside small told =
    let there : at ≡ s.index + 2 + length s.bytes = told (omega (arith, behind, inside, small)) in
    let least : p ≡ min at (length b) = omega (arith, behind, inside, there) in
    ap (λ (n : ℕ). listing symbols b n) least

pub items_next : (rows : List PdbSymbol) (n : ℕ) (row : PdbSymbol) (s : Entry) (left others all : List Entry) → n < length rows → all ≡ map symbol_entry (take n rows) ++ left → left ≡ s ∷ others → symbol_entry row ≡ s → all ≡ map symbol_entry (take (n + 1) (set rows n row)) ++ others
items_next rows n row s left others all inside so_far e shown =
    let front = map symbol_entry (take n rows) in
    let more : map symbol_entry (take (n + 1) (set rows n row)) ≡ front ++ (symbol_entry row ∷ []) = ap (map symbol_entry) (take_more_set rows n row inside) ∙ map-append symbol_entry (take n rows) (row ∷ []) in
    so_far
    ∙ ap (λ (es : List Entry). front ++ es) (e ∙ ap (λ (x : Entry). x ∷ others) (sym shown))
    ∙ sym (append_assoc front (symbol_entry row ∷ []) others)
    ∙ ap (λ (es : List Entry). es ++ others) (sym more)

pub says_next : (rows : List PdbSymbol) (n : ℕ) (row : PdbSymbol) → n < length rows → All SaysItself (take n rows) → SaysItself row → All SaysItself (take (n + 1) (set rows n row))
says_next rows n row inside so_far says = subst (All SaysItself) (sym (take_more_set rows n row inside)) (All-append SaysItself (take n rows) (row ∷ []) so_far (All-one SaysItself row says))

pub others_next : (rows first : List PdbSymbol) (n : ℕ) (row : PdbSymbol) → n < length rows → length rows ≡ length first → drop n rows ≡ drop n first → drop (n + 1) (set rows n row) ≡ drop (n + 1) first
others_next rows first n row inside same so_far =
    let less : n < n + 1 = omega arith in
    let there : n < length first = omega (arith, inside, same) in
    drop-set-lt (n + 1) rows n row less ∙ ap (drop 1) (sym (drop_next rows n row inside) ∙ so_far ∙ drop_next first n row there)
