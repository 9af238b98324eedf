-- How many frames an address has at most.
use Rattle.std.proofs.Common.{if◌then◌else◌, ◌≡◌, ℕ, ◌+◌, ◌*◌, ◌≤◌, ◌==◌, Bool, true, false, List, [], ◌∷◌, ◌++◌, length, map, reverse, Option, Some, None, Result, Ok, Err, refl, sym, ap, ◌∙◌, arith}
use Rattle.std.specs.List.{cons_option, filter_map}
use Rattle.std.proofs.lemmas.List.{length-map, length-append, length-reverse}
use Rattle.pdb.specs.Error.{Error}
use Rattle.pdb.specs.Error.TheVariants.{UnimplementedFeature}
use Rattle.pdb_base.specs.declared.error.Feature.TheVariants.{SymbolDataFormat}
use Rattle.pdb.specs.Refusal.{◌>>=◌}
use Rattle.pdb.specs.PdbInternalSectionOffset.{PdbInternalSectionOffset}
use Rattle.pdb.specs.SymbolList.{Entry, symbols_from}
use Rattle.pdb.specs.Fields.{number_at, bytes_at}
use Rattle.pdb.specs.ModuleStream.{ModuleBytes, symbols_part_of, symbols_at_of, checked_part, of_format}
use Rattle.pdb.specs.Inlinees.{InlineeEntry, inlinee_with}
use Rattle.pdb_base.proofs.Places.{bind_ok}
use Rattle.pdb_base.proofs.Numbers.{length_bytes}
use Rattle.pdb_symbols.proofs.SymbolLaws.{one_for_four}
use Rattle.pdb_places.specs.AsIfEmpty.{items_of}
use Rattle.pdb_places.specs.Pieces.{Code}
use Rattle.pdb_code.specs.ModuleCode.{call_in, calls_in, inlined_at, inlinees_in, procedure_at, program_in, symbols_in}
use Rattle.pdb_resolve.specs.Frames.{frames_in, inlined_frame, outer_frame}
use Rattle.pdb_resolve.specs.FileParts.{names_in}
use Rattle.pdb_resolve.specs.AcrossModules.{global_id_in}
use Rattle.pdb_resolve.specs.Resolved.{frames_of_module, other_of_file}

-- ---- calls

one_more : {A : Type 0} (o : Option A) (xs : List A) (n : ℕ) → length xs ≤ n → length (cons_option o xs) ≤ n + 1
one_more None xs n h = omega arith
one_more (Some x) xs n h = omega arith

few_items : {X Y : Type 0} (h : X → Option Y) (xs : List X) → length (filter_map h xs) ≤ length xs
few_items h [] = omega arith
few_items h (x ∷ xs) = let less = one_more (h x) (filter_map h xs) (length xs) (few_items h xs) in omega (arith, less)

few_calls : (q : PdbInternalSectionOffset) (listed : ℕ → Option InlineeEntry) (symbols : List Entry) (o : Option Code) → length (calls_in q listed symbols o) ≤ length symbols
few_calls q listed symbols None = omega arith
few_calls q listed symbols (Some c) = few_items (call_in q listed c) symbols

-- ---- symbols

-- a part that is checked is the part
of_format_same : (part out : List ℕ) (format : ℕ) (is : Bool) → (if is then Ok part else Err (UnimplementedFeature SymbolDataFormat)) ≡ Ok out → part ≡ out
of_format_same part out format true e = cc
of_format_same part out format false e = absurd cc

checked_same : (part out : List ℕ) (none : Bool) → (if none then Ok part else number_at part 0 4 >>= of_format part) ≡ Ok out → part ≡ out
checked_same part out true e = cc
checked_same part out false e =
    let (format, e1, e2) = bind_ok (number_at part 0 4) (of_format part) out e in
    of_format_same part out format (format == 4) e2

part_size : (m : ModuleBytes) (part : List ℕ) → symbols_part_of m ≡ Ok part → length part ≡ m.symbols_size
unfolding symbols_part_of
part_size m part e =
    let (whole, e1, e2) = bind_ok (bytes_at m.bytes 0 m.symbols_size) checked_part part e in
    sym (ap (λ (b : List ℕ). length b) (checked_same whole part (length whole == 0) e2)) ∙ length_bytes m.bytes 0 m.symbols_size whole e1

few_symbols_by : (m : ModuleBytes) (r : Result (List ℕ) Error) → symbols_part_of m ≡ r → 4 * length (symbols_in m) ≤ m.symbols_size
unfolding symbols_in symbols_at_of
few_symbols_by m (Ok part) p =
    let is : symbols_in m ≡ (symbols_from part 4).items = ap (λ (r : Result (List ℕ) Error). items_of (r >>= λ part. Ok (symbols_from part 4))) p in
    let few = one_for_four part 4 in
    omega (arith, ap (λ (ys : List Entry). length ys) is, few, part_size m part p)
few_symbols_by m (Err e) p =
    let is : symbols_in m ≡ [] = ap (λ (r : Result (List ℕ) Error). items_of (r >>= λ part. Ok (symbols_from part 4))) p in
    omega (arith, ap (λ (ys : List Entry). length ys) is)

-- ---- frames

pub few_in_module : (file : List ℕ) (q : PdbInternalSectionOffset) (m : ModuleBytes) → 4 * length (frames_of_module file q (Some m)) ≤ m.symbols_size + 4
unfolding frames_in
few_in_module file q m =
    let calls = few_calls q (inlinee_with (inlinees_in m)) (symbols_in m) (procedure_at q m) in
    let symbols = few_symbols_by m (symbols_part_of m) refl in
    let frame = inlined_frame (names_in file) (global_id_in file m) (program_in m) in
    let last = outer_frame (names_in file) (other_of_file file (Some m) q) q m ∷ [] in
    let counted : length (map frame (reverse (inlined_at q m)) ++ last) ≡ length (inlined_at q m) + 1 =
    length-append (map frame (reverse (inlined_at q m))) last ∙ ap (λ (n : ℕ). n + 1) (length-map (reverse (inlined_at q m)) frame ∙ length-reverse (inlined_at q m)) in
    omega (arith, calls, symbols, counted)
