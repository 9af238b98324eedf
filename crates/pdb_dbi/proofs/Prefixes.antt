-- A header stands in any beginning of its bytes that is long enough.
use Rattle.std.proofs.Common.{◌≡◌, ℕ, ◌+◌, ◌≤◌, Bool, true, false, cond, List, length, take, Option, Some, None, Result, Ok, Err, refl, arith, ◌⊎◌, inl, inr}
use Rattle.std.specs.Prelude.{not, nat_lt, ◌==◌}
use Rattle.std.proofs.lemmas.Bool.{le-ltb}
use Rattle.std.proofs.lemmas.Bool.Decides.{nat_tests}
use Rattle.std.proofs.lemmas.List.{length-take}
use Rattle.pdb_base.specs.declared.error.Error.{Error}
use Rattle.pdb_base.specs.declared.error.Error.TheVariants.{UnexpectedEof, UnimplementedFeature, IoError, OutOfMemory}
use Rattle.pdb_base.specs.declared.error.Feature.TheVariants.{AncientDbiHeader}
use Rattle.pdb_base.specs.Refusal.{Fails, ◌>>=◌}
use Rattle.pdb_base.specs.Container.{stream_of}
use Rattle.pdb_base.proofs.Fronts.{front_begins}
use Rattle.pdb_base.proofs.Numbers.{number_2-take, number_4-take}
use Rattle.pdb_base.proofs.Passing.{fails_bind}
use Rattle.pdb_base.specs.Fields.{number}
use Rattle.pdb_dbi.specs.declared.header.DBIHeader.{DBIHeader}
use Rattle.pdb_dbi.specs.Header.{header_of, header_fields, header_in, debug_information_of}

fields-take : (n : ℕ) (b : List ℕ) → 64 ≤ n → header_fields (take n b) ≡ header_fields b
unfolding header_fields
fields-take n b le =
    let four : (p : ℕ) → p + 4 ≤ 64 → number (take n b) p 4 ≡ number b p 4 = λ p h. number_4-take n b p (omega arith) in
    let two : (p : ℕ) → p + 2 ≤ 64 → number (take n b) p 2 ≡ number b p 2 = λ p h. number_2-take n b p (omega arith) in
    rw (
      four 0 (omega arith),
      four 4 (omega arith),
      four 8 (omega arith),
      two 12 (omega arith),
      two 14 (omega arith),
      two 16 (omega arith),
      two 18 (omega arith),
      two 20 (omega arith),
      two 22 (omega arith),
      four 24 (omega arith),
      four 28 (omega arith),
      four 32 (omega arith),
      four 36 (omega arith),
      four 40 (omega arith),
      four 44 (omega arith),
      four 48 (omega arith),
      four 52 (omega arith),
      two 56 (omega arith),
      two 58 (omega arith),
      four 60 (omega arith),
    ) refl

long_enough : (b : Bool) (r : Result DBIHeader Error) (h : DBIHeader) → cond b (Err UnexpectedEof) r ≡ Ok h → b ≡ false
long_enough true r h e = absurd cc
long_enough false r h e = refl

-- the header of a beginning of at least 64 bytes
pub header-take : (n : ℕ) (b : List ℕ) (h : DBIHeader) → 64 ≤ n → header_of b ≡ Ok h → header_of (take n b) ≡ Ok h
unfolding header_of
header-take n b h le e =
    let test = long_enough (nat_lt (length b) 64) (cond (not ((header_fields b).signature == 0xffffffff)) (Err (UnimplementedFeature _)) (Ok (header_fields b))) h e in
    let long : 64 ≤ length b = grind (arith, nat_tests) in
    let len : 64 ≤ length (take n b) = simp length-take (omega arith) in
    let t : nat_lt (length (take n b)) 64 ≡ false = le-ltb (length (take n b)) 64 len in
    let s : nat_lt (length b) 64 ≡ false = le-ltb (length b) 64 long in
    let whole = rw s at e in
    rw (t, fields-take n b le) whole

-- where the whole stream has a header, its front has it
pub front_header : (file bytes : List ℕ) (h : DBIHeader) → stream_of file 3 None ≡ Ok bytes → header_of bytes ≡ Ok h → header_in file (Some 1024) ≡ Ok h
unfolding header_in
front_header file bytes h whole header = let front = front_begins file 3 1024 bytes whole in rw front (header-take 1024 bytes h (omega arith) header)

-- ---- refusals of the header, which are never the source's

tested : (a b : Bool) (h : DBIHeader) (e : Error) → cond a (Err UnexpectedEof) (cond b (Err (UnimplementedFeature AncientDbiHeader)) (Ok h)) ≡ Err e → (e ≡ UnexpectedEof) ⊎ (e ≡ UnimplementedFeature AncientDbiHeader)
tested true b h e q = inl cc
tested false true h e q = inr cc
tested false false h e q = absurd cc

pub header_refused : (b : List ℕ) (e : Error) → header_of b ≡ Err e → (e ≡ UnexpectedEof) ⊎ (e ≡ UnimplementedFeature AncientDbiHeader)
unfolding header_of
header_refused b e q = tested (nat_lt (length b) 64) (not ((header_fields b).signature == 0xffffffff)) (header_fields b) e q

named : (io : Type 0) (e : Error) (b : List ℕ) → (e ≡ UnexpectedEof) ⊎ (e ≡ UnimplementedFeature AncientDbiHeader) → header_of b ≡ Err e → Fails io e (header_of b)
named io IoError b (inl p) q = absurd cc
named io IoError b (inr p) q = absurd cc
named io OutOfMemory b p q = tt
named io e b p q = q

pub header_fails : (io : Type 0) (e : Error) (b : List ℕ) → header_of b ≡ Err e → Fails io e (header_of b)
header_fails io e b q = named io e b (header_refused b e q) q

-- the header of a stream that was had
pub header_in_fails : (io : Type 0) (e : Error) (file bytes : List ℕ) (limit : Option ℕ) → stream_of file 3 limit ≡ Ok bytes → header_of bytes ≡ Err e → Fails io e (header_in file limit)
unfolding header_in
header_in_fails io e file bytes limit s q = rw s (header_fails io e bytes q)

-- ---- a DBI stream that has a header

behind : (r : Result DBIHeader Error) (b d : List ℕ) → (r >>= λ h. Ok b) ≡ Ok d → d ≡ b
behind (Ok h) b d e = cc
behind (Err x) b d e = absurd cc

before : (r : Result DBIHeader Error) (b : List ℕ) (e : Error) → (r >>= λ h. Ok b) ≡ Err e → r ≡ Err e
before (Ok h) b e q = absurd cc
before (Err x) b e q = cc

pub information_same : (b d : List ℕ) → debug_information_of b ≡ Ok d → d ≡ b
unfolding debug_information_of
information_same b d e = behind (header_of b) b d e

pub information_fails : (io : Type 0) (e : Error) (b : List ℕ) → debug_information_of b ≡ Err e → Fails io e (debug_information_of b)
unfolding debug_information_of
information_fails io e b q = let h = before (header_of b) b e q in fails_bind io io e (header_of b) (λ h. Ok b) (λ x. x) (header_fails io e b h)
