-- Names are refused only where their bytes end.
use Rattle.std.proofs.Common.{◌≡◌, ℕ, zero, suc, ◌+◌, ◌*◌, ◌/◌, ◌<◌, ◌≤◌, List, [], ◌∷◌, ◌++◌, length, min, Result, Ok, Err, refl, ap, ◌∙◌, ◌-◌, zero-add, arith}
use Rattle.pdb_base.specs.declared.error.Error.{Error}
use Rattle.pdb_base.specs.declared.error.Error.TheVariants.{UnexpectedEof}
use Rattle.pdb_base.specs.Cursor.{Cursor}
use Rattle.pdb_base.specs.Refusal.{Fails}
use Rattle.pdb_base.specs.Fields.{number, bytes_at, cstring_at}
use Rattle.pdb_base.proofs.Places.{OnlyEof, bind_eof, ok_eof, number_eof, slice_eof, cstring_eof}
use Rattle.pdb_dbi.specs.Names.{Name, words_at, pairs_at, name_at, names_up_to, names_of}

words_eof : (b : List ℕ) (p : ℕ) → OnlyEof (words_at b p)
unfolding words_at
words_eof b p = bind_eof _ _ (number_eof b p 4) (λ n. slice_eof b (p + 4) (4 * n))

pairs_eof : (b : List ℕ) (p : ℕ) → OnlyEof (pairs_at b p)
unfolding pairs_at
pairs_eof b p =
    bind_eof _ _ (number_eof b p 4) (λ count. bind_eof _ _ (number_eof b (p + 4) 4) (λ unused.
    bind_eof _ _ (words_eof b (p + 8)) (λ present. bind_eof _ _ (words_eof b (p + 12 + length present))
    (λ deleted. slice_eof b (p + 16 + length present + length deleted) (8 * count)))))

name_eof : (part pairs : List ℕ) (k : ℕ) → OnlyEof (name_at part pairs k)
unfolding name_at
name_eof part pairs k = bind_eof _ _ (cstring_eof part (number pairs (8 * k) 4)) (λ name. ok_eof _)

-- a buffer that went to a place inside its bytes stands there
pub gone_to : (b : List ℕ) (made gone : Cursor) (p : ℕ) → made ≡ record { bytes = b; place = 0 } → gone ≡ record made { place = min p (length made.bytes) } → p ≤ length b → (gone.bytes ≡ b) × (gone.place ≡ p)
gone_to b made gone p m g le =
    let bytes : made.bytes ≡ b = ap (λ (k : Cursor). k.bytes) m in
    let place : gone.place ≡ min p (length b) = ap (λ (k : Cursor). k.place) g ∙ ap (λ (xs : List ℕ). min p (length xs)) bytes in
    (ap (λ (k : Cursor). k.bytes) g ∙ bytes, omega (arith, place))

-- ---- one name

pub name_refused : (part pairs : List ℕ) (k p : ℕ) (e : Error) → p ≡ number pairs (8 * k) 4 → cstring_at part p ≡ Err e → name_at part pairs k ≡ Err e
unfolding name_at
name_refused part pairs k p e at q = rw (← at, q) refl

pub name_found : (part pairs name : List ℕ) (k p stream : ℕ) → p ≡ number pairs (8 * k) 4 → cstring_at part p ≡ Ok name → stream ≡ number pairs (8 * k + 4) 2 → name_at part pairs k ≡ Ok (record { name = name; stream = stream })
unfolding name_at
name_found part pairs name k p stream at q s = rw (← at, q, s) refl

-- ---- all names

fails_eof : {Y : Type 0} (e : Error) (read : Result Y Error) → e ≡ UnexpectedEof → read ≡ Err e → Fails ⊥ e read
fails_eof e read eof h = rw eof (h ∙ ap Err eof)

pub part_refused : (b : List ℕ) (offset size : ℕ) (e : Error) → bytes_at b offset size ≡ Err e → Fails ⊥ e (names_of b offset size)
unfolding names_of
part_refused b offset size e h = fails_eof e _ (slice_eof b offset size e h) (rw h refl)

pub pairs_refused : (b part : List ℕ) (offset size p : ℕ) (e : Error) → bytes_at b offset size ≡ Ok part → p ≡ offset + size → pairs_at b p ≡ Err e → Fails ⊥ e (names_of b offset size)
unfolding names_of
pairs_refused b part offset size p e h at q = fails_eof e _ (pairs_eof b p e q) (rw (h, ← at, q) refl)

-- the names before the k-th are refused as all are
refused_up_to : (part pairs : List ℕ) (k more : ℕ) (e : Error) → names_up_to part pairs k ≡ Err e → names_up_to part pairs (more + k) ≡ Err e
refused_up_to part pairs k zero e h = rw zero-add h
refused_up_to part pairs k (suc more) e h =
    let same : suc more + k ≡ suc (more + k) = omega arith in
    rw (same, refused_up_to part pairs k more e h) refl

one_refused : (part pairs : List ℕ) (k : ℕ) (names : List Name) (e : Error) → names_up_to part pairs k ≡ Ok names → name_at part pairs k ≡ Err e → names_up_to part pairs (suc k) ≡ Err e
one_refused part pairs k names e h q = rw (h, q) refl

pub name_refuses : (b part pairs : List ℕ) (offset size p k : ℕ) (names : List Name) (e : Error) → bytes_at b offset size ≡ Ok part → p ≡ offset + size → pairs_at b p ≡ Ok pairs
    → k < length pairs / 8 → names_up_to part pairs k ≡ Ok names → name_at part pairs k ≡ Err e → Fails ⊥ e (names_of b offset size)
unfolding names_of
name_refuses b part pairs offset size p k names e h at q lt before r =
    let more = length pairs / 8 - suc k in
    let count : more + suc k ≡ length pairs / 8 = omega arith in
    let all : names_up_to part pairs (length pairs / 8) ≡ Err e = rw (← count) (refused_up_to part pairs (suc k) more e (one_refused part pairs k names e before r)) in
    fails_eof e _ (name_eof part pairs k e r) (rw (h, ← at, q, all) refl)

pub one_more_name : (part pairs : List ℕ) (k : ℕ) (names : List Name) (name : Name) → names_up_to part pairs k ≡ Ok names → name_at part pairs k ≡ Ok name → names_up_to part pairs (k + 1) ≡ Ok (names ++ name ∷ [])
one_more_name part pairs k names name h q = let same : k + 1 ≡ suc k = omega arith in rw (same, h, q) refl

pub all_names : (b part pairs : List ℕ) (offset size p : ℕ) (names : List Name) → bytes_at b offset size ≡ Ok part → p ≡ offset + size → pairs_at b p ≡ Ok pairs → names_up_to part pairs (length pairs / 8) ≡ Ok names → names_of b offset size ≡ Ok names
unfolding names_of
all_names b part pairs offset size p names h at q all = rw (h, ← at, q) all
