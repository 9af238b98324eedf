-- Opening a file and reading a stream, step by step.
use Rattle.std.proofs.Common.{◌≡◌, ℕ, ◌*◌, Bool, true, false, cond, List, length, map, Option, Some, None, Result, Ok, Err, refl, ap, ◌∙◌}
use Rattle.std.specs.Prelude.{slice_index, ◌+◌, ◌&&◌, ◌==◌, IfErr, nat_lt, nat_le, not, if◌then◌else◌}
use Rattle.std.specs.List.{find, list_all}
use Rattle.std.specs.Int.{div_ceil}
use Rattle.std.proofs.lemmas.List.{length-map}
use Rattle.std.proofs.lemmas.List.FromFn.{length-map-range_with_len}
use Rattle.pdb_base.specs.declared.error.Error.{Error}
use Rattle.pdb_base.specs.declared.error.Error.TheVariants.{UnexpectedEof, StreamNotFound}
use Rattle.std.specs.Prelude.{IsOk}
use Rattle.pdb_base.specs.Refusal.{Fails, ◌>>=◌}
use Rattle.pdb_base.specs.Source.{State}
use Rattle.pdb_base.specs.Fields.{number}
use Rattle.pdb_base.specs.Container.{IsOpened, RefusesStreams, is_page, absent, numbers_at, numbers, place, places, tested, unless_refused, bytes_of_places, paged, head_of, Head, list_of, open_of, Opened, opens, size_of, limited, pages_at, front_of, stream_of, pages_needed}
use Rattle.pdb_base.proofs.Passing.{fails_bind}

-- ---- lengths

bind_ok : {A B : Type 0} (r : Result A Error) (f : A → Result B Error) (y : B) → (r >>= f) ≡ Ok y → (x : A) × (r ≡ Ok x) × (f x ≡ Ok y)
bind_ok (Ok x) f y e = (x, refl, e)
bind_ok (Err d) f y e = absurd cc

test_ok : {A : Type 0} (b : Bool) (d : Error) (x y : A) → cond b (Ok x) (Err d) ≡ Ok y → y ≡ x
test_ok true d x y e = cc
test_ok false d x y e = absurd cc

unless_ok : {A : Type 0} (o : Option ℕ) (x y : A) → unless_refused o x ≡ Ok y → y ≡ x
unless_ok (Some page) x y e = absurd cc
unless_ok None x y e = cc

pub tested-length : (P used : ℕ) (pages : List ℕ) (size : ℕ) (ps : List ℕ) → tested P used pages size ≡ Ok ps → length ps ≡ size
unfolding tested places
tested-length P used pages size ps e = ap length (unless_ok _ (places P pages size) ps e) ∙ length-map-range_with_len (place P pages) 0 size

bytes_of_places-length : (file ps bytes : List ℕ) → bytes_of_places file ps ≡ Ok bytes → length bytes ≡ length ps
unfolding bytes_of_places
bytes_of_places-length file ps bytes e = ap length (test_ok _ _ (map (slice_index file) ps) bytes e) ∙ length-map ps (slice_index file)

pub paged-length : (file : List ℕ) (P used : ℕ) (pages : List ℕ) (size : ℕ) (bytes : List ℕ) → paged file P used pages size ≡ Ok bytes → length bytes ≡ size
unfolding paged
paged-length file P used pages size bytes e =
    let b = bind_ok (tested P used pages size) (bytes_of_places file) bytes e in
    bytes_of_places-length file b.0 bytes b.2 ∙ tested-length P used pages size b.0 b.1

-- ---- open

abbrev then_directory : List ℕ → Head → List ℕ → Result Opened Error
then_directory file h list = paged file h.page_size h.pages_used (numbers list 0 (div_ceil h.directory_size h.page_size)) h.directory_size >>= λ directory. Ok (record { page_size = h.page_size; pages_used = h.pages_used; directory = directory })

pub open-head_fails : (io io' : Type 0) (e : Error) (file : List ℕ) → (io → io') → Fails io e (head_of file) → Fails io' e (opens file)
unfolding opens open_of
open-head_fails io io' e file f p = fails_bind io' io' e (open_of file) (λ o. Ok tt) (λ x. x) (fails_bind io io' e (head_of file) (λ h. list_of file h >>= λ list. then_directory file h list) f p)

pub open-list_fails : (io io' : Type 0) (e : Error) (file : List ℕ) (h : Head) → head_of file ≡ Ok h → (io → io') → Fails io e (list_of file h) → Fails io' e (opens file)
unfolding opens open_of
open-list_fails io io' e file h eh f p = rw eh (fails_bind io' io' e (list_of file h >>= λ list. then_directory file h list) (λ o. Ok tt) (λ x. x) (fails_bind io io' e (list_of file h) (λ list. then_directory file h list) f p))

pub open-directory_fails : (io io' : Type 0) (e : Error) (file : List ℕ) (h : Head) (list : List ℕ) → head_of file ≡ Ok h → list_of file h ≡ Ok list → (io → io')
    → Fails io e (paged file h.page_size h.pages_used (numbers list 0 (div_ceil h.directory_size h.page_size)) h.directory_size) → Fails io' e (opens file)
unfolding opens open_of
open-directory_fails io io' e file h list eh el f p =
    rw (eh, el) (fails_bind io' io' e (then_directory file h list) (λ o. Ok tt) (λ x. x)
    (fails_bind io io' e (paged file h.page_size h.pages_used (numbers list 0 (div_ceil h.directory_size h.page_size)) h.directory_size) (λ directory. Ok (record { page_size = h.page_size; pages_used = h.pages_used; directory = directory })) f p))

pub open-done : (file : List ℕ) (h : Head) (list directory : List ℕ) → head_of file ≡ Ok h → list_of file h ≡ Ok list
    → paged file h.page_size h.pages_used (numbers list 0 (div_ceil h.directory_size h.page_size)) h.directory_size ≡ Ok directory
    → open_of file ≡ Ok (record { page_size = h.page_size; pages_used = h.pages_used; directory = directory })
unfolding open_of
open-done file h list directory eh el ed = rw (eh, el, ed) refl

pub opens-done : (file : List ℕ) (o : Opened) → open_of file ≡ Ok o → opens file ≡ Ok tt
unfolding opens
opens-done file o e = rw e refl

-- what an opened file keeps
pub opened_opens : (before after : State) (P used : ℕ) (directory sums : List ℕ) → IsOpened before.file P used directory sums → before ≡ after → opens after.file ≡ Ok tt
opened_opens before after P used directory sums h same = opens-done after.file _ (rw same at h.opened)

-- ---- get

pub get-size_fails : (io io' : Type 0) (e : Error) (file : List ℕ) (o : Opened) (n : ℕ) (limit : Option ℕ) → open_of file ≡ Ok o → (io → io') → Fails io e (size_of o.directory n) → Fails io' e (stream_of file n limit)
unfolding stream_of front_of
get-size_fails io io' e file o n limit eo f p = rw eo (fails_bind io io' e (size_of o.directory n) (λ size. pages_at o.directory o.page_size n (limited limit size) >>= λ pages. paged file o.page_size o.pages_used pages (limited limit size)) f p)

pub get-pages_fails : (io io' : Type 0) (e : Error) (file : List ℕ) (o : Opened) (n size m : ℕ) (limit : Option ℕ) → open_of file ≡ Ok o → size_of o.directory n ≡ Ok size → m ≡ limited limit size → (io → io')
    → Fails io e (pages_at o.directory o.page_size n m) → Fails io' e (stream_of file n limit)
unfolding stream_of front_of
get-pages_fails io io' e file o n size m limit eo es lim f p = rw (eo, es, ← lim) (fails_bind io io' e (pages_at o.directory o.page_size n m) (λ pages. paged file o.page_size o.pages_used pages m) f p)

pub get-is : (file : List ℕ) (o : Opened) (n size m : ℕ) (limit : Option ℕ) (pages : List ℕ) → open_of file ≡ Ok o → size_of o.directory n ≡ Ok size → m ≡ limited limit size → pages_at o.directory o.page_size n m ≡ Ok pages
    → stream_of file n limit ≡ paged file o.page_size o.pages_used pages m
unfolding stream_of front_of
get-is file o n size m limit pages eo es lim ep = rw (eo, es, ← lim, ep) refl

pub needed-there : (file : List ℕ) (o : Opened) (n size m : ℕ) (limit : Option ℕ) (pages : List ℕ) → open_of file ≡ Ok o → size_of o.directory n ≡ Ok size → m ≡ limited limit size → pages_at o.directory o.page_size n m ≡ Ok pages → IsOk (pages_needed file n limit)
unfolding pages_needed
needed-there file o n size m limit pages eo es lim ep = rw (eo, es, ← lim, ep) refl

-- ---- what refuses a stream of a file that opens

bind_refused : {A B : Type 0} (r : Result A Error) (f : A → Result B Error) → IfErr r RefusesStreams → ((x : A) → IfErr (f x) RefusesStreams) → IfErr (r >>= f) RefusesStreams
bind_refused (Ok x) f h k = k x
bind_refused (Err e) f h k = h

unless_refuses : {A : Type 0} (o : Option ℕ) (x : A) → IfErr (unless_refused o x) RefusesStreams
unless_refuses (Some page) x = tt
unless_refuses None x = tt

places_refuse : (file ps : List ℕ) → IfErr (bytes_of_places file ps) RefusesStreams
unfolding bytes_of_places
places_refuse file ps = by_test (list_all (λ p. nat_lt p (length file)) ps)
  where
    by_test : (b : Bool) → IfErr (if b then Ok (map (slice_index file) ps) else Err UnexpectedEof) RefusesStreams
    by_test true = tt
    by_test false = tt

paged_refuses : (file : List ℕ) (P used : ℕ) (pages : List ℕ) (size : ℕ) → IfErr (paged file P used pages size) RefusesStreams
unfolding paged tested
paged_refuses file P used pages size = bind_refused (tested P used pages size) (bytes_of_places file) (unless_refuses (find (λ page. not (is_page used page)) pages) (places P pages size)) (places_refuse file)

size_refuses : (directory : List ℕ) (n : ℕ) → IfErr (size_of directory n) RefusesStreams
unfolding size_of
size_refuses directory n = by_tests (nat_lt (length directory) 4) (nat_le (number directory 0 4) n) (nat_lt (length directory) (4 + 4 * number directory 0 4)) (number directory (4 + 4 * n) 4 == absent) (number directory (4 + 4 * n) 4)
  where
    by_tests : (a b c d : Bool) (size : ℕ) → IfErr (if a then Err UnexpectedEof else (if b then Err (StreamNotFound n) else (if c then Err UnexpectedEof else (if d then Err (StreamNotFound n) else Ok size)))) RefusesStreams
    by_tests true b c d size = tt
    by_tests false true c d size = tt
    by_tests false false true d size = tt
    by_tests false false false true size = tt
    by_tests false false false false size = tt

pages_refuse : (directory : List ℕ) (P n e : ℕ) → IfErr (pages_at directory P n e) RefusesStreams
unfolding pages_at
pages_refuse directory P n e = by_test (nat_lt 0 (div_ceil e P) && nat_lt (length directory) (numbers_at directory P n + 4 * div_ceil e P))
  where
    by_test : (b : Bool) → IfErr (if b then Err UnexpectedEof else Ok (numbers directory (numbers_at directory P n) (div_ceil e P))) RefusesStreams
    by_test true = tt
    by_test false = tt

front_refuses : (file : List ℕ) (o : Opened) (n : ℕ) (limit : Option ℕ) → IfErr (front_of file o n limit) RefusesStreams
unfolding front_of
front_refuses file o n limit = bind_refused (size_of o.directory n) _ (size_refuses o.directory n) (λ size.
    bind_refused (pages_at o.directory o.page_size n (limited limit size)) _ (pages_refuse o.directory o.page_size n (limited limit size)) (λ pages.
    paged_refuses file o.page_size o.pages_used pages (limited limit size)))

pub opened_refuses : (file : List ℕ) (n : ℕ) (limit : Option ℕ) → opens file ≡ Ok tt → IfErr (stream_of file n limit) RefusesStreams
unfolding opens stream_of
opened_refuses file n limit h =
    let o = bind_ok (open_of file) (λ o. Ok tt) tt h in
    rw o.1 (front_refuses file o.0 n limit)
