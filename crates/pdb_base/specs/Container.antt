-- The container: which bytes of the file a stream has, by places, and the first refusal.
use Rattle.std.specs.Prelude.{◌≡◌, ℕ, ◌+◌, ◌*◌, ◌/◌, ◌%◌, ◌^◌, ◌≤◌, ◌<◌, min, Bool, not, ◌&&◌, ◌||◌, List, [], ◌∷◌, ◌++◌, map, length, slice_index, Option, Some, None, Result, Ok, Err, nat_lt, nat_le, nat_eq, ◌==◌, if◌then◌else◌, codes}
use Rattle.std.specs.List.{range_with_len, sum_by, list_all, list_any, find, starts_with}
use Rattle.std.specs.Int.{div_ceil}
use Rattle.pdb_base.specs.declared.error.Feature.TheVariants.{SmallMsf}
use Rattle.pdb_base.specs.declared.error.Error.{Error}
use Rattle.pdb_base.specs.declared.error.Error.TheVariants.{UnexpectedEof, UnimplementedFeature, UnrecognizedFileFormat, InvalidPageSize, PageReferenceOutOfRange, StreamNotFound}
use Rattle.pdb_base.specs.Refusal.{◌>>=◌}
use Rattle.pdb_base.specs.Fields.{number}

-- count numbers of four bytes, from p on
unfoldable pub numbers : List ℕ → ℕ → ℕ → List ℕ
numbers bytes p count = map (λ k. number bytes (p + 4 * k) 4) (range_with_len 0 count)

-- where in the file byte i stands of a stream over these pages of P bytes
abbrev pub place : ℕ → List ℕ → ℕ → ℕ
place P pages i = slice_index pages (i / P) * P + i % P

unfoldable pub places : ℕ → List ℕ → ℕ → List ℕ
places P pages size = map (place P pages) (range_with_len 0 size)

-- the bytes at these places, or the end of the file where one is past it
unfoldable pub bytes_of_places : List ℕ → List ℕ → Result (List ℕ) Error
bytes_of_places file ps = if list_all (λ p. nat_lt p (length file)) ps then Ok (map (slice_index file) ps) else Err UnexpectedEof

abbrev pub is_page : ℕ → ℕ → Bool
is_page used page = nat_lt 0 page && nat_lt page used

abbrev pub unless_refused : {A : Type 0} → Option ℕ → A → Result A Error
unless_refused (Some page) x = Err (PageReferenceOutOfRange page)
unless_refused None x = Ok x

-- the places of a stream, or the first number that is no page
unfoldable pub tested : ℕ → ℕ → List ℕ → ℕ → Result (List ℕ) Error
tested P used pages size = unless_refused (find (λ page. not (is_page used page)) pages) (places P pages size)

-- a stream of size bytes over these pages
unfoldable pub paged : List ℕ → ℕ → ℕ → List ℕ → ℕ → Result (List ℕ) Error
paged file P used pages size = tested P used pages size >>= bytes_of_places file

abbrev pub small_magic : List ℕ
small_magic = codes "Microsoft C/C++ program database 2.00"

abbrev pub magic : List ℕ
magic = codes "Microsoft C/C++ MSF 7.00" ++ 13 ∷ 10 ∷ 26 ∷ 68 ∷ 83 ∷ 0 ∷ 0 ∷ 0 ∷ []

-- a power of two from 256 to 8388608
abbrev pub is_page_size : ℕ → Bool
is_page_size n = list_any (λ k. n == 2 ^ k) (range_with_len 8 16)

pub record Head : Type 0 where
  pub page_size : ℕ
  pub pages_used : ℕ
  pub directory_size : ℕ

unfoldable pub head_of : List ℕ → Result Head Error
head_of file =
    if nat_lt (length file) 52 then Err UnrecognizedFileFormat
    else (if starts_with nat_eq file small_magic then Err (UnimplementedFeature SmallMsf)
    else (if not (starts_with nat_eq file magic) then Err UnrecognizedFileFormat
    else (if not (is_page_size (number file 32 4)) then Err (InvalidPageSize (number file 32 4))
    else Ok (record { page_size = number file 32 4; pages_used = number file 40 4; directory_size = number file 44 4 }))))

-- an opened file: the page size, the pages used, and the bytes of the directory
pub record Opened : Type 0 where
  pub page_size : ℕ
  pub pages_used : ℕ
  pub directory : List ℕ

-- the bytes that list the directory's pages
unfoldable pub list_of : List ℕ → Head → Result (List ℕ) Error
list_of file h =
    let wanted = 4 * div_ceil h.directory_size h.page_size in
    let count = div_ceil wanted h.page_size in
    if nat_lt h.page_size (52 + 4 * count) || nat_lt (length file) (52 + 4 * count) then Err UnexpectedEof
    else paged file h.page_size h.pages_used (numbers file 52 count) wanted

unfoldable pub open_of : List ℕ → Result Opened Error
open_of file = do
  h ← head_of file
  list ← list_of file h
  directory ← paged file h.page_size h.pages_used (numbers list 0 (div_ceil h.directory_size h.page_size)) h.directory_size
  Ok (record { page_size = h.page_size; pages_used = h.pages_used; directory = directory })

abbrev pub absent : ℕ
absent = 4294967295

-- how many pages stream i has, by the directory
abbrev pub pages_of : List ℕ → ℕ → ℕ → ℕ
pages_of directory P i = if number directory (4 + 4 * i) 4 == absent then 0 else div_ceil (number directory (4 + 4 * i) 4) P

-- where the page numbers of stream n stand in the directory
unfoldable pub numbers_at : List ℕ → ℕ → ℕ → ℕ
numbers_at directory P n = 4 + 4 * number directory 0 4 + 4 * sum_by (pages_of directory P) (range_with_len 0 n)

-- the size of stream n
unfoldable pub size_of : List ℕ → ℕ → Result ℕ Error
size_of directory n =
    if nat_lt (length directory) 4 then Err UnexpectedEof
    else (if nat_le (number directory 0 4) n then Err (StreamNotFound n)
    else (if nat_lt (length directory) (4 + 4 * number directory 0 4) then Err UnexpectedEof
    else (if number directory (4 + 4 * n) 4 == absent then Err (StreamNotFound n)
    else Ok (number directory (4 + 4 * n) 4))))

-- how many streams there are
unfoldable pub count_of : List ℕ → Result ℕ Error
count_of directory =
    if nat_lt (length directory) 4 then Err UnexpectedEof
    else (if nat_lt (length directory) (4 + 4 * number directory 0 4) then Err UnexpectedEof
    else Ok (number directory 0 4))

abbrev pub limited : Option ℕ → ℕ → ℕ
limited None size = size
limited (Some limit) size = min limit size

-- the page numbers of the first e bytes of stream n, or the end of the directory
unfoldable pub pages_at : List ℕ → ℕ → ℕ → ℕ → Result (List ℕ) Error
pages_at directory P n e =
    if nat_lt 0 (div_ceil e P) && nat_lt (length directory) (numbers_at directory P n + 4 * div_ceil e P) then Err UnexpectedEof
    else Ok (numbers directory (numbers_at directory P n) (div_ceil e P))

-- the first bytes of stream n, as many as the limit says, or all
unfoldable pub front_of : List ℕ → Opened → ℕ → Option ℕ → Result (List ℕ) Error
front_of file o n limit = do
  size ← size_of o.directory n
  pages ← pages_at o.directory o.page_size n (limited limit size)
  paged file o.page_size o.pages_used pages (limited limit size)

-- the page numbers that the first bytes of a file's stream need
unfoldable pub pages_needed : List ℕ → ℕ → Option ℕ → Result (List ℕ) Error
pages_needed file n limit = open_of file >>= λ o. size_of o.directory n >>= λ size. pages_at o.directory o.page_size n (limited limit size)

unfoldable pub stream_of : List ℕ → ℕ → Option ℕ → Result (List ℕ) Error
stream_of file n limit = open_of file >>= λ o. front_of file o n limit

-- whether a file opens
unfoldable pub opens : List ℕ → Result (Unit {0}) Error
opens file = open_of file >>= λ o. Ok tt

-- what refuses a stream of a file that opens: the end of the file or of the directory, a number that is no page's, or that there is no such stream
abbrev pub RefusesStreams : Error → Type 0
RefusesStreams UnexpectedEof = Unit {0}
RefusesStreams (PageReferenceOutOfRange page) = Unit {0}
RefusesStreams (StreamNotFound n) = Unit {0}
RefusesStreams e = ⊥

-- the k-th of them is how many pages the streams before stream k have together; each stream of a directory with all sizes has one
pub record ArePagesBefore (directory : List ℕ) (P : ℕ) (before : List ℕ) : Type 0 where
  pub each : (k : ℕ) → k < length before → slice_index before k ≡ sum_by (pages_of directory P) (range_with_len 0 k)
  pub small : (k : ℕ) → k < length before → slice_index before k ≤ k * 2 ^ 25
  pub all : 4 + 4 * number directory 0 4 ≤ length directory → length before ≡ number directory 0 4

-- what is kept of an opened file
pub record IsOpened (file : List ℕ) (page_size used : ℕ) (directory before : List ℕ) : Type 0 where
  pub opened : open_of file ≡ Ok (record { page_size = page_size; pages_used = used; directory = directory })
  pub large : 256 ≤ page_size
  pub sums : ArePagesBefore directory page_size before

-- all page numbers of stream n, where they are there
unfoldable pub page_numbers_of : List ℕ → ℕ → Result (List ℕ) Error
page_numbers_of file n = open_of file >>= λ o. size_of o.directory n >>= λ size. pages_at o.directory o.page_size n size

-- how many streams a file has, and the size of stream n
unfoldable pub stream_count : List ℕ → Result ℕ Error
stream_count file = open_of file >>= λ o. count_of o.directory

unfoldable pub stream_size : List ℕ → ℕ → Result ℕ Error
stream_size file n = open_of file >>= λ o. size_of o.directory n
