-- A file that is made of streams.
use Rattle.std.specs.Prelude.{ℕ, ◌+◌, ◌-◌, ◌*◌, ◌%◌, List, [], ◌∷◌, ◌++◌, length, replicate, Option, Some, None, Result, Ok, Err, Bool, nat_lt, nat_le, ◌||◌, if◌then◌else◌, sum_by, codes, flat_map}
use Rattle.std.specs.Option.{option_map}
use Rattle.std.specs.Borrow.{Bor}
use Rattle.std.specs.List.{range_with_len, list_any}
use Rattle.std.specs.Int.{div_ceil, to_le_bytes, w32}
use Rattle.pdb_base.specs.declared.error.Error.{Error}
use Rattle.pdb_base.specs.declared.error.Error.TheVariants.{InvalidStreamLength}
use Rattle.pdb_base.specs.declared.error.Part.TheVariants.{Sample}

-- a stream's bytes; none where it is absent
abbrev pub Stream : Type 0
Stream = Option (List ℕ)

-- the bytes that a reference names
abbrev pub stream_of : Option (Bor (List ℕ)) → Stream
stream_of s = option_map (λ b. b.now) s

-- the size of a page
abbrev pub page : ℕ
page = 512

-- how many pages a size takes
abbrev pub pages : ℕ → ℕ
pages size = div_ceil size page

-- the size that the directory says: 0xffffffff of an absent stream
abbrev pub size_told : Stream → ℕ
size_told None = 4294967295
size_told (Some bytes) = length bytes

-- the bytes that stand in pages
abbrev pub bytes_of : Stream → List ℕ
bytes_of None = []
bytes_of (Some bytes) = bytes

abbrev pub stream_pages : Stream → ℕ
stream_pages s = pages (length (bytes_of s))

-- the pages of all streams
abbrev pub all_pages : List Stream → ℕ
all_pages streams = sum_by stream_pages streams

-- the directory: how many streams there are, their sizes, and a number for each page
unfoldable pub directory_size : List Stream → ℕ
directory_size streams = 4 + 4 * length streams + 4 * all_pages streams

abbrev pub directory_pages : List Stream → ℕ
directory_pages streams = pages (directory_size streams)

-- the list of the directory's pages
abbrev pub list_pages : List Stream → ℕ
list_pages streams = pages (4 * directory_pages streams)

-- all pages of the file; the first three are the header's and two that are empty
abbrev pub file_pages : List Stream → ℕ
file_pages streams = 3 + all_pages streams + directory_pages streams + list_pages streams

-- a stream has more bytes than the directory can say
abbrev pub is_too_long : Stream → Bool
is_too_long s = nat_le 4294967295 (length (bytes_of s))

-- where no file is made
unfoldable pub is_refused : List Stream → Bool
is_refused streams =
    list_any is_too_long streams
    || nat_lt 4294967295 (file_pages streams)
    || nat_le 4294967296 (directory_size streams)
    || nat_lt 115 (list_pages streams)

-- a number in four bytes
unfoldable pub number_bytes : ℕ → List ℕ
number_bytes n = to_le_bytes w32 n

-- neighbouring page numbers
abbrev pub numbers_from : ℕ → ℕ → List ℕ
numbers_from first count = flat_map number_bytes (range_with_len first count)

-- bytes, and zero bytes up to the end of their last page
unfoldable pub padded : List ℕ → List ℕ
padded bytes = bytes ++ replicate ((page - length bytes % page) % page) 0

abbrev pub padded_stream : Stream → List ℕ
padded_stream s = padded (bytes_of s)

-- the first bytes of every file
unfoldable pub magic : List ℕ
magic = codes "Microsoft C/C++ MSF 7.00\r\n" ++ 26 ∷ 68 ∷ 83 ∷ 0 ∷ 0 ∷ 0 ∷ []

-- the header, by the pages of all streams, the directory's size and pages and the pages of its page list: the magic bytes, page size, free map page, pages, the directory's size, 0, and the numbers of the page list's pages
unfoldable pub header_bytes : ℕ → ℕ → ℕ → ℕ → List ℕ
header_bytes all size directory list = magic
    ++ number_bytes page ++ number_bytes 1 ++ number_bytes (3 + all + directory + list) ++ number_bytes size ++ number_bytes 0
    ++ numbers_from (3 + all + directory) list

-- a stream's size in the directory
abbrev pub size_entry : Stream → List ℕ
size_entry s = number_bytes (size_told s)

-- the directory
unfoldable pub directory_bytes : List Stream → List ℕ
directory_bytes streams = number_bytes (length streams) ++ flat_map size_entry streams ++ numbers_from 3 (all_pages streams)

-- the directory's page numbers
abbrev pub page_list : List Stream → List ℕ
page_list streams = numbers_from (3 + all_pages streams) (directory_pages streams)

-- the whole file
unfoldable pub file_bytes : List Stream → List ℕ
file_bytes streams =
    padded (header_bytes (all_pages streams) (directory_size streams) (directory_pages streams) (list_pages streams)) ++ replicate page 0 ++ replicate page 0 ++ flat_map padded_stream streams ++ padded (directory_bytes streams) ++ padded (page_list streams)

-- the file, or its refusal
unfoldable pub made : List Stream → Result (List ℕ) Error
made streams = if is_refused streams then Err (InvalidStreamLength Sample) else Ok (file_bytes streams)
