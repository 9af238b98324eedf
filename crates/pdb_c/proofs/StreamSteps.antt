-- Streams that are put one after another.
use Rattle.std.proofs.Common.{◌≡◌, ℕ, ◌+◌, List, [], ◌∷◌, length, drop, refl, sym, ap, ◌∙◌, arith, length-append}
use Rattle.pdb_c.specs.Rooms.{put}
use Rattle.pdb_c.specs.Streams.{stream_read, stream_row, stream_rows, bytes_of_stream, all_bytes}
use Rattle.pdb_c.specs.declared.streams.PdbStream.{PdbStream}
use Rattle.pdb_c.proofs.Putting.{put_next}

pub rows_next : (file numbers : List ℕ) (n size behind x : ℕ) (rows after all : List PdbStream) → drop n numbers ≡ x ∷ drop (n + 1) numbers → after ≡ put n (stream_row size x (stream_read file x) ∷ []) rows → behind ≡ size + length (bytes_of_stream file x) → put n (stream_rows file size (drop n numbers)) rows ≡ all → put (n + 1) (stream_rows file behind (drop (n + 1) numbers)) after ≡ all
rows_next file numbers n size behind x rows after all e put_one on so_far =
    let row = stream_row size x (stream_read file x) in
    let rest = drop (n + 1) numbers in
    put_next n (n + 1) (row ∷ []) (stream_rows file behind rest) rows after put_one refl
    ∙ ap (λ (s : ℕ). put n (row ∷ stream_rows file s rest) rows) on
    ∙ ap (λ (ns : List ℕ). put n (stream_rows file size ns) rows) (sym e)
    ∙ so_far

pub bytes_next : (file numbers : List ℕ) (n size behind x : ℕ) (room after all : List ℕ) → drop n numbers ≡ x ∷ drop (n + 1) numbers → after ≡ put size (bytes_of_stream file x) room → behind ≡ size + length (bytes_of_stream file x) → put size (all_bytes file (drop n numbers)) room ≡ all → put behind (all_bytes file (drop (n + 1) numbers)) after ≡ all
bytes_next file numbers n size behind x room after all e put_one on so_far =
    put_next size behind (bytes_of_stream file x) (all_bytes file (drop (n + 1) numbers)) room after put_one on
    ∙ ap (λ (ns : List ℕ). put size (all_bytes file ns) room) (sym e)
    ∙ so_far

pub sizes_next : (file numbers : List ℕ) (n size behind x all : ℕ) → drop n numbers ≡ x ∷ drop (n + 1) numbers → behind ≡ size + length (bytes_of_stream file x) → size + length (all_bytes file (drop n numbers)) ≡ all → behind + length (all_bytes file (drop (n + 1) numbers)) ≡ all
sizes_next file numbers n size behind x all e on so_far =
    let here = ap (λ (ns : List ℕ). length (all_bytes file ns)) e in
    let both : length (all_bytes file (drop n numbers)) ≡ length (bytes_of_stream file x) + length (all_bytes file (drop (n + 1) numbers)) = here ∙ length-append (bytes_of_stream file x) (all_bytes file (drop (n + 1) numbers)) in
    omega arith
