-- Frames that are put one after another.
use Rattle.std.proofs.Common.{◌≡◌, ℕ, suc, ◌+◌, List, [], ◌∷◌, ◌++◌, map, length, drop, refl, sym, ap, ◌∙◌, arith, ◌<◌, length-append, length-drop}
use Rattle.pdb_resolve.specs.Frames.{Frame}
use Rattle.pdb_resolve.specs.declared.frames.Frame.{Frame as FrameRead}
use Rattle.pdb_resolve.specs.KeptFrames.{shown_frame}
use Rattle.pdb_c.specs.Rooms.{put}
use Rattle.pdb_c.specs.declared.frames.PdbFrame.{PdbFrame}
use Rattle.pdb_c.specs.declared.frames.PdbAddress.{PdbAddress}
use Rattle.pdb_c.specs.FrameRows.{frame_row, frame_rows, frame_bytes, frames_bytes, frames_asked, bytes_asked, all_rows, all_names}
use Rattle.pdb_c.proofs.Putting.{put_next}

frame_rows_length : (k at : ℕ) (fs : List Frame) → length (frame_rows k at fs) ≡ length fs
frame_rows_length k at [] = refl
frame_rows_length k at (f ∷ fs) = ap suc (frame_rows_length k (at + length (frame_bytes f)) fs)

-- ---- the frames of one address

pub rows_next : (k : ℕ) (left others : List FrameRead) (count more size behind : ℕ) (x : FrameRead) (rows after all : List PdbFrame) → left ≡ x ∷ others → after ≡ put count (frame_row k size (shown_frame x) ∷ []) rows → more ≡ count + 1 → behind ≡ size + length (frame_bytes (shown_frame x)) → put count (frame_rows k size (map shown_frame left)) rows ≡ all → put more (frame_rows k behind (map shown_frame others)) after ≡ all
rows_next k left others count more size behind x rows after all e put_one counted on so_far =
    let row = frame_row k size (shown_frame x) in
    put_next count more (row ∷ []) (frame_rows k behind (map shown_frame others)) rows after put_one counted
    ∙ ap (λ (s : ℕ). put count (row ∷ frame_rows k s (map shown_frame others)) rows) on
    ∙ ap (λ (fs : List FrameRead). put count (frame_rows k size (map shown_frame fs)) rows) (sym e)
    ∙ so_far

pub counts_next : (found : List FrameRead) (n count more all : ℕ) → n < length found → more ≡ count + 1 → count + length (drop n found) ≡ all → more + length (drop (n + 1) found) ≡ all
counts_next found n count more all inside counted so_far =
    let here = length-drop n found in
    let behind = length-drop (n + 1) found in
    omega (arith, inside, counted, so_far, here, behind)

pub names_next : (left others : List FrameRead) (size behind : ℕ) (x : FrameRead) (names after all : List ℕ) → left ≡ x ∷ others → after ≡ put size (frame_bytes (shown_frame x)) names → behind ≡ size + length (frame_bytes (shown_frame x)) → put size (frames_bytes (map shown_frame left)) names ≡ all → put behind (frames_bytes (map shown_frame others)) after ≡ all
names_next left others size behind x names after all e put_one on so_far =
    put_next size behind (frame_bytes (shown_frame x)) (frames_bytes (map shown_frame others)) names after put_one on
    ∙ ap (λ (fs : List FrameRead). put size (frames_bytes (map shown_frame fs)) names) (sym e)
    ∙ so_far

pub sizes_next : (left others : List FrameRead) (size behind all : ℕ) (x : FrameRead) → left ≡ x ∷ others → behind ≡ size + length (frame_bytes (shown_frame x)) → size + length (frames_bytes (map shown_frame left)) ≡ all → behind + length (frames_bytes (map shown_frame others)) ≡ all
sizes_next left others size behind all x e on so_far =
    let both : length (frames_bytes (map shown_frame left)) ≡ length (frame_bytes (shown_frame x)) + length (frames_bytes (map shown_frame others)) =
    ap (λ (fs : List FrameRead). length (frames_bytes (map shown_frame fs))) e ∙ length-append (frame_bytes (shown_frame x)) (frames_bytes (map shown_frame others)) in
    omega (arith, both, on, so_far)

-- ---- the frames of all addresses

pub all_rows_next : (file : List ℕ) (k : ℕ) (left others : List PdbAddress) (count more size behind : ℕ) (a : PdbAddress) (rows after all : List PdbFrame) → left ≡ a ∷ others → after ≡ put count (frame_rows k size (frames_asked file a)) rows → more ≡ count + length (frames_asked file a) → behind ≡ size + length (bytes_asked file a) → put count (all_rows file k size left) rows ≡ all → put more (all_rows file (k + 1) behind others) after ≡ all
all_rows_next file k left others count more size behind a rows after all e put_one counted on so_far =
    let here = frame_rows k size (frames_asked file a) in
    put_next count more here (all_rows file (k + 1) behind others) rows after put_one (counted ∙ ap (λ (n : ℕ). count + n) (sym (frame_rows_length k size (frames_asked file a))))
    ∙ ap (λ (s : ℕ). put count (here ++ all_rows file (k + 1) s others) rows) on
    ∙ ap (λ (more_asked : List PdbAddress). put count (all_rows file k size more_asked) rows) (sym e)
    ∙ so_far

pub all_counts_next : (file : List ℕ) (k : ℕ) (left others : List PdbAddress) (count more size behind all : ℕ) (a : PdbAddress) → left ≡ a ∷ others → more ≡ count + length (frames_asked file a) → behind ≡ size + length (bytes_asked file a) → count + length (all_rows file k size left) ≡ all → more + length (all_rows file (k + 1) behind others) ≡ all
all_counts_next file k left others count more size behind all a e counted on so_far =
    let here = frame_rows k size (frames_asked file a) in
    let rest = all_rows file (k + 1) (size + length (bytes_asked file a)) others in
    let both : length (all_rows file k size left) ≡ length here + length rest = ap (λ (more_asked : List PdbAddress). length (all_rows file k size more_asked)) e ∙ length-append here rest in
    let behind_it : length (all_rows file (k + 1) behind others) ≡ length rest = ap (λ (s : ℕ). length (all_rows file (k + 1) s others)) on in
    let frames = frame_rows_length k size (frames_asked file a) in
    omega (arith, both, behind_it, frames, counted, so_far)

pub all_names_next : (file : List ℕ) (left others : List PdbAddress) (size behind : ℕ) (a : PdbAddress) (names after all : List ℕ) → left ≡ a ∷ others → after ≡ put size (bytes_asked file a) names → behind ≡ size + length (bytes_asked file a) → put size (all_names file left) names ≡ all → put behind (all_names file others) after ≡ all
all_names_next file left others size behind a names after all e put_one on so_far =
    put_next size behind (bytes_asked file a) (all_names file others) names after put_one on
    ∙ ap (λ (more_asked : List PdbAddress). put size (all_names file more_asked) names) (sym e)
    ∙ so_far

pub all_sizes_next : (file : List ℕ) (left others : List PdbAddress) (size behind all : ℕ) (a : PdbAddress) → left ≡ a ∷ others → behind ≡ size + length (bytes_asked file a) → size + length (all_names file left) ≡ all → behind + length (all_names file others) ≡ all
all_sizes_next file left others size behind all a e on so_far =
    let both : length (all_names file left) ≡ length (bytes_asked file a) + length (all_names file others) =
    ap (λ (more_asked : List PdbAddress). length (all_names file more_asked)) e ∙ length-append (bytes_asked file a) (all_names file others) in
    omega (arith, both, on, so_far)
