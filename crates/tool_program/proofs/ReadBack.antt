-- JSON values that are written read back.
use Rattle.std.proofs.Common.{◌≡◌, ℕ, ◌<◌, ◌≤◌, ◌^◌, List, [], ◌∷◌, Option, Some, None, decimal, refl, arith}
use Rattle.std.specs.List.{AllByRecursion}
use Rattle.json.specs.Json.{document}
use Rattle.json.specs.Print.{print, IsNumber}
use Rattle.json.specs.Tree.{depth, items_depth, HasNumbers, ItemsHaveNumbers, json_tokens}
use Rattle.json.proofs.Printed.Decimals.{IsNumber-decimal}
use Rattle.json.proofs.Printed.Trees.{document-print}
use Rattle.pdb.specs.Qualified.{Qualified}
use Rattle.pdb_resolve.specs.Frames.{Frame, qualified_text}
use Rattle.tool_search.specs.FrameObjects.{HasLine, asked_value, file_value, frame_items, frame_value, name_value, unasked_value}
use Rattle.tool_output.specs.Objects.{known_value}

-- ---- numbers

known_numbers : (bytes : List ℕ) → HasNumbers (known_value bytes)
known_numbers [] = tt
known_numbers (b ∷ bytes) = tt

pub name_numbers : (name : Option Qualified) → HasNumbers (name_value name)
name_numbers None = tt
name_numbers (Some name) = known_numbers (qualified_text (Some name))

pub file_numbers : (file : Option (List ℕ)) → HasNumbers (file_value file)
file_numbers None = tt
file_numbers (Some name) = known_numbers name

pub number_below : (n : ℕ) → n < 2 ^ 32 → IsNumber (decimal n)
number_below n h = IsNumber-decimal n (omega arith)

frame_numbers : (f : Frame) → HasLine f → HasNumbers (frame_value f)
frame_numbers f h = (name_numbers f.name, (file_numbers f.file, (number_below f.line h.line, (number_below f.column h.column, tt))))

frames_numbers : (fs : List Frame) → AllByRecursion HasLine fs → ItemsHaveNumbers (frame_items fs)
frames_numbers [] h = tt
frames_numbers (f ∷ fs) h = (frame_numbers f h.0, frames_numbers fs h.1)

-- ---- how deep they nest

known_depth : (bytes : List ℕ) → depth (known_value bytes) ≡ 0
known_depth [] = refl
known_depth (b ∷ bytes) = refl

pub name_depth : (name : Option Qualified) → depth (name_value name) ≡ 0
name_depth None = refl
name_depth (Some name) = known_depth (qualified_text (Some name))

pub file_depth : (file : Option (List ℕ)) → depth (file_value file) ≡ 0
file_depth None = refl
file_depth (Some name) = known_depth name

frame_depth : (f : Frame) → depth (frame_value f) ≡ 1
frame_depth f = rw (name_depth f.name, file_depth f.file) refl

frames_depth : (fs : List Frame) → items_depth (frame_items fs) ≤ 1
frames_depth [] = omega arith
frames_depth (f ∷ fs) = omega (arith, frame_depth f, frames_depth fs)

-- ---- both

pub asked_reads_back : (word : List ℕ) (frames : List Frame) → AllByRecursion HasLine frames → document (print (json_tokens (asked_value word frames))) ≡ Some (asked_value word frames)
asked_reads_back word frames h = document-print (asked_value word frames) (tt, (frames_numbers frames h, tt)) (omega (arith, frames_depth frames))

pub unasked_reads_back : (line : List ℕ) → document (print (json_tokens (unasked_value line))) ≡ Some (unasked_value line)
unasked_reads_back line = document-print (unasked_value line) (tt, (tt, tt)) (omega arith)
