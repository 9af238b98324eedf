-- The JSON values of lists, of keys and of errors read back.
use Rattle.std.proofs.Common.{◌≡◌, ℕ, ◌<◌, ◌^◌, List, [], ◌∷◌, Bool, true, false, cond, Option, Some, None, decimal, refl, arith}
use Rattle.std.specs.Prelude.{◌||◌, nat_le}
use Rattle.std.specs.Option.{unwrap_or}
use Rattle.std.specs.Str.{bytes_eq}
use Rattle.json.specs.Json.{document, null}
use Rattle.json.specs.Print.{print, IsNumber}
use Rattle.json.specs.Tree.{depth, items_depth, HasNumbers, ItemsHaveNumbers, json_tokens}
use Rattle.json.proofs.Printed.Decimals.{IsNumber-decimal}
use Rattle.json.proofs.Printed.Trees.{document-print}
use Rattle.pdb.specs.Error.{Error}
use Rattle.pdb.specs.Error.TheVariants as error
use Rattle.pdb.specs.ImageSectionHeader.{ImageSectionHeader}
use Rattle.pdb.specs.Modules.{ModuleEntry}
use Rattle.pdb.specs.Refusal.{number_of}
use Rattle.pdb_image.specs.Images.{Said}
use Rattle.pdb_image.specs.Debug.{Reference}
use Rattle.tool_output.specs.ErrorObjects.{error_value, none_value}
use Rattle.tool_program.specs.KeyLines.{image_value, pdb_value}
use Rattle.tool_lists.specs.ModuleLists.{listed_value, object_value, size_value}
use Rattle.tool_output.specs.Objects.{number_value, text_value}
use Rattle.tool_lists.specs.SectionTexts.{section_value}
use Rattle.tool_lists.specs.StreamRoles.{StreamRole}
use Rattle.tool_lists.specs.StreamTexts.{size_value as size_in_stream, stream_value, what_items}
use Rattle.tool_program.proofs.ReadBack.{number_below}

-- ---- errors

error_below : (e : Error) → number_of e < 2 ^ 64
error_below error.UnexpectedEof = omega arith
error_below (error.UnimplementedFeature feature) = omega arith
error_below error.UnrecognizedFileFormat = omega arith
error_below (error.InvalidPageSize n) = omega arith
error_below (error.PageReferenceOutOfRange n) = omega arith
error_below (error.StreamNotFound n) = omega arith
error_below error.StreamNameNotFound = omega arith
error_below error.GlobalSymbolsNotFound = omega arith
error_below error.AddressMapNotFound = omega arith
error_below (error.InvalidStreamLength part) = omega arith
error_below error.SymbolTooShort = omega arith
error_below (error.UnimplementedSymbolKind n) = omega arith
error_below (error.UnimplementedDebugSubsection n) = omega arith
error_below (error.UnimplementedFileChecksumKind n) = omega arith
error_below (error.InvalidFileChecksumOffset n) = omega arith
error_below (error.UnknownBinaryAnnotation n) = omega arith
error_below error.InvalidCompressedAnnotation = omega arith
error_below (error.NotACrossModuleRef n) = omega arith
error_below (error.CrossModuleRefNotFound n) = omega arith
error_below (error.UnexpectedNumericPrefix n) = omega arith
error_below error.IoError = omega arith
error_below error.OutOfMemory = omega arith

error_number : (e : Error) → IsNumber (decimal (number_of e))
error_number e = IsNumber-decimal (number_of e) (error_below e)

pub error_reads_back : (e : Error) → document (print (json_tokens (error_value null e))) ≡ Some (error_value null e)
error_reads_back e = document-print (error_value null e) (tt, (error_number e, (tt, tt))) (omega arith)

pub error_of_reads_back : (k : ℕ) (e : Error) → k < 2 ^ 64 → document (print (json_tokens (error_value (number_value k) e))) ≡ Some (error_value (number_value k) e)
error_of_reads_back k e h = document-print (error_value (number_value k) e) (IsNumber-decimal k h, (error_number e, (tt, tt))) (omega arith)

pub none_back : document (print (json_tokens (none_value null))) ≡ Some (none_value null)
none_back = document-print (none_value null) (tt, (tt, (tt, tt))) (omega arith)

pub none_of_back : (k : ℕ) → k < 2 ^ 64 → document (print (json_tokens (none_value (number_value k)))) ≡ Some (none_value (number_value k))
none_of_back k h = document-print (none_value (number_value k)) (IsNumber-decimal k h, (tt, (tt, tt))) (omega arith)

-- ---- modules

null_or_text : (t : Bool) (bytes : List ℕ) → HasNumbers (cond t null (text_value bytes))
null_or_text true bytes = tt
null_or_text false bytes = tt

null_or_text_depth : (t : Bool) (bytes : List ℕ) → depth (cond t null (text_value bytes)) ≡ 0
null_or_text_depth true bytes = refl
null_or_text_depth false bytes = refl

object_numbers : (m : ModuleEntry) → HasNumbers (object_value m)
object_numbers m = null_or_text (bytes_eq m.object_file_name [] || bytes_eq m.object_file_name m.module_name) m.object_file_name

object_depth : (m : ModuleEntry) → depth (object_value m) ≡ 0
object_depth m = null_or_text_depth (bytes_eq m.object_file_name [] || bytes_eq m.object_file_name m.module_name) m.object_file_name

sum_numbers_by : (t : Bool) (n : ℕ) → n < 2 ^ 64 → HasNumbers (cond t (number_value n) (text_value (decimal n)))
sum_numbers_by true n h = IsNumber-decimal n h
sum_numbers_by false n h = tt

sum_depth_by : (t : Bool) (n : ℕ) → depth (cond t (number_value n) (text_value (decimal n))) ≡ 0
sum_depth_by true n = refl
sum_depth_by false n = refl

sum_numbers : (n : ℕ) → n < 2 ^ 64 → HasNumbers (size_value n)
unfolding size_value
sum_numbers n h = sum_numbers_by (nat_le n 0x20000000000000) n h

sum_depth : (n : ℕ) → depth (size_value n) ≡ 0
unfolding size_value
sum_depth n = sum_depth_by (nat_le n 0x20000000000000) n

listed_depth : (size : ℕ → ℕ) (k : ℕ) (m : ModuleEntry) → depth (listed_value size k m) ≡ 1
listed_depth size k m = rw (sum_depth (size k), object_depth m) refl

pub module_reads_back : (size : ℕ → ℕ) (k : ℕ) (m : ModuleEntry) → k < 2 ^ 64 → size k < 2 ^ 64 → document (print (json_tokens (listed_value size k m))) ≡ Some (listed_value size k m)
module_reads_back size k m h s = document-print (listed_value size k m) (IsNumber-decimal k h, (sum_numbers (size k) s, (tt, (object_numbers m, tt)))) (omega (arith, listed_depth size k m))

-- ---- sections and streams

pub section_reads_back : (n : ℕ) (h : ImageSectionHeader) → n < 2 ^ 64 → h.virtual_size < 2 ^ 32 → document (print (json_tokens (section_value n h))) ≡ Some (section_value n h)
section_reads_back n h l s = document-print (section_value n h) (IsNumber-decimal n l, (tt, (number_below h.virtual_size s, (tt, (tt, tt))))) (omega arith)

size_numbers : (size : Option ℕ) → unwrap_or size 0 < 2 ^ 32 → HasNumbers (size_in_stream size)
size_numbers None h = tt
size_numbers (Some n) h = number_below n h

size_depth : (size : Option ℕ) → depth (size_in_stream size) ≡ 0
size_depth None = refl
size_depth (Some n) = refl

what_numbers : (here : List StreamRole) → ItemsHaveNumbers (what_items here)
what_numbers [] = tt
what_numbers (r ∷ rs) = (tt, what_numbers rs)

what_depth : (here : List StreamRole) → items_depth (what_items here) ≡ 0
what_depth [] = refl
what_depth (r ∷ rs) = rw (what_depth rs) refl

stream_depth : (n : ℕ) (size : Option ℕ) (here : List StreamRole) → depth (stream_value n size here) ≡ 2
stream_depth n size here = rw (size_depth size, what_depth here) refl

pub stream_reads_back : (n : ℕ) (size : Option ℕ) (here : List StreamRole) → n < 2 ^ 64 → unwrap_or size 0 < 2 ^ 32 → document (print (json_tokens (stream_value n size here))) ≡ Some (stream_value n size here)
stream_reads_back n size here h s = document-print (stream_value n size here) (IsNumber-decimal n h, (size_numbers size s, (what_numbers here, tt))) (omega (arith, stream_depth n size here))

-- ---- keys

pub key_reads_back : (name key : List ℕ) → document (print (json_tokens (pdb_value name key))) ≡ Some (pdb_value name key)
key_reads_back name key = document-print (pdb_value name key) (tt, (tt, tt)) (omega arith)

pub image_reads_back : (name : List ℕ) (i : Said) → document (print (json_tokens (image_value name i))) ≡ Some (image_value name i)
image_reads_back name i = by_pdb i i.pdb refl
  where
    by_pdb : (i : Said) (pdb : Option Reference) → i.pdb ≡ pdb → document (print (json_tokens (image_value name i))) ≡ Some (image_value name i)
    by_pdb i None e = document-print (image_value name i) (rw e (tt, (tt, (tt, (tt, tt))))) (rw e (omega arith))
    by_pdb i (Some r) e = document-print (image_value name i) (rw e (tt, (tt, (tt, (tt, tt))))) (rw e (omega arith))
