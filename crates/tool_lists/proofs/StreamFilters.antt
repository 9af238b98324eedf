-- The lines of streams by roles as the code has them, sorted or not, and by what they show.
use Rattle.std.proofs.Common.{◌≡◌, ℕ, List, [], ◌∷◌, flat_map, map, Bool, true, false, refl, ap, ◌∙◌, arith}
use Rattle.std.specs.List.{filter, range_with_len}
use Rattle.std.specs.List.Sorted.{IsNonDecreasingBy, IsStableByKey}
use Rattle.std.specs.Ordering.{nat_cmp}
use Rattle.pdb.specs.Container.{stream_size}
use Rattle.pdb_places.specs.AsIfEmpty.{if_read}
use Rattle.tool_lists.specs.StreamOrder.{is_of, rises}
use Rattle.tool_lists.specs.StreamRoles.{StreamRole, role_view, stream_number}
use Rattle.tool_lists.specs.StreamTexts.{line_in, role_line, stream_line}
use Rattle.tool_arguments.specs.declared.options.OutputFormat.{OutputFormat}
use Rattle.tool_lists.specs.declared.stream_roles.Role.{Role}
use Rattle.tool_lists.specs.declared.stream_roles.What.TheVariants as what
use Rattle.tool_lists.proofs.StreamOrder.{rises_sorted, sorted_same}

shown_by : (n : ℕ) (r : Role) (rs : List Role) (b : Bool) → is_of stream_number n r ≡ b → map role_view (filter (is_of stream_number n) rs) ≡ filter (is_of (λ (x : StreamRole). x.stream) n) (map role_view rs)
    → map role_view (filter (is_of stream_number n) (r ∷ rs)) ≡ filter (is_of (λ (x : StreamRole). x.stream) n) (map role_view (r ∷ rs))
shown_by n r rs true e more = rw e (ap (λ ys. role_view r ∷ ys) more)
shown_by n r rs false e more = rw e more

shown : (n : ℕ) (rs : List Role) → map role_view (filter (is_of stream_number n) rs) ≡ filter (is_of (λ (x : StreamRole). x.stream) n) (map role_view rs)
shown n [] = refl
shown n (r ∷ rs) = shown_by n r rs (is_of stream_number n r) refl (shown n rs)

abbrev a_role : ℕ → Role
a_role n = record { stream = n; what = what.Module 0 }

-- the lines by sorted roles are those by roles as they were
pub lines_sorted : (format : OutputFormat) (file : List ℕ) (xs ys : List Role) (count : ℕ) → IsStableByKey stream_number nat_cmp xs ys
    → flat_map (role_line format file ys) (range_with_len 0 count) ≡ flat_map (stream_line format file (map role_view xs)) (range_with_len 0 count)
lines_sorted format file xs ys count s =
    let each : role_line format file ys ≡ stream_line format file (map role_view xs) = λ i n. (ap (λ rs. line_in format n (if_read (stream_size file n)) (map role_view rs)) (sorted_same stream_number n (a_role n) xs ys refl s) ∙ ap (line_in format n (if_read (stream_size file n))) (shown n xs)) i in
    ap (λ (f : ℕ → List ℕ). flat_map f (range_with_len 0 count)) each

-- sorted roles are in the order of their streams
pub rises_sorted_roles : (ys : List Role) → IsNonDecreasingBy stream_number ys → rises stream_number 0 ys ≡ true
rises_sorted_roles ys s = rises_sorted stream_number 0 ys (λ d lt. omega arith) s
