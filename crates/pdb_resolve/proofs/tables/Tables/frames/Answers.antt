use Rattle.std.proofs.Common.{ℕ, List, [], ◌∷◌, ◌++◌, Option, map, reverse, ap, ◌∙◌}
use Rattle.std.specs.Prelude.{option_copied}
use Rattle.pdb.specs.Answers.{string_table_in}
use Rattle.pdb_resolve.specs.AcrossModules.{global_id_in}
use Rattle.pdb_places.specs.AsIfEmpty.{if_read}
use Rattle.pdb_resolve.specs.FileParts.{names_in}
use Rattle.pdb_resolve.specs.Frames.{Frame, frame_named_by, frames_in, inlined_frame, outer_named}
use Rattle.pdb_code.specs.ModuleCode.{inlined_at, line_at, program_in}
use Rattle.pdb_resolve.proofs.tables.Tables.frames.Goals as goal

pub returns-clause-frames : goal.returns-clause-frames
unfolding frames_in names_in
returns-clause-frames g c = λ told n is.
    let before = c.inlined_frames.ensures.continues.told told in
    let q = c.args.place in
    let m = c.args.code.now.code.now in
    let name = outer_named n q m in
    let read = if_read (string_table_in c.args.pdb.now.file) in
    let after = c.strings_asked.new.pdb.file in
    c.in_ok-push_outer.ensures.pushed name (c.in_ok-naming.ensures.named n is)
    ∙ (ap (λ (fs : List Frame). fs ++ frame_named_by (option_copied c.in_ok-strings.strings) (program_in m) q name (line_at q m) ∷ []) (c.in_ok-frames.ensures.frames told)
    ∙ (ap (λ (s : Option (List ℕ)). map (inlined_frame (names_in after) (global_id_in after m) (program_in m)) (reverse (inlined_at q m)) ++ frame_named_by s (program_in m) q name (line_at q m) ∷ []) (c.in_ok-strings.ensures.is before)
    ∙ ap (λ (file : List ℕ). map (inlined_frame (names_in file) (global_id_in file m) (program_in m)) (reverse (inlined_at q m)) ++ frame_named_by read (program_in m) q name (line_at q m) ∷ []) c.in_ok-strings.ensures.continues.file))
