use Rattle.std.proofs.Common.{rules}
use Rattle.pdb_file.proofs.Known.{known_at_first}
use Rattle.tool_program.proofs.key_line.is_image_file.Goals as goal

pub returns-in-Ok-clause-image : goal.returns-in-Ok-clause-image
returns-in-Ok-clause-image g c = λ G known size.
    let here = known_at_first _ _ _ _ _ G c.new-reading.ensures c.new-file.ensures known size in
    let image = rw here.1 at (c.in-Ok.ensures.image (c.begins_as_image.ensures.continues.known here.0).1) in
    search (rules, image)
