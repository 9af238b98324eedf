-- What contracts see of a module's lists.
use Rattle.std.specs.Prelude.{ℕ, List, map, None}
use Rattle.pdb_base.specs.Left.{Left}
use Rattle.pdb_base.specs.Tiling.{listing}
use Rattle.pdb_modules.specs.declared.files.FileIterator.{FileIterator}
use Rattle.pdb_modules.specs.declared.exports.CrossModuleExport.{CrossModuleExport}
use Rattle.pdb_modules.specs.declared.exports.CrossModuleExportIter.{CrossModuleExportIter}
use Rattle.pdb_modules.specs.declared.inlinees.InlineeIterator.{InlineeIterator}
use Rattle.pdb_modules.specs.Inlinees.{InlineeEntry, inlinees}
use Rattle.pdb_modules.specs.Files as files
use Rattle.pdb_modules.specs.ExportViews.{export_of}

-- the files that an iterator has left, and perhaps a fault after them; the bytes of its part; its steps so far
abbrev pub files_left : FileIterator → Left files.FileOf
files_left it = files.files_left (files.entries_from it.buffer.bytes it.buffer.place)

abbrev pub files_part : FileIterator → List ℕ
files_part it = it.buffer.bytes

abbrev pub files_steps : FileIterator → ℕ
files_steps it = it.steps.count

-- the exports that an iterator has left; all those over which it goes; its steps so far
abbrev pub exports_left : CrossModuleExportIter → Left CrossModuleExport
exports_left it = record { items = map export_of it.exports.now; fault = None }

abbrev pub exports_listed : CrossModuleExportIter → List (ℕ × ℕ)
exports_listed it = it.listed.now

abbrev pub exports_steps : CrossModuleExportIter → ℕ
exports_steps it = it.steps.count

-- the inlined functions that an iterator has left, and perhaps a fault after them; the bytes of its part behind the signature; its steps so far
abbrev pub inlinees_left : InlineeIterator → Left InlineeEntry
inlinees_left it = listing (inlinees it.extended) it.buffer.bytes it.buffer.place

abbrev pub inlinees_part : InlineeIterator → List ℕ
inlinees_part it = it.buffer.bytes

abbrev pub inlinees_steps : InlineeIterator → ℕ
inlinees_steps it = it.steps.count
