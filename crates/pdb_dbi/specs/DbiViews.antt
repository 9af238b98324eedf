-- What contracts see of the types with private fields.
use Rattle.std.specs.Prelude.{ℕ, List}
use Rattle.pdb_base.specs.Left.{Left}
use Rattle.pdb_base.specs.Text.{name_bytes}
use Rattle.pdb_base.specs.Tiling.{listing}
use Rattle.pdb_dbi.specs.declared.contributions.DBISectionContribution.{DBISectionContribution}
use Rattle.pdb_dbi.specs.declared.contributions.DBISectionContributionIter.{DBISectionContributionIter}
use Rattle.pdb_dbi.specs.declared.information.PDBInformation.{PDBInformation}
use Rattle.pdb_dbi.specs.declared.modules.ModuleIter.{ModuleIter}
use Rattle.pdb_dbi.specs.declared.names.StreamName.{StreamName}
use Rattle.pdb_dbi.specs.Contributions.{contributions}
use Rattle.pdb_dbi.specs.Information.{Information}
use Rattle.pdb_dbi.specs.Modules.{ModuleEntry, modules}
use Rattle.pdb_dbi.specs.Names.{Name}

-- the fields of an information stream, and its bytes
abbrev pub information : PDBInformation → Information
information i = record {
  version = i.version;
  signature = i.signature;
  age = i.age;
  guid = i.guid;
  names_offset = i.names_offset;
  names_size = i.names_size;
  bytes = i.stream;
}

-- a name, and its stream's number
abbrev pub stream_name : StreamName → Name
stream_name n = record { name = name_bytes n.name; stream = n.stream_id.0 }

-- the modules that an iterator has left, and perhaps a fault after them; the bytes of its list; its steps so far
abbrev pub modules_left : ModuleIter → Left ModuleEntry
modules_left it = listing modules it.buffer.bytes it.buffer.place

abbrev pub modules_bytes : ModuleIter → List ℕ
modules_bytes it = it.buffer.bytes

abbrev pub modules_steps : ModuleIter → ℕ
modules_steps it = it.steps.count

-- the same of an iterator over contributions
abbrev pub contributions_left : DBISectionContributionIter → Left DBISectionContribution
contributions_left it = listing (contributions it.record_size) it.buffer.bytes it.buffer.place

abbrev pub contributions_bytes : DBISectionContributionIter → List ℕ
contributions_bytes it = it.buffer.bytes

abbrev pub contributions_steps : DBISectionContributionIter → ℕ
contributions_steps it = it.steps.count
