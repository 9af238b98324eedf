-- Section contributions as rows.
use Rattle.pdb.specs.DBISectionContribution.{DBISectionContribution}
use Rattle.pdb_c.specs.declared.contributions.PdbContribution.{PdbContribution}

-- a contribution as a row
abbrev pub contribution_row : DBISectionContribution → PdbContribution
contribution_row c = record {
  «module» = c.«module»;
  offset = c.offset.offset;
  size = c.size;
  characteristics = c.characteristics.0;
  data_crc = c.data_crc;
  reloc_crc = c.reloc_crc;
  section = c.offset.section;
}
