-- What contracts see of the code in which a variable is somewhere.
use Rattle.pdb_records.specs.RecordViews.{gaps_in}
use Rattle.tool_symbols.specs.VariablePlaces.{Extent}
use Rattle.tool_symbols.specs.VariablePlaces.Extent.{Everywhere, Nowhere, Within}
use Rattle.tool_symbols.specs.declared.variable_places.Extent.{Extent as ExtentRead}
use Rattle.tool_symbols.specs.declared.variable_places.Extent.TheVariants as read

abbrev pub shown_extent : ExtentRead → Extent
shown_extent read.Nowhere = Nowhere
shown_extent read.Everywhere = Everywhere
shown_extent (read.Within range gaps) = Within range (gaps_in gaps)
