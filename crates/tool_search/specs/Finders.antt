-- What contracts see of the parents of sites.
use Rattle.tool_search.specs.declared.find_texts.Parent.{Parent as Read}
use Rattle.tool_search.specs.FindTexts.{Parent}

abbrev pub parent_view : Read → Parent
parent_view p = record { place = p.place; end = p.end }
