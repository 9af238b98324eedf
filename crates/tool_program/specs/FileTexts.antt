-- What is printed of a file.
use Rattle.std.specs.Prelude.{ℕ, List, map}
use Rattle.tool_addresses.specs.RequestTexts.{address_shown}
use Rattle.tool_arguments.specs.Operands.{word_of}
use Rattle.tool_arguments.specs.SourceViews.{source_view}
use Rattle.tool_arguments.specs.declared.tasks.FileTask.{FileTask}
use Rattle.tool_arguments.specs.declared.tasks.FileTask.TheVariants.{AllSymbols, Code, Find, Frames, Lines, Modules, Scopes, Sections, Sources, Streams, Symbols, Types, Where}
use Rattle.tool_lists.specs.FrameTexts.{frames_command}
use Rattle.tool_lists.specs.ModuleLists.{modules_command}
use Rattle.tool_lists.specs.SectionTexts.{sections_command}
use Rattle.tool_lists.specs.StreamTexts.{streams_command}
use Rattle.tool_printing.specs.Printing.{Shown, all_shown, shown}
use Rattle.tool_search.specs.LookupCommands.{find_command, sources_command, where_command}
use Rattle.tool_symbols.specs.SymbolCommands.{all_symbols_command, lines_command, scopes_command, symbols_command}
use Rattle.tool_types.specs.TypeTexts.{types_command}

-- the code at addresses, one after another; lines, scopes, symbols or files of modules; what has a name; lists
abbrev pub file_shown : List ℕ → FileTask → Shown
file_shown file (Code options addresses) = all_shown (address_shown file options) addresses.items
file_shown file (Lines ks) = shown (lines_command file ks.items)
file_shown file (Scopes ks) = shown (scopes_command file ks.items)
file_shown file (Symbols ks) = shown (symbols_command file ks.items)
file_shown file AllSymbols = shown (all_symbols_command file)
file_shown file (Types indices) = shown (types_command file indices.items)
file_shown file (Sources format ks) = shown (sources_command format file ks.items)
file_shown file (Find format words) = shown (find_command format file (map word_of words.items))
file_shown file (Where format asked) = shown (where_command format file (map source_view asked.items))
file_shown file (Modules format) = shown (modules_command format file)
file_shown file (Sections format) = shown (sections_command format file)
file_shown file (Frames format) = shown (frames_command format file)
file_shown file (Streams format) = shown (streams_command format file)
