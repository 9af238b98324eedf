-- What the streams of a file are.
use Rattle.std.specs.Prelude.{ℕ, ◌+◌, List, [], ◌∷◌, ◌++◌, codes, flat_map, length, nat_lt, ◌==◌, if◌then◌else◌}
use Rattle.std.specs.Fmt.{decimal}
use Rattle.pdb.specs.Fields.{number}
use Rattle.pdb.specs.Names.{Name}
use Rattle.pdb.specs.DBIHeader.{DBIHeader}
use Rattle.pdb.specs.DBIExtraStreams.{DBIExtraStreams}
use Rattle.pdb.specs.Modules.{ModuleEntry}
use Rattle.pdb.specs.Text.{name_bytes}
use Rattle.tool_fields.specs.Values.{behind_blank}
use Rattle.tool_lists.specs.declared.stream_roles.Known.{Known}
use Rattle.tool_lists.specs.declared.stream_roles.Known.TheVariants.{OldDirectory, Information, Types, DebugInformation, Ids, GlobalIndex, PublicIndex, GlobalSymbols, Fpo, Exception, Fixup, OmapToSrc, OmapFromSrc, SectionHeaders, TokenRidMap, Xdata, Pdata, Framedata, OriginalSectionHeaders, TypeHashes, FurtherTypeHashes, IdHashes, FurtherIdHashes}
use Rattle.tool_lists.specs.declared.stream_roles.What.{What}
use Rattle.tool_lists.specs.declared.stream_roles.What.TheVariants as what
use Rattle.tool_lists.specs.declared.stream_roles.Role.{Role}

-- ---- how they are called

abbrev pub known_text : Known → List ℕ
known_text OldDirectory = codes "old directory"
known_text Information = codes "information"
known_text Types = codes "types"
known_text DebugInformation = codes "debug information"
known_text Ids = codes "ids"
known_text GlobalIndex = codes "index of global symbols"
known_text PublicIndex = codes "index of publics"
known_text GlobalSymbols = codes "global symbols"
known_text Fpo = codes "fpo"
known_text Exception = codes "exception"
known_text Fixup = codes "fixup"
known_text OmapToSrc = codes "omap to src"
known_text OmapFromSrc = codes "omap from src"
known_text SectionHeaders = codes "section headers"
known_text TokenRidMap = codes "token rid map"
known_text Xdata = codes "xdata"
known_text Pdata = codes "pdata"
known_text Framedata = codes "framedata"
known_text OriginalSectionHeaders = codes "original section headers"
known_text TypeHashes = codes "hashes of types"
known_text FurtherTypeHashes = codes "further hashes of types"
known_text IdHashes = codes "hashes of ids"
known_text FurtherIdHashes = codes "further hashes of ids"

-- what a stream is, and the name that it has
abbrev pub label_of : What → List ℕ
label_of (what.Known known) = known_text known
label_of (what.Name name) = codes "name"
label_of (what.Module k) = codes "module " ++ decimal k

abbrev pub name_of : What → List ℕ
name_of (what.Name name) = name_bytes name
name_of what = []

-- ---- which they are

-- a stream, what it is, and the name that it has: empty where it has none
pub record StreamRole : Type 0 where
  pub stream : ℕ
  pub label : List ℕ
  pub name : List ℕ

abbrev pub role_view : Role → StreamRole
role_view r = record { stream = r.stream; label = label_of r.what; name = name_of r.what }

-- in a text the name stands on one line
abbrev pub line_text : List ℕ → List ℕ → List ℕ
line_text label name = label ++ behind_blank name

-- in an object it stands as it is
abbrev pub whole_behind_blank : List ℕ → List ℕ
whole_behind_blank [] = []
whole_behind_blank (b ∷ name) = codes " " ++ b ∷ name

abbrev pub whole_text : List ℕ → List ℕ → List ℕ
whole_text label name = label ++ whole_behind_blank name

abbrev pub stream_number : Role → ℕ
stream_number r = r.stream

-- by an index, unless it is that of no stream
abbrev pub named : List ℕ → List ℕ → ℕ → List StreamRole
named label name n = if n == 65535 then [] else record { stream = n; label = label; name = name } ∷ []

abbrev pub indexed : List ℕ → ℕ → List StreamRole
indexed label n = named label [] n

-- those of one index in every file
abbrev pub fixed_roles : List StreamRole
fixed_roles = indexed (known_text OldDirectory) 0 ++ indexed (known_text Information) 1 ++ indexed (known_text Types) 2 ++ indexed (known_text DebugInformation) 3 ++ indexed (known_text Ids) 4

abbrev pub name_roles : List Name → List StreamRole
name_roles names = flat_map (λ n. named (codes "name") n.name n.stream) names

-- those that the header of the DBI stream names
abbrev pub header_roles : DBIHeader → List StreamRole
header_roles h = indexed (known_text GlobalIndex) h.gs_symbols_stream.0 ++ indexed (known_text PublicIndex) h.ps_symbols_stream.0 ++ indexed (known_text GlobalSymbols) h.symbol_records_stream.0

-- its further streams
abbrev pub first_extra_roles : DBIExtraStreams → List StreamRole
first_extra_roles x = indexed (known_text Fpo) x.fpo.0 ++ indexed (known_text Exception) x.exception.0 ++ indexed (known_text Fixup) x.fixup.0 ++ indexed (known_text OmapToSrc) x.omap_to_src.0 ++ indexed (known_text OmapFromSrc) x.omap_from_src.0

abbrev pub later_extra_roles : DBIExtraStreams → List StreamRole
later_extra_roles x = indexed (known_text SectionHeaders) x.section_headers.0 ++ indexed (known_text TokenRidMap) x.token_rid_map.0 ++ indexed (known_text Xdata) x.xdata.0 ++ indexed (known_text Pdata) x.pdata.0 ++ indexed (known_text Framedata) x.framedata.0 ++ indexed (known_text OriginalSectionHeaders) x.original_section_headers.0

abbrev pub extra_roles : DBIExtraStreams → List StreamRole
extra_roles x = first_extra_roles x ++ later_extra_roles x

-- those of modules, of which the first has this index
abbrev pub module_roles : ℕ → List ModuleEntry → List StreamRole
module_roles k [] = []
module_roles k (m ∷ ms) = indexed (codes "module " ++ decimal k) m.stream ++ module_roles (k + 1) ms

-- those of hashes: two indices at 20 and 22 of a stream of types or ids, where it has a header
abbrev pub hash_roles : List ℕ → List ℕ → List ℕ → List StreamRole
hash_roles hashes further b = if nat_lt (length b) 56 then [] else indexed hashes (number b 20 2) ++ indexed further (number b 22 2)
