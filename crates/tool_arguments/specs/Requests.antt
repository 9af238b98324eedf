-- Addresses whose code is asked for, and how it is written.
use Rattle.std.specs.Prelude.{ℕ, List, [], ◌∷◌, Bool, Option, Some, None, option_and_then, option_map, if◌then◌else◌}
use Rattle.std.specs.Option.{is_some}
use Rattle.tool_arguments.specs.CodeAddresses.{code_address, spelled_in}
use Rattle.tool_arguments.specs.declared.code_address.CodeAddress.{CodeAddress}
use Rattle.tool_arguments.specs.declared.code_address.CodeAddress.TheVariants.{Nowhere}
use Rattle.tool_arguments.specs.declared.code_address.SpelledAddress.{SpelledAddress}
use Rattle.tool_arguments.specs.declared.options.Detail.{Detail}
use Rattle.tool_arguments.specs.declared.options.Options.{Options}
use Rattle.tool_arguments.specs.declared.options.OutputFormat.{OutputFormat}
use Rattle.tool_arguments.specs.declared.options.OutputFormat.TheVariants.{Text, Json}
use Rattle.tool_arguments.specs.declared.requests.AddressWord.{AddressWord}
use Rattle.tool_arguments.specs.declared.requests.Request.{Request}
use Rattle.tool_arguments.specs.declared.requests.Style.{Style}
use Rattle.tool_arguments.specs.declared.requests.Style.TheVariants as written

-- how code is written: as text, as text behind a line with the argument, or as a JSON object with it
pub data StyleOf : Type 0 where
  frames : StyleOf
  headed : List ℕ → StyleOf
  object_of : List ℕ → StyleOf

-- an address, how its code is written, and what its text has beside the frames
pub record RequestOf : Type 0 where
  pub style : StyleOf
  pub detail : Detail
  pub address : CodeAddress

-- an argument, and the address that it spells
pub record AddressOf : Type 0 where
  pub argument : ℕ
  pub word : List ℕ
  pub address : SpelledAddress

abbrev pub style_view : Style → StyleOf
style_view written.Frames = frames
style_view (written.Headed word) = headed word.now
style_view (written.Object word) = object_of word.now

abbrev pub request_view : Request → RequestOf
request_view r = record { style = style_view r.style; detail = r.detail; address = r.address }

abbrev pub address_view : AddressWord → AddressOf
address_view a = record { argument = a.argument; word = a.word.now; address = a.address }

-- how the code of an argument is written, by the format of the output, and whether addresses stand before texts
abbrev pub style_of : OutputFormat → Bool → List ℕ → StyleOf
style_of Text addresses word = if addresses then headed word else frames
style_of Json addresses word = object_of word

abbrev pub request_at : Options → List ℕ → CodeAddress → RequestOf
request_at o word at = record { style = style_of o.format o.addresses word; detail = o.detail; address = at }

-- the address of code, by what the options say of the load address
abbrev pub address_by : Options → SpelledAddress → Option CodeAddress
address_by o spelled = code_address o.base o.own_size spelled

-- the argument of the first of these addresses that needs a base, where there is none
abbrev pub first_needing : Options → List AddressOf → Option ℕ
first_needing o [] = None
first_needing o (a ∷ others) = if is_some (address_by o a.address) then first_needing o others else Some a.argument

-- where an address needs a base and there is none, no code is at it
abbrev pub or_nowhere : Option CodeAddress → CodeAddress
or_nowhere None = Nowhere
or_nowhere (Some at) = at

-- the request of an argument that is an address
unfoldable pub request_of : Options → AddressOf → RequestOf
request_of o a = request_at o a.word (or_nowhere (address_by o a.address))

-- the request of a word; none where it is no address, or needs a base
unfoldable pub request_in : Options → List ℕ → Option RequestOf
request_in o word = option_map (request_at o word) (option_and_then (address_by o) (spelled_in word))
