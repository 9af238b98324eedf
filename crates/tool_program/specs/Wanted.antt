-- Which PDB is wanted, and what is printed of a file where one is.
use Rattle.std.specs.Prelude.{◌≡◌, ℕ, List, map, ◌⊎◌, Option, Some, None, IfSome, Result, Ok, Err, if◌then◌else◌, Vec, vec_items}
use Rattle.std.specs.Option.{option_map}
use Rattle.std.specs.Char.{to_ascii_uppercase}
use Rattle.std.specs.List.{filter}
use Rattle.std.specs.Str.{bytes_eq}
use Rattle.pdb.specs.Container.{opens}
use Rattle.pdb.specs.Error.{Error}
use Rattle.pdb.specs.Refusal.{◌>>=◌}
use Rattle.pdb.specs.Keys.{key_in, key_text}
use Rattle.pdb_image.specs.declared.error.ImageError.{ImageError}
use Rattle.pdb_image.specs.Debug.{Reference}
use Rattle.pdb_image.specs.Images.{Said, image_of}
use Rattle.tool_addresses.specs.AnsweredLines.{lines_of}
use Rattle.tool_addresses.specs.RequestTexts.{line_shown}
use Rattle.tool_arguments.specs.Options.{is_key_digit}
use Rattle.tool_arguments.specs.declared.options.Options.{Options}
use Rattle.tool_output.specs.declared.stop.Stop.{Stop}
use Rattle.tool_output.specs.declared.stop.Stop.TheVariants.{Image, Memory, NoPdb, Open, Read}
use Rattle.tool_program.specs.declared.wanted.ImageWants.{ImageWants}
use Rattle.tool_printing.specs.Printing.{Halted, Printed, Printing, Shown, all_shown}

-- the key that a value of `--key` spells: its hex digits, the letters as upper ones
abbrev pub wanted_key : List ℕ → List ℕ
wanted_key value = map to_ascii_uppercase (filter is_key_digit value)

-- the key and the path of the PDB that an image names, and the image's load address and size
pub record Wants : Type 0 where
  pub key : List ℕ
  pub path : List ℕ
  pub base : ℕ
  pub size : ℕ

abbrev pub wants_view : ImageWants → Wants
wants_view w = record { key = w.key.items; path = w.path.items; base = w.base; size = w.size }

abbrev pub wants_of : Said → Option Reference → Result Wants Stop
wants_of i None = Err NoPdb
wants_of i (Some r) = Ok (record { key = key_text r.guid r.age; path = r.path; base = i.base; size = i.size })

abbrev pub wants_by : Result Said ImageError → Result Wants Stop
wants_by (Ok i) = wants_of i i.pdb
wants_by (Err e) = Err (Image e)

abbrev pub wants_in : List ℕ → Result Wants Stop
wants_in image = wants_by (image_of image)

-- a key, where it isn't the wanted one
abbrev pub other_than : List ℕ → List ℕ → Option (List ℕ)
other_than wanted key = if bytes_eq key wanted then None else Some key

-- the key of an opened file, where another is wanted
abbrev pub other_key : List ℕ → Option (List ℕ) → Result (Option (List ℕ)) Error
other_key file None = Ok None
other_key file (Some wanted) = key_in file >>= λ key. Ok (other_than wanted key)

-- the text of a file was printed; of another than the wanted one nothing was
abbrev pub PrintedUnless : Shown → Printing → Printing → Option (List ℕ) → Type 0
PrintedUnless text old new None = Printed text old new
PrintedUnless text old new (Some key) = new ≡ old

-- a file's text was printed where it is the wanted one, and else its key is answered
abbrev pub IsPrinted : List ℕ → Option (List ℕ) → Shown → Printing → Printing → Option (List ℕ) → Type 0
IsPrinted file wanted text old new key = (other_key file wanted ≡ Ok key) × PrintedUnless text old new key

-- nothing was printed, or the file is the wanted one and a beginning of its text was
abbrev pub IsHalted : List ℕ → Option (List ℕ) → Shown → Printing → Printing → Type 0
IsHalted file wanted text old new = (new ≡ old) ⊎ ((other_key file wanted ≡ Ok None) × Halted text old new)

-- a call printed the text of a file, where it is the wanted one; a beginning of it where the call failed
abbrev pub PrintsWanted : {Z : Type 0} → List ℕ → Option (List ℕ) → Shown → Printing → Printing → Result (Option (Vec ℕ Z)) Stop → Type 0
PrintsWanted file wanted text old new (Ok key) = IsPrinted file wanted text old new (option_map vec_items key)
PrintsWanted file wanted text old new (Err stop) = IsHalted file wanted text old new

-- a call printed the texts of a reader's lines over it so
abbrev pub AnswersWanted : {Z : Type 0} → List ℕ → Option (List ℕ) → Options → Option (List ℕ) → Printing → Printing → Result (Option (Vec ℕ Z)) Stop → Type 0
AnswersWanted file wanted options input old new result = IfSome input (λ xs. PrintsWanted file wanted (all_shown (line_shown file options) (lines_of xs)) old new result)

-- why it can't be opened, or why it has no key to compare
abbrev pub IsRefused : List ℕ → Option (List ℕ) → Error → Type 0
IsRefused file wanted e = (opens file ≡ Err e) ⊎ (other_key file wanted ≡ Err e)

-- why an image wants nothing: a read error only where io holds
abbrev pub StopsImage : Type 0 → Stop → Type 0
StopsImage io Memory = Unit {0}
StopsImage io Read = io
StopsImage io (Open e) = Unit {0}
StopsImage io (Image e) = Unit {0}
StopsImage io NoPdb = Unit {0}
StopsImage io stop = ⊥
