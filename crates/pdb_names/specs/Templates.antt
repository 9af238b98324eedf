-- Components of names of Microsoft's C++ with the arguments of templates. Types stand in one another at most 16 deep: what
-- reads a type takes the reading of those that are one deeper.
use Rattle.std.specs.Prelude.{ℕ, zero, suc, ◌+◌, ◌-◌, ◌==◌, ◌&&◌, ◌||◌, Bool, false, not, List, [], ◌∷◌, ◌++◌, length, drop, reverse, Option, Some, None, option_map, codes, nat_eq, slice_index, if◌then◌else◌}
use Rattle.std.specs.List.{ends_with, slice_get, starts_with}
use Rattle.pdb_names.specs.CNames.{is_name}
use Rattle.pdb_names.specs.KeptNames.{Got, Left, Word, again, begins_with_digit, got, left, plain, unnamed, with_pair, word, word_of}
use Rattle.pdb_names.specs.Numbers.{number_at}
use Rattle.pdb_names.specs.Pieces.{◌>>=◌, bounded, joined, qualified, until}
use Rattle.pdb_names.specs.TypeHeads.{Head, both, head_at, set, set_of, words}
use Rattle.pdb_names.specs.declared.type_heads.Set.{Set}
use Rattle.pdb_names.specs.declared.type_heads.Shape.{Shape}
use Rattle.pdb_names.specs.declared.type_heads.Shape.TheVariants.{Simple, Class, Marked}

-- a type: its text, which of const and volatile isn't yet in the text, and what is left behind it
pub record Typed : Type 0 where
  pub text : List ℕ
  pub set : Set
  pub left : Left

abbrev pub typed : List ℕ → Set → Left → Typed
typed text set left = record { text = text; set = set; left = left }

-- what reads a type
abbrev pub Reading : Type 0
Reading = Left → Option Typed

-- the texts of a list so far, and what is left behind them
pub record Listed : Type 0 where
  pub texts : List (List ℕ)
  pub left : Left

abbrev pub listed : List (List ℕ) → Left → Listed
listed texts left = record { texts = texts; left = left }

abbrev pub with_text : List (List ℕ) → Got → Listed
with_text texts g = listed (texts ++ g.text ∷ []) g.left

-- lists end with an @
abbrev pub is_end : Listed → Bool
is_end l = starts_with nat_eq l.left.rest (codes "@")

abbrev pub behind_end : Listed → Listed
behind_end l = listed l.texts (left (drop 1 l.left.rest) l.left.table)

-- ---- arguments

abbrev pub without_text : ℕ → Listed → Option Listed
without_text n l = Some (listed l.texts (left (drop n l.left.rest) l.left.table))

abbrev pub with_number : Listed → Word → Listed
with_number l n = with_text l.texts (got n.bytes (left n.rest l.left.table))

abbrev pub with_type : Listed → Typed → Listed
with_type l t = with_text l.texts (got (t.text ++ words t.set) t.left)

abbrev pub is_pack : List ℕ → Bool
is_pack s = starts_with nat_eq s (codes "$$V") || starts_with nat_eq s (codes "$$Z")

-- one argument more: ends of packs have no text
unfoldable pub one_argument : Reading → Listed → Option Listed
one_argument reading l =
    if is_pack l.left.rest then without_text 3 l
    else if starts_with nat_eq l.left.rest (codes "$S") then without_text 2 l
    else if starts_with nat_eq l.left.rest (codes "$0") then option_map (with_number l) (number_at (drop 2 l.left.rest))
    else option_map (with_type l) (reading l.left)

unfoldable pub all_arguments : Reading → Listed → Option Listed
all_arguments reading l = until is_end (one_argument reading) (length l.left.rest + 1) l

-- angle brackets don't touch
abbrev pub closed : List ℕ → List ℕ
closed t = (if ends_with nat_eq t (codes ">") then t ++ codes " " else t) ++ codes ">"

abbrev pub bracketed : List ℕ → List ℕ
bracketed t = codes "<" ++ closed t

abbrev pub bracketed_texts : Listed → Option Word
bracketed_texts l = option_map (λ t. word_of t (drop 1 l.left.rest)) (bounded (bracketed (joined (codes ",") l.texts)))

-- the text of arguments up to an @
unfoldable pub arguments : Reading → Left → Option Word
arguments reading l = all_arguments reading (listed [] l) >>= bracketed_texts

abbrev pub is_template_name : List ℕ → Bool
is_template_name s = is_name s && not (begins_with_digit s)

-- a template by its name: its arguments have a table of their own
unfoldable pub template_by : Reading → Word → Option Word
template_by reading w =
    if is_template_name w.bytes
    then option_map (λ a. word_of (w.bytes ++ a.bytes) a.rest) (arguments reading (left w.rest (with_pair w.bytes w.bytes [])))
    else None

unfoldable pub template : Reading → List ℕ → Option Word
template reading s = word s >>= template_by reading

-- ---- components

-- a template is kept by its text behind ?$
abbrev pub kept_template : Left → Word → Got
kept_template l t = got t.bytes (left t.rest (with_pair (codes "?$" ++ t.bytes) t.bytes l.table))

abbrev pub plain_component : Left → Option Got
plain_component l = if starts_with nat_eq l.rest (codes "?A") then word l.rest >>= unnamed l.table else word l.rest >>= plain l.table

-- a component at the front
unfoldable pub component : Reading → Left → Option Got
component reading l =
    if begins_with_digit l.rest then again (slice_get l.table (slice_index l.rest 0 - 48)) l
    else if starts_with nat_eq l.rest (codes "?$") then option_map (kept_template l) (template reading (drop 2 l.rest))
    else plain_component l

unfoldable pub one_more : Reading → Listed → Option Listed
one_more reading l = option_map (with_text l.texts) (component reading l.left)

unfoldable pub all_components : Reading → Listed → Option Listed
all_components reading l = until is_end (one_more reading) (length l.left.rest + 1) l

-- components up to an @
unfoldable pub components : Reading → Left → Option Listed
components reading l = option_map behind_end (all_components reading (listed [] l))

-- ---- types

-- texts from the last to the first behind a prefix: at least one
abbrev pub class_name : List ℕ → List (List ℕ) → Option (List ℕ)
class_name prefix ts = if length ts == 0 then None else option_map (λ t. prefix ++ t) (bounded (qualified (reverse ts)))

abbrev pub class_of : List ℕ → Listed → Option Typed
class_of prefix l = option_map (λ t. typed t (set false false) l.left) (class_name prefix l.texts)

-- the name of a class, which isn't an anonymous namespace
unfoldable pub class_type : Reading → List ℕ → Left → Option Typed
class_type reading prefix l = if starts_with nat_eq l.rest (codes "?A") then None else (components reading l >>= class_of prefix)

-- a type behind its const and volatile, and before a mark
abbrev pub with_mark : List ℕ → Set → Set → Typed → Typed
with_mark mark set s t = typed ((t.text ++ words (both s t.set)) ++ mark) set t.left

abbrev pub marked_by : Reading → List ℕ → Set → Option Set → Left → Option Typed
marked_by reading mark set None l = None
marked_by reading mark set (Some s) l = option_map (with_mark mark set s) (reading l)

unfoldable pub marked_type : Reading → List ℕ → Set → Left → Option Typed
marked_type reading mark set l = if length l.rest == 0 then None else marked_by reading mark set (set_of (slice_index l.rest 0)) (left (drop 1 l.rest) l.table)

abbrev pub type_in : Reading → Shape → List ℕ → Set → Left → Option Typed
type_in reading Simple text set l = Some (typed text set l)
type_in reading Class text set l = class_type reading text l
type_in reading Marked text set l = marked_type reading text set l

abbrev pub type_by : Reading → Left → Head → Option Typed
type_by reading l h = type_in reading h.shape h.text h.set (left h.rest l.table)

-- a type, so many of which may stand in one another
unfoldable pub typ : ℕ → Left → Option Typed
typ zero l = None
typ (suc d) l = head_at l.rest >>= type_by (typ d) l
