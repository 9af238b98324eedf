-- What lines say of those behind them.
use Rattle.std.specs.Prelude.{ℕ, ◌==◌, not, Bool, true, false, Option, Some, None}
use Rattle.pdb_stacks.specs.declared.course.Course.{Course}
use Rattle.pdb_stacks.specs.declared.course.ReturnAddresses.{ReturnAddresses}
use Rattle.pdb_stacks.specs.declared.course.ReturnAddresses.TheVariants.{Never, Always, ButFirst}
use Rattle.pdb_stacks.specs.declared.headings.Heading.{Heading}
use Rattle.pdb_stacks.specs.declared.headings.Heading.TheVariants.{Unloaded, Module, Inline, Other}

-- the list of unloaded modules begins, goes on, or ends
abbrev pub unloaded_after : Bool → Heading → Bool
unloaded_after runs Unloaded = true
unloaded_after runs (Module m) = runs
unloaded_after runs Inline = false
unloaded_after runs Other = false

-- lines of inlined functions are left out of count
abbrev pub had_after : Bool → Heading → Bool → Bool
had_after had Unloaded has = false
had_after had (Module m) has = false
had_after had Inline has = had
had_after had Other has = has

abbrev pub course_after : Course → Heading → Bool → Course
course_after c h has = record { lists_unloaded = unloaded_after c.lists_unloaded h; had_references = had_after c.had_references h has }

-- frame 0 is no return address, and without a frame's number the first line isn't one
abbrev pub but_first : Bool → Option ℕ → Bool
but_first had None = had
but_first had (Some n) = not (n == 0)

abbrev pub has_return_addresses : ReturnAddresses → Bool → Option ℕ → Bool
has_return_addresses Never had number = false
has_return_addresses Always had number = true
has_return_addresses ButFirst had number = but_first had number
