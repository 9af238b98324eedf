-- Crash text with its frames.
use Rattle.std.specs.Prelude.{ℕ, List, [], ◌∷◌, ◌++◌, length, nat_lt, map, ◌||◌, ◌&&◌, not, is_some, Bool, true, false, if◌then◌else◌, None}
use Rattle.pdb_stacks.specs.Courses.{course_after, has_return_addresses}
use Rattle.pdb_stacks.specs.FrameNumbers.{frame_number}
use Rattle.pdb_stacks.specs.LineHeadings.{heading_of}
use Rattle.pdb_stacks.specs.LineReferences.{bytes_of}
use Rattle.pdb_stacks.specs.declared.course.Course.{Course}
use Rattle.pdb_stacks.specs.declared.course.ReturnAddresses.{ReturnAddresses}
use Rattle.pdb_stacks.specs.declared.headings.Heading.{Heading}
use Rattle.pdb_stacks.specs.declared.headings.Heading.TheVariants.{Unloaded, Module, Inline, Other}
use Rattle.pdb_stacks.specs.declared.module_lists.ListedModule.{ListedModule}
use Rattle.tool_stacks.specs.Answers.{Answers}
use Rattle.tool_stacks.specs.Beginnings.{blanked, has_mark}
use Rattle.tool_stacks.specs.Frames.{Showing, line_shown}
use Rattle.tool_stacks.specs.LineUses.{Heard, heard_of, line_heard, line_kind, with_module}
use Rattle.tool_stacks.specs.Missing.{Missing, missing_of}
use Rattle.tool_stacks.specs.declared.line.LineUse.{LineUse}
use Rattle.tool_stacks.specs.declared.line.LineUse.TheVariants.{Nothing, Fault, References}
use Rattle.tool_stacks.specs.declared.stack.StackText.{StackText}

-- ---- a line by its heading: the kind of its references, what is known of modules behind it, and its frames

abbrev pub kind_under : Heading → List ℕ → Heard → LineUse
kind_under Unloaded line k = Nothing
kind_under (Module m) line k = Nothing
kind_under Inline line k = Nothing
kind_under Other line k = line_kind line k

-- a listed module counts, unless the list of unloaded ones runs
abbrev pub listing : Bool → List ℕ → ListedModule → Heard → Heard
listing runs line m k = if runs then k else record { modules = with_module (bytes_of line m.name) m.start m.size k.modules; failed = k.failed }

abbrev pub heard_under : Heading → Bool → List ℕ → Heard → Heard
heard_under Unloaded runs line k = k
heard_under (Module m) runs line k = listing runs line m k
heard_under Inline runs line k = k
heard_under Other runs line k = line_heard line k

abbrev pub shown_under : Heading → Answers → Bool → List ℕ → Heard → Showing → Showing
shown_under Unloaded a is_return line k s = s
shown_under (Module m) a is_return line k s = s
shown_under Inline a is_return line k s = s
shown_under Other a is_return line k s = line_shown a is_return line k s

-- ---- line by line

-- what the lines so far say, the modules without a PDB, whether a line was read, the text has references, and one has frames
pub record Reading : Type 0 where
  pub which : ReturnAddresses
  pub course : Course
  pub heard : Heard
  pub missing : List Missing
  pub begun : Bool
  pub references : Bool
  pub answered : Bool

abbrev pub reading_of : StackText → Reading
reading_of t = record {
  which = t.which;
  course = t.course;
  heard = heard_of t.known;
  missing = map missing_of t.shown.missing.items;
  begun = t.is_begun;
  references = t.has_references;
  answered = t.has_frames;
}

-- no frames so far
abbrev pub fresh : List Missing → Showing
fresh missing = record { frames = []; last = None; missing = missing }

abbrev pub is_return_line : Reading → List ℕ → Bool
is_return_line r line = has_return_addresses r.which r.course.had_references (frame_number line)

-- the frames of a line
abbrev pub shown_in : Answers → Reading → List ℕ → Showing
shown_in a r line = shown_under (heading_of line) a (is_return_line r line) line r.heard (fresh r.missing)

abbrev pub has_references : LineUse → Bool
has_references Nothing = false
has_references Fault = false
has_references References = true

abbrev pub is_some_use : LineUse → Bool
is_some_use Nothing = false
is_some_use Fault = true
is_some_use References = true

abbrev pub kind_in : Reading → List ℕ → LineUse
kind_in r line = kind_under (heading_of line) line r.heard

-- behind a line with these frames
abbrev pub read_with : Reading → List ℕ → Showing → Reading
read_with r line s = record {
  which = r.which;
  course = course_after r.course (heading_of line) (has_references (kind_in r line));
  heard = heard_under (heading_of line) r.course.lists_unloaded line r.heard;
  missing = s.missing;
  begun = true;
  references = r.references || is_some_use (kind_in r line);
  answered = r.answered || is_some s.last;
}

abbrev pub read_after : Answers → Reading → List ℕ → Reading
read_after a r line = read_with r line (shown_in a r line)

-- the mark of UTF-8 at the text's begin counts as blanks
abbrev pub searched : Reading → List ℕ → List ℕ
searched r line = if not r.begun && has_mark line then blanked line else line

-- a line as it stands, and the frames behind it; a last line without its end gets one if frames follow
abbrev pub line_end : Bool → List ℕ → List ℕ
line_end ended frames = if ended || nat_lt 0 (length frames) then 10 ∷ [] else []

abbrev pub line_text : List ℕ → Bool → List ℕ → List ℕ
line_text line ended frames = line ++ line_end ended frames ++ frames

-- ---- what a program writes of a line

abbrev pub read_line : Answers → Reading → List ℕ → Reading
read_line a r line = read_after a r (searched r line)

abbrev pub frames_in : Answers → Reading → List ℕ → List ℕ
frames_in a r line = (shown_in a r (searched r line)).frames

-- those of the line that was read last
abbrev pub last_frames : StackText → List ℕ
last_frames t = t.shown.frames.items

-- before the first line
abbrev pub begun : ReturnAddresses → Reading
begun which = record {
  which = which;
  course = record { lists_unloaded = false; had_references = false };
  heard = record { modules = record { names = []; ranges = [] }; failed = None };
  missing = [];
  begun = false;
  references = false;
  answered = false;
}

-- with the range of a module
abbrev pub with_range_of : List ℕ → ℕ → ℕ → Reading → Reading
with_range_of name start size r = record {
  which = r.which;
  course = r.course;
  heard = record { modules = with_module name start size r.heard.modules; failed = r.heard.failed };
  missing = r.missing;
  begun = r.begun;
  references = r.references;
  answered = r.answered;
}
