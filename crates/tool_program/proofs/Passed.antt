-- Calls over a file that pass on how another one ended.
use Rattle.std.proofs.Common.{◌≡◌, ◌≢◌, ℕ, Bool, true, inl, inr, List, Option, Some, None, length, Result, Ok, Err, refl, sym, ◌∙◌}
use Rattle.std.specs.Prelude.{IfErr, IfOk, IfSome, IsErrAnd, IsErrOf, OnOk, Vec}
use Rattle.pdb.specs.Container.{opens}
use Rattle.pdb.specs.Error.{Error}
use Rattle.pdb_file.specs.FileBytes.{size_by}
use Rattle.pdb_file.specs.declared.bytes.FileBytes.{FileBytes}
use Rattle.tool_arguments.specs.Operands.{WordAt}
use Rattle.tool_arguments.specs.declared.options.KeyFormat.{KeyFormat}
use Rattle.tool_arguments.specs.declared.options.OutputFormat.{OutputFormat}
use Rattle.tool_check.specs.CheckTexts.{check_text, findings_text, is_nothing}
use Rattle.tool_output.specs.EachFile.{GivesText, file_text_view}
use Rattle.tool_output.specs.Stops.{StopsAnswering, StopsComposing, StopsOpening, StopsWriting}
use Rattle.tool_output.specs.declared.each_file.FileText.{FileText}
use Rattle.tool_output.specs.declared.stop.Stop.{Stop}
use Rattle.tool_output.specs.declared.stop.Stop.TheVariants.{Input, Memory, Open, Read, Write}
use Rattle.tool_program.specs.Hosts.{OpensAs}
use Rattle.tool_program.specs.KeyLines.{key_line}
use Rattle.tool_program.specs.SeveralFiles.{checked_by, keyed, line_told}
use Rattle.tool_program.specs.Wanted.{IsHalted, PrintsWanted}
use Rattle.tool_printing.specs.Printing.{Printing, Shown}

-- ---- errors that are passed on

pub same_stop : {X : Type 0} (r : Result X Stop) (a b : Stop) → IsErrAnd r (λ x. x ≡ a) → IsErrOf r b → a ≡ b
same_stop (Ok x) a b is of = absurd is
same_stop (Err x) a b is of = let there : x ≡ b = cc in sym is ∙ there

-- what composes a text runs out of memory, or can't read
pub composing_only : {X : Type 0} (io : Type 0) (r : Result X Stop) (a b : Stop) → IsErrAnd r (λ x. x ≡ a) → StopsComposing io a → b ≢ Memory → b ≢ Read → IsErrOf r b → ⊥
composing_only io r Memory b is stops m n of = m (sym (same_stop r Memory b is of))
composing_only io r Read b is stops m n of = n (sym (same_stop r Read b is of))
composing_only io r a b is stops m n of = absurd stops

-- and where no read fails there is no read error
pub unread_composing : {X : Type 0} (io : Type 0) (r : Result X Stop) (a : Stop) → IsErrAnd r (λ x. x ≡ a) → StopsComposing io a → (io → ⊥) → IsErrOf r Read → ⊥
unread_composing io r Memory is stops never of = let there = same_stop r Memory Read is of in absurd cc
unread_composing io r Read is stops never of = never stops
unread_composing io r a is stops never of = absurd stops

pub unread_writing : {X : Type 0} (io : Type 0) (r : Result X Stop) (a : Stop) → IsErrAnd r (λ x. x ≡ a) → StopsWriting io a → (io → ⊥) → IsErrOf r Read → ⊥
unread_writing io r Memory is stops never of = let there = same_stop r Memory Read is of in absurd cc
unread_writing io r Write is stops never of = let there = same_stop r Write Read is of in absurd cc
unread_writing io r Read is stops never of = never stops
unread_writing io r a is stops never of = absurd stops

pub unread_answering : {X : Type 0} (io : Type 0) (r : Result X Stop) (a : Stop) → IsErrAnd r (λ x. x ≡ a) → StopsAnswering io a → (io → ⊥) → IsErrOf r Read → ⊥
unread_answering io r Memory is stops never of = let there = same_stop r Memory Read is of in absurd cc
unread_answering io r Write is stops never of = let there = same_stop r Write Read is of in absurd cc
unread_answering io r Input is stops never of = let there = same_stop r Input Read is of in absurd cc
unread_answering io r Read is stops never of = never stops
unread_answering io r a is stops never of = absurd stops

-- ---- texts of a file that may be the wanted one

pub wanted_err : {Z : Type 0} (file : List ℕ) (wanted : Option (List ℕ)) (text : Shown) (old new : Printing) (r : Result (Option (Vec ℕ Z)) Stop) (P : Stop → Type 0)
    → IsErrAnd r P → IsHalted file wanted text old new → PrintsWanted file wanted text old new r
wanted_err file wanted text old new (Ok key) P is h = absurd is
wanted_err file wanted text old new (Err e) P is h = h

-- ---- texts of files

-- a file that can't be opened has none
pub gives_refused : (format : OutputFormat) (name file : List ℕ) (io : Type 0) (r : Result FileText Stop) (s : Stop) → IsErrAnd r (λ x. x ≡ s) → StopsOpening io s → (io → ⊥)
    → ((e : Error) → s ≡ Open e → opens file ≡ Err e) → GivesText r (checked_by format name file (opens file))
gives_refused format name file io (Ok p) s is stops never refused = absurd is
gives_refused format name file io (Err x) Memory is stops never refused = inl is
gives_refused format name file io (Err x) Read is stops never refused = absurd (never stops)
gives_refused format name file io (Err x) (Open e) is stops never refused = inr (rw (refused e refl, is) refl)
gives_refused format name file io (Err x) s is stops never refused = absurd stops

-- an opened one has its own
pub gives_text : (format : OutputFormat) (name file : List ℕ) (io : Type 0) (r : Result FileText Stop) → opens file ≡ Ok tt → IfOk r (λ p. p.text.items ≡ check_text format name file) → IfOk r (λ p. p.is_well ≡ is_nothing (findings_text format name file))
    → IfErr r (StopsComposing io) → (io → ⊥) → GivesText r (checked_by format name file (opens file))
gives_text format name file io (Ok p) opened text well stops never = rw (opened, text, well) refl
gives_text format name file io (Err Memory) opened text well stops never = inl refl
gives_text format name file io (Err Read) opened text well stops never = absurd (never stops)
gives_text format name file io (Err s) opened text well stops never = absurd stops

pub ok_text : (format : OutputFormat) (name file : List ℕ) (r : Result FileText Stop) → opens file ≡ Ok tt → IfOk r (λ p. p.text.items ≡ check_text format name file) → IfOk r (λ p. p.is_well ≡ is_nothing (findings_text format name file))
    → IfOk r (λ p. checked_by format name file (opens file) ≡ Ok (file_text_view p))
ok_text format name file (Ok p) opened text well = rw (opened, text, well) refl
ok_text format name file (Err s) opened text well = tt

-- ---- lines of keys

line_by : (format : KeyFormat) (name file : List ℕ) (r : Result FileText Stop) (s : Stop) → IsErrAnd r (λ x. x ≡ s)
    → ((x : Stop) → x ≢ Memory → x ≢ Read → x ≡ s → key_line format name file ≡ Err x) → (s ≡ Read → ⊥) → GivesText r (line_told (key_line format name file))
line_by format name file (Ok p) s is told never = absurd is
line_by format name file (Err x) Memory is told never = inl is
line_by format name file (Err x) Read is told never = absurd (never refl)
line_by format name file (Err x) s is told never = inr (rw (told s (λ e. absurd cc) (λ e. absurd cc) refl, is) refl)

-- a file that has no line
pub line_stopped : {R : Type 0} (known : FileBytes R → Option (List ℕ)) (steady : FileBytes R → Bool) (b : FileBytes R) (read : Result (List ℕ) Stop) (format : KeyFormat) (name : WordAt) (r : Result FileText Stop) (s : Stop)
    → OpensAs known steady (Ok b) read → IsErrAnd r (λ x. x ≡ s)
    → ((file : List ℕ) → known b ≡ Some file → length file ≡ size_by b → (x : Stop) → x ≢ Memory → x ≢ Read → x ≡ s → key_line format name.word file ≡ Err x)
    → (steady b ≡ true → (file : List ℕ) → known b ≡ Some file → length file ≡ size_by b → s ≡ Read → ⊥) → GivesText r (keyed format name read)
line_stopped known steady b (Err e) format name r s opened is told never = absurd opened
line_stopped known steady b (Ok file) format name r s opened is told never =
    line_by format name.word file r s is (told file opened.bytes opened.all) (never opened.reads file opened.bytes opened.all)

-- ---- what holds of bytes that are known

pub if_some_on : {A : Type 0} (P Q : A → Type 0) (o : Option A) → ((x : A) → P x → Q x) → IfSome o P → IfSome o Q
if_some_on P Q None f h = tt
if_some_on P Q (Some x) f h = f x h

pub if_some_there : {A : Type 0} (P : A → Type 0) (o : Option A) → ((x : A) → P x) → IfSome o P
if_some_there P None f = tt
if_some_there P (Some x) f = f x

-- what holds anyhow holds where a call succeeds
pub on_ok : {X E : Type 0} (r : Result X E) (P : Type 0) → P → OnOk r P
on_ok (Ok x) P h = h
on_ok (Err e) P h = tt
