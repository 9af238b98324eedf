use Rattle.std.proofs.Common.{◌≡◌, ℕ, Option, Some, None, List, IfSome, false, take}
use Rattle.bstr.specs.Find.{IsFirstByte, is_byte}
use Rattle.tool_printing.specs.Printing.{has_mark}
use Rattle.tool_printing.proofs.Marks.{no_mark, no_mark_at_all}
use Rattle.tool_printing.proofs.printer.first_mark.Goals as goal

before : (text : List ℕ) (r : Option ℕ) → IsFirstByte (is_byte 0) text r → IfSome r (λ k. has_mark (take k text) ≡ false)
before text None h = tt
before text (Some k) h = no_mark text k h.0.before

pub returns-clause-before : goal.returns-clause-before
returns-clause-before c = before c.args.text.now c.find_byte.result c.find_byte.ensures

none : (text : List ℕ) (r : Option ℕ) → IsFirstByte (is_byte 0) text r → r ≡ None → has_mark text ≡ false
none text None h e = no_mark_at_all text h
none text (Some k) h e = absurd cc

pub returns-clause-none : goal.returns-clause-none
returns-clause-none c e = none c.args.text.now c.find_byte.result c.find_byte.ensures e
