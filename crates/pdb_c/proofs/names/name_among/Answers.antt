use Rattle.std.proofs.Common.{◌≡◌, ℕ, List, ◌∙◌, ap, length, min}
use Rattle.pdb_base.specs.Cursor.{Cursor}
use Rattle.pdb_base.specs.Fields.{cstring_at}
use Rattle.pdb_base.proofs.Numbers.{cstring_within}
use Rattle.pdb_base.proofs.Passing.{answers_reads}
use Rattle.pdb_c.proofs.names.name_among.Goals as goal

pub returns : goal.returns
returns c =
    let names : c.from-buffer.result.bytes ≡ c.args.names.now = ap (λ (k : Cursor). k.bytes) c.from-buffer.ensures in
    let bytes : c.seek.new.self.bytes ≡ c.args.names.now = ap (λ (k : Cursor). k.bytes) c.seek.ensures ∙ names in
    let place : c.seek.new.self.place ≡ min c.args.place (length c.args.names.now) =
    ap (λ (k : Cursor). k.place) c.seek.ensures ∙ ap (λ (b : List ℕ). min c.args.place (length b)) names in
    let same = ap (λ (b : List ℕ). cstring_at b c.seek.new.self.place) bytes ∙ cstring_within c.args.names.now c.args.place c.seek.new.self.place place in
    answers_reads _ _ _ c.parse_cstring.result _ _ _ same c.parse_cstring.ensures
