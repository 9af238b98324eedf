use Rattle.std.proofs.Common.{◌≡◌, ℕ, List, ◌∙◌, ap, arith, ◌+◌, ◌-◌, length, min}
use Rattle.pdb_base.specs.Cursor.{Cursor}
use Rattle.pdb_base.specs.Fields.{cstring_at}
use Rattle.pdb_base.proofs.Numbers.{cstring_within}
use Rattle.pdb_base.proofs.Passing.{answers_reads}
use Rattle.pdb_base.proofs.string_table.StringTable.get.Goals as goal

pub returns : goal.returns
returns c =
    let d : 12 + c.self.inside.size - 12 ≡ c.self.inside.size = omega arith in
    let names : c.from-buffer.result.bytes ≡ c.args.self.now =
    ap (λ (k : Cursor). k.bytes) c.from-buffer.ensures ∙ rw (d, c.as_slice-bytes.ensures.bytes) c.self.view_is in
    let bytes : c.seek.new.self.bytes ≡ c.args.self.now = ap (λ (k : Cursor). k.bytes) c.seek.ensures ∙ names in
    let place : c.seek.new.self.place ≡ min c.args.offset.0 (length c.args.self.now) =
    ap (λ (k : Cursor). k.place) c.seek.ensures ∙ ap (λ (b : List ℕ). min c.args.offset.0 (length b)) names in
    let same = ap (λ (b : List ℕ). cstring_at b c.seek.new.self.place) bytes ∙ cstring_within c.args.self.now c.args.offset.0 c.seek.new.self.place place in
    answers_reads _ _ _ c.parse_cstring.result _ _ _ same c.parse_cstring.ensures
